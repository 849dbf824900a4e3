use Rattle.std.proofs.Common.{not, eqb, length, refl, ap, ◌∙◌, arith}
use Rattle.refusal.specs.Codes.{code_of}
use Rattle.refusal.proofs.Codes.{exit_status, numbered}
use Rattle.entry_lent.proofs.Images.{mode_found, mode_refused}
use Rattle.registers.specs.Steps.{WriteCycle}
use Rattle.entry_registers.proofs.Stepping.{wrong-mode, other-votes, kept, unequal, equal, command-refused, command-done}
use Rattle.entry_registers.proofs.write_cycle.Goals as goal

pub returns-in_err-check_mode-clause-value : goal.returns-in_err-check_mode-clause-value
returns-in_err-check_mode-clause-value c =
    let a = c.args in
    let s = a.block.now in
    let t = WriteCycle a.mode a.address a.value a.heard.members a.heard.joining a.heard.requests a.votes.now a.arrived in
    exit_status _ _ c.from_residual.ensures.1 ∙ ap code_of (mode_refused a.mode _ c.in_err-check_mode.ensures).1 ∙ wrong-mode t s (mode_refused a.mode _ c.in_err-check_mode.ensures).0

pub returns-in_err-check_mode-clause-block_after : goal.returns-in_err-check_mode-clause-block_after
returns-in_err-check_mode-clause-block_after c =
    let a = c.args in
    let s = a.block.now in
    let t = WriteCycle a.mode a.address a.value a.heard.members a.heard.joining a.heard.requests a.votes.now a.arrived in
    (kept t s 2 (λ z. omega arith) (wrong-mode t s (mode_refused a.mode _ c.in_err-check_mode.ensures).0)).1

pub returns-in_err-check_length-clause-value : goal.returns-in_err-check_length-clause-value
returns-in_err-check_length-clause-value c =
    let a = c.args in
    let s = a.block.now in
    let t = WriteCycle a.mode a.address a.value a.heard.members a.heard.joining a.heard.requests a.votes.now a.arrived in
    exit_status _ _ c.from_residual-in_err-check_length.ensures.1 ∙ (unequal _ (eqb (length a.votes.now) 1792) 3 c.in_err-check_length.ensures).1 ∙ (other-votes t s (mode_found a.mode _ c.in_ok-check_mode.ensures).0 (ap not (unequal _ (eqb (length a.votes.now) 1792) 3 c.in_err-check_length.ensures).0))

pub returns-in_err-check_length-clause-block_after : goal.returns-in_err-check_length-clause-block_after
returns-in_err-check_length-clause-block_after c =
    let a = c.args in
    let s = a.block.now in
    let t = WriteCycle a.mode a.address a.value a.heard.members a.heard.joining a.heard.requests a.votes.now a.arrived in
    (kept t s 3 (λ z. omega arith) (other-votes t s (mode_found a.mode _ c.in_ok-check_mode.ensures).0 (ap not (unequal _ (eqb (length a.votes.now) 1792) 3 c.in_err-check_length.ensures).0))).1

pub returns-in_err-command_first-clause-value : goal.returns-in_err-command_first-clause-value
returns-in_err-command_first-clause-value c =
    let a = c.args in
    let s = a.block.now in
    let t = WriteCycle a.mode a.address a.value a.heard.members a.heard.joining a.heard.requests a.votes.now a.arrived in
    exit_status _ _ c.from_residual-in_err-command_first.ensures.1 ∙ (command-refused a.mode a.address a.value a.heard.members a.heard.joining a.heard.requests a.votes.now a.arrived s (λ i. (c.slice_known-1.given i).fits) (mode_found a.mode _ c.in_ok-check_mode.ensures).0 (equal (eqb (length a.votes.now) 1792) c.in_ok-check_length.ensures) _ _ c.in_err-command_first.ensures.value c.in_err-command_first.ensures.block_after (numbered _)).0

pub returns-in_err-command_first-clause-block_after : goal.returns-in_err-command_first-clause-block_after
returns-in_err-command_first-clause-block_after c =
    let a = c.args in
    let s = a.block.now in
    let t = WriteCycle a.mode a.address a.value a.heard.members a.heard.joining a.heard.requests a.votes.now a.arrived in
    (command-refused a.mode a.address a.value a.heard.members a.heard.joining a.heard.requests a.votes.now a.arrived s (λ i. (c.slice_known-1.given i).fits) (mode_found a.mode _ c.in_ok-check_mode.ensures).0 (equal (eqb (length a.votes.now) 1792) c.in_ok-check_length.ensures) _ _ c.in_err-command_first.ensures.value c.in_err-command_first.ensures.block_after (numbered _)).1

pub returns-clause-value : goal.returns-clause-value
returns-clause-value c =
    let a = c.args in
    let s = a.block.now in
    let t = WriteCycle a.mode a.address a.value a.heard.members a.heard.joining a.heard.requests a.votes.now a.arrived in
    (command-done a.mode a.address a.value a.heard.members a.heard.joining a.heard.requests a.votes.now a.arrived s (λ i. (c.slice_known-1.given i).fits) (mode_found a.mode _ c.in_ok-check_mode.ensures).0 (equal (eqb (length a.votes.now) 1792) c.in_ok-check_length.ensures) 0 _ c.in_ok-command_first.ensures.value c.in_ok-command_first.ensures.block_after refl _ _ _ c.address_left-left.ensures c.write_and_decide.ensures.value c.write_and_decide.ensures.block_after).0

pub returns-clause-block_after : goal.returns-clause-block_after
returns-clause-block_after c =
    let a = c.args in
    let s = a.block.now in
    let t = WriteCycle a.mode a.address a.value a.heard.members a.heard.joining a.heard.requests a.votes.now a.arrived in
    (command-done a.mode a.address a.value a.heard.members a.heard.joining a.heard.requests a.votes.now a.arrived s (λ i. (c.slice_known-1.given i).fits) (mode_found a.mode _ c.in_ok-check_mode.ensures).0 (equal (eqb (length a.votes.now) 1792) c.in_ok-check_length.ensures) 0 _ c.in_ok-command_first.ensures.value c.in_ok-command_first.ensures.block_after refl _ _ _ c.address_left-left.ensures c.write_and_decide.ensures.value c.write_and_decide.ensures.block_after).1
