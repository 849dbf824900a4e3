use Rattle.std.proofs.Common.{Bool, not, length, take, refl, sym, ap, ◌∙◌, arith, lt-ltb, le-ltb, eq-eqb}
use Rattle.state.specs.Image.{decoded}
use Rattle.refusal.proofs.Codes.{exit_status, numbered}
use Rattle.rules.specs.OneCycle.{quiet_in}
use Rattle.entry_lent.proofs.Images.{good_node}
use Rattle.registers.specs.Block.{registers_at}
use Rattle.registers.specs.Steps.{WriteCycle}
use Rattle.registers.proofs.Blocks.{held_block}
use Rattle.registers.proofs.Found.{holds_length}
use Rattle.entry_registers.specs.InPlace.{block_status}
use Rattle.entry_registers.proofs.InPlace.{cycle-is}
use Rattle.entry_registers.proofs.Stepping.{machine_of, in_mode_lem, placed, block_refused, past_the_end, passed, kept, done}
use Rattle.entry_registers.proofs.write_and_decide.Goals as goal

pub returns-in_err-n-clause-value : goal.returns-in_err-n-clause-value
returns-in_err-n-clause-value c =
    let a = c.args in
    let s = a.block.now in
    let t = WriteCycle a.mode a.address a.value a.heard.members a.heard.joining a.heard.requests a.votes.now a.arrived in
    exit_status _ _ c.from_residual.ensures.1 ∙ (block_refused t s (ap not (eq-eqb (length a.votes.now) 1792 c.requires.2)) _ (c.in_err-n.ensures.status ∙ ap (λ (q : Bool). block_status (registers_at q s)) c.is_quiet-quiet.ensures ∙ sym (in_mode_lem a.mode s c.requires.0)) (numbered _))

pub returns-in_err-n-clause-block_after : goal.returns-in_err-n-clause-block_after
returns-in_err-n-clause-block_after c =
    let a = c.args in
    let s = a.block.now in
    let t = WriteCycle a.mode a.address a.value a.heard.members a.heard.joining a.heard.requests a.votes.now a.arrived in
    (kept t s _ (numbered _) (block_refused t s (ap not (eq-eqb (length a.votes.now) 1792 c.requires.2)) _ (c.in_err-n.ensures.status ∙ ap (λ (q : Bool). block_status (registers_at q s)) c.is_quiet-quiet.ensures ∙ sym (in_mode_lem a.mode s c.requires.0)) (numbered _))).1

pub returns-then-address-gt63-clause-value : goal.returns-then-address-gt63-clause-value
returns-then-address-gt63-clause-value c =
    let a = c.args in
    let s = a.block.now in
    let t = WriteCycle a.mode a.address a.value a.heard.members a.heard.joining a.heard.requests a.votes.now a.arrived in
    let held = machine_of (quiet_in a.mode) s c.in_ok-n.n (c.in_ok-n.ensures.status ∙ ap (λ (q : Bool). block_status (registers_at q s)) c.is_quiet-quiet.ensures) (ap (λ (q : Bool). decoded q (take 24 s)) (sym c.is_quiet-quiet.ensures) ∙ c.in_ok-n.ensures.node) in
    (past_the_end t s c.requires.0 _ (ap not (eq-eqb (length a.votes.now) 1792 c.requires.2)) held (lt-ltb 63 a.address c.if-address-gt63.true))

pub returns-then-address-gt63-clause-block_after : goal.returns-then-address-gt63-clause-block_after
returns-then-address-gt63-clause-block_after c =
    let a = c.args in
    let s = a.block.now in
    let t = WriteCycle a.mode a.address a.value a.heard.members a.heard.joining a.heard.requests a.votes.now a.arrived in
    let held = machine_of (quiet_in a.mode) s c.in_ok-n.n (c.in_ok-n.ensures.status ∙ ap (λ (q : Bool). block_status (registers_at q s)) c.is_quiet-quiet.ensures) (ap (λ (q : Bool). decoded q (take 24 s)) (sym c.is_quiet-quiet.ensures) ∙ c.in_ok-n.ensures.node) in
    (kept t s 14 (λ z. omega arith) (past_the_end t s c.requires.0 _ (ap not (eq-eqb (length a.votes.now) 1792 c.requires.2)) held (lt-ltb 63 a.address c.if-address-gt63.true))).1

pub bounds-block-24 : goal.bounds-block-24
bounds-block-24 c =
    let a = c.args in
    let s = a.block.now in
    let t = WriteCycle a.mode a.address a.value a.heard.members a.heard.joining a.heard.requests a.votes.now a.arrived in
    let held = machine_of (quiet_in a.mode) s c.in_ok-n.n (c.in_ok-n.ensures.status ∙ ap (λ (q : Bool). block_status (registers_at q s)) c.is_quiet-quiet.ensures) (ap (λ (q : Bool). decoded q (take 24 s)) (sym c.is_quiet-quiet.ensures) ∙ c.in_ok-n.ensures.node) in
    omega (arith, holds_length (quiet_in a.mode) s _ held)

pub bounds-block-25 : goal.bounds-block-25
bounds-block-25 c =
    let a = c.args in
    let s = a.block.now in
    let t = WriteCycle a.mode a.address a.value a.heard.members a.heard.joining a.heard.requests a.votes.now a.arrived in
    let held = machine_of (quiet_in a.mode) s c.in_ok-n.n (c.in_ok-n.ensures.status ∙ ap (λ (q : Bool). block_status (registers_at q s)) c.is_quiet-quiet.ensures) (ap (λ (q : Bool). decoded q (take 24 s)) (sym c.is_quiet-quiet.ensures) ∙ c.in_ok-n.ensures.node) in
    omega (arith, holds_length (quiet_in a.mode) s _ held)

pub decide-requires-clause-nodes_bound : goal.decide-requires-clause-nodes_bound
decide-requires-clause-nodes_bound c =
    let a = c.args in
    let s = a.block.now in
    let t = WriteCycle a.mode a.address a.value a.heard.members a.heard.joining a.heard.requests a.votes.now a.arrived in
    let held = machine_of (quiet_in a.mode) s c.in_ok-n.n (c.in_ok-n.ensures.status ∙ ap (λ (q : Bool). block_status (registers_at q s)) c.is_quiet-quiet.ensures) (ap (λ (q : Bool). decoded q (take 24 s)) (sym c.is_quiet-quiet.ensures) ∙ c.in_ok-n.ensures.node) in
    let p = placed (quiet_in a.mode) s _ (λ i. (c.slice_known-1.given i).fits) held c.in_ok-n.n refl in (p.0, p.1, c.requires.2, holds_length (quiet_in a.mode) s _ held)

pub decide-requires-clause-block_value : goal.decide-requires-clause-block_value
decide-requires-clause-block_value c = good_node c.is_quiet-quiet.result (take 24 c.args.block.now) c.in_ok-n.n c.in_ok-n.ensures.node

pub returns-clause-value : goal.returns-clause-value
returns-clause-value c =
    let a = c.args in
    let s = a.block.now in
    let t = WriteCycle a.mode a.address a.value a.heard.members a.heard.joining a.heard.requests a.votes.now a.arrived in
    let held = machine_of (quiet_in a.mode) s c.in_ok-n.n (c.in_ok-n.ensures.status ∙ ap (λ (q : Bool). block_status (registers_at q s)) c.is_quiet-quiet.ensures) (ap (λ (q : Bool). decoded q (take 24 s)) (sym c.is_quiet-quiet.ensures) ∙ c.in_ok-n.ensures.node) in
    (passed t s c.requires.0 _ (ap not (eq-eqb (length a.votes.now) 1792 c.requires.2)) held (le-ltb 63 a.address c.if-address-gt63.false))

pub returns-clause-block_after : goal.returns-clause-block_after
returns-clause-block_after c =
    let a = c.args in
    let s = a.block.now in
    let t = WriteCycle a.mode a.address a.value a.heard.members a.heard.joining a.heard.requests a.votes.now a.arrived in
    let held = machine_of (quiet_in a.mode) s c.in_ok-n.n (c.in_ok-n.ensures.status ∙ ap (λ (q : Bool). block_status (registers_at q s)) c.is_quiet-quiet.ensures) (ap (λ (q : Bool). decoded q (take 24 s)) (sym c.is_quiet-quiet.ensures) ∙ c.in_ok-n.ensures.node) in
    (done t s _ _ held (passed t s c.requires.0 _ (ap not (eq-eqb (length a.votes.now) 1792 c.requires.2)) held (le-ltb 63 a.address c.if-address-gt63.false))
    (c.decide.ensures ∙ cycle-is (quiet_in a.mode) _ a.address a.value _ _ _ _ _ _ _ _ s _ c.is_quiet-quiet.ensures
    (held_block (quiet_in a.mode) s _ (λ i. (c.slice_known-1.given i).fits) held).1 refl c.requires.1 c.flags_after-flags.ensures c.enables_after-enables.ensures)).1
