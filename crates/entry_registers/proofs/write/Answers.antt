use Rattle.std.proofs.Common.{refl, ◌∙◌, arith}
use borrow.Author.Tests.{lt-ltb, le-ltb}
use Rattle.refusal.proofs.Codes.{exit_status, numbered}
use Rattle.rules.specs.OneCycle.{quiet_in}
use Rattle.registers.specs.Steps.{Write}
use Rattle.registers.proofs.Blocks.{held_block}
use Rattle.registers.proofs.Found.{holds_length}
use Rattle.entry_registers.proofs.InPlace.{write_is}
use Rattle.entry_registers.proofs.Stepping.{holds, block_refused, past_the_end, passed, kept, done}
use Rattle.entry_registers.proofs.write.Goals as goal

pub returns-in_err-check-clause-value : goal.returns-in_err-check-clause-value
returns-in_err-check-clause-value c =
    let a = c.args in
    let t = Write a.mode a.address a.value in
    exit_status _ _ c.from_residual.ensures.1 ∙ (block_refused t a.block.now refl _ c.in_err-check.ensures (numbered _))

pub returns-in_err-check-clause-block_after : goal.returns-in_err-check-clause-block_after
returns-in_err-check-clause-block_after c =
    let a = c.args in
    let t = Write a.mode a.address a.value in
    (kept t a.block.now _ (numbered _) (block_refused t a.block.now refl _ c.in_err-check.ensures (numbered _))).1

pub returns-then-address-gt63-clause-value : goal.returns-then-address-gt63-clause-value
returns-then-address-gt63-clause-value c =
    let a = c.args in
    let t = Write a.mode a.address a.value in
    let m = holds a.mode a.block.now 0 c.in_ok-check.ensures refl in
    (past_the_end t a.block.now m.2 m.0 refl m.1 (lt-ltb 63 a.address c.if-address-gt63.true))

pub returns-then-address-gt63-clause-block_after : goal.returns-then-address-gt63-clause-block_after
returns-then-address-gt63-clause-block_after c =
    let a = c.args in
    let t = Write a.mode a.address a.value in
    let m = holds a.mode a.block.now 0 c.in_ok-check.ensures refl in
    (kept t a.block.now 14 (λ z. omega arith) (past_the_end t a.block.now m.2 m.0 refl m.1 (lt-ltb 63 a.address c.if-address-gt63.true))).1

pub put_value-requires : goal.put_value-requires
put_value-requires c =
    let a = c.args in
    let t = Write a.mode a.address a.value in
    let m = holds a.mode a.block.now 0 c.in_ok-check.ensures refl in
    holds_length (quiet_in a.mode) a.block.now m.0 m.1

pub returns-clause-value : goal.returns-clause-value
returns-clause-value c =
    let a = c.args in
    let t = Write a.mode a.address a.value in
    let m = holds a.mode a.block.now 0 c.in_ok-check.ensures refl in
    passed t a.block.now m.2 m.0 refl m.1 (le-ltb 63 a.address c.if-address-gt63.false)

pub returns-clause-block_after : goal.returns-clause-block_after
returns-clause-block_after c =
    let a = c.args in
    let t = Write a.mode a.address a.value in
    let m = holds a.mode a.block.now 0 c.in_ok-check.ensures refl in
    let same = held_block (quiet_in a.mode) a.block.now m.0 (λ i. (c.slice_known-1.given i).fits) m.1 in
    (done t a.block.now m.0 _ m.1 (passed t a.block.now m.2 m.0 refl m.1 (le-ltb 63 a.address c.if-address-gt63.false))
    (c.put_value.ensures ∙ write_is a.mode a.address a.value a.block.now m.0 m.2 same.0 same.1)).1
