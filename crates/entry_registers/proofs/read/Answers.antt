use Rattle.std.proofs.Common.{refl, ◌∙◌, arith}
use borrow.Author.Tests.{lt-ltb, le-ltb}
use Rattle.refusal.proofs.Codes.{exit_status, numbered}
use Rattle.rules.specs.OneCycle.{quiet_in}
use Rattle.registers.specs.Steps.{Read}
use Rattle.registers.proofs.Found.{holds_length}
use Rattle.entry_registers.proofs.Stepping.{holds, block_refused, past_the_end, passed, value-kept, byte_read}
use Rattle.entry_registers.proofs.read.Goals as goal

pub returns-in_err-check-clause-value : goal.returns-in_err-check-clause-value
returns-in_err-check-clause-value c =
    let a = c.args in
    let t = Read a.mode a.address in
    exit_status _ _ c.from_residual.ensures.1 ∙ (block_refused t a.block.now refl _ c.in_err-check.ensures (numbered _))

pub returns-in_err-check-clause-value_after : goal.returns-in_err-check-clause-value_after
returns-in_err-check-clause-value_after c =
    let a = c.args in
    let t = Read a.mode a.address in
    (value-kept t a.block.now a.value.now _ (numbered _) (block_refused t a.block.now refl _ c.in_err-check.ensures (numbered _))).1

pub returns-then-address-gt63-clause-value : goal.returns-then-address-gt63-clause-value
returns-then-address-gt63-clause-value c =
    let a = c.args in
    let t = Read a.mode a.address in
    let m = holds a.mode a.block.now 0 c.in_ok-check.ensures refl in
    (past_the_end t a.block.now m.2 m.0 refl m.1 (lt-ltb 63 a.address c.if-address-gt63.true))

pub returns-then-address-gt63-clause-value_after : goal.returns-then-address-gt63-clause-value_after
returns-then-address-gt63-clause-value_after c =
    let a = c.args in
    let t = Read a.mode a.address in
    let m = holds a.mode a.block.now 0 c.in_ok-check.ensures refl in
    (value-kept t a.block.now a.value.now 14 (λ z. omega arith) (past_the_end t a.block.now m.2 m.0 refl m.1 (lt-ltb 63 a.address c.if-address-gt63.true))).1

pub bounds-block-address : goal.bounds-block-address
bounds-block-address c =
    let a = c.args in
    let t = Read a.mode a.address in
    let m = holds a.mode a.block.now 0 c.in_ok-check.ensures refl in
    omega (arith, holds_length (quiet_in a.mode) a.block.now m.0 m.1, c.if-address-gt63.false)

pub returns-clause-value : goal.returns-clause-value
returns-clause-value c =
    let a = c.args in
    let t = Read a.mode a.address in
    let m = holds a.mode a.block.now 0 c.in_ok-check.ensures refl in
    passed t a.block.now m.2 m.0 refl m.1 (le-ltb 63 a.address c.if-address-gt63.false)

pub returns-clause-value_after : goal.returns-clause-value_after
returns-clause-value_after c =
    let a = c.args in
    let t = Read a.mode a.address in
    let m = holds a.mode a.block.now 0 c.in_ok-check.ensures refl in
    (byte_read a.mode a.address a.block.now a.value.now m.0 _ (λ i. (c.type_inv.block i).fits) m.1 (passed t a.block.now m.2 m.0 refl m.1 (le-ltb 63 a.address c.if-address-gt63.false)) c.from.ensures).1
