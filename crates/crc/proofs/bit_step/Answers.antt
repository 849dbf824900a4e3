-- `crc::bit_step` meets its contract: the machine's `1 << K` is 2 ^ K, and what is added is that of `bit_step`.
-- Assumes nothing.
use mathlib.Core.Path.{◌≡◌}
use Prim.Native.Nat.{◌*◌, ◌%◌, ◌^◌}
use lib.Bits.{bit_xor, xor_zero_r}
use borrow.Author.Tests.{eq-eqb, ne_eqb}
use Rattle.crc.specs.Crc.{bit_step}
use Rattle.crc.proofs.Laws.{shl_one, step-lt}
use Rattle.crc.proofs.bit_step.Goals as goal
use Rattle.crc.proofs.bit_step.Goals.{then-r-b, else-r-b}

pub returns : goal.returns
unfolding bit_step
returns g c =
    let k = g.row.K in
    let a = c.args in
    let shl = shl_one k c.requires.few_bits in
    let e : bit_xor (a.r * 2 % (1 * 2 ^ k % 2 ^ 32)) c.if-r-b.added ≡ bit_step k g.row.POLYNOMIAL a.r a.b =
    elim c.if-r-b.branch [
      | then-r-b w ↦ simp (shl, w.added-is, xor_zero_r, eq-eqb _ _ w.if-r-b.true)
      | else-r-b w ↦ simp (shl, w.added-is, ne_eqb _ _ w.if-r-b.false)
    ] in
    record { value = e; upper_bound = rw e (step-lt k g.row.POLYNOMIAL a.r a.b c.requires.poly_fits) }
