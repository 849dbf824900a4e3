-- `crc::bits_step` meets its contract. The loop's invariant: the bits that are left, from the register, give the check of all bits.
-- Assumes nothing.
use mathlib.Core.Path.{◌≡◌}
use Prim.Native.Nat.{◌^◌, ◌<◌}
use Rattle.crc.specs.Crc.{check, bits_of}
use Rattle.crc.proofs.bits_step.Given as goal

abbrev pub invariant-loop-i : goal.invariant-loop-i
invariant-loop-i g l = record {
  fits : l.r < 2 ^ g.row.K;
  left : check g.row.K g.row.POLYNOMIAL l.r (bits_of l.i l.word) ≡ check g.row.K g.row.POLYNOMIAL l.start (bits_of l.n l.word);
}
