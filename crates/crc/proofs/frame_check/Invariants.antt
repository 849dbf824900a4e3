-- `crc::frame_check` meets its contract. The loop's invariant: the bytes that are left, from the register, give the check of all bytes.
-- Assumes nothing.
use mathlib.Core.Path.{◌≡◌}
use Prim.Native.Nat.{◌^◌, ◌<◌}
use lib.ListN.{drop}
use Rattle.crc.specs.Crc.{frame_check}
use Rattle.crc.proofs.frame_check.Given as goal

abbrev pub invariant-loop-b : goal.invariant-loop-b
invariant-loop-b l = record { fits : l.r < 2 ^ 24; left : frame_check l.r (drop l.b-index l.s) ≡ frame_check l.start l.s }
