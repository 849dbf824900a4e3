-- `bigendian::read` meets its contract. The loop's invariant: the number is that of the bytes from i on. Assumes nothing.
use mathlib.Core.Path.{◌≡◌}
use Prim.Native.Nat.{◌+◌, ◌-◌, ◌^◌, ◌<◌}
use Rattle.bigendian.specs.BigEndian.{number_at}
use Rattle.bigendian.proofs.read.Given as goal

abbrev pub invariant-loop-i : goal.invariant-loop-i
invariant-loop-i g l = record {
  value : l.number ≡ number_at l.s (l.at + l.i) (g.row.K - l.i);
  fits : l.number < 256 ^ (g.row.K - l.i);
}
