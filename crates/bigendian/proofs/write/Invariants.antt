-- `bigendian::write` meets its contract. The loop's invariant: the bytes from i on are written, and what is left stands before them. Assumes nothing.
use mathlib.Core.Path.{◌≡◌}
use Prim.Native.Nat.{◌-◌, ◌/◌, ◌^◌}
use lib.ListN.{length, drop}
use Rattle.bigendian.specs.BigEndian.{bytes_of}
use Rattle.bigendian.proofs.write.Given as goal

abbrev pub invariant-loop-i : goal.invariant-loop-i
invariant-loop-i g l = record {
  whole : length l.bytes ≡ g.row.K;
  left : l.rest ≡ l.x / 256 ^ (g.row.K - l.i);
  written : drop l.i l.bytes ≡ bytes_of (g.row.K - l.i) l.x;
}
