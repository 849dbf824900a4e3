-- The invariant: what is refused of the rest is what is refused in all, and the cycle number is at most one more than the bytes passed.
-- Assumes nothing.
use mathlib.Core.Path.{◌≡◌}
use Prim.Native.Nat.{◌+◌, ◌≤◌}
use lib.ListN.{length}
use Rattle.table.specs.Table.{cycles_in}
use Rattle.table_records.proofs.check_cycles.Given as goal

abbrev pub invariant-loop-rest : goal.invariant-loop-rest
invariant-loop-rest l = record {
  shorter : length l.rest ≤ length l.s;
  counted : l.k + length l.rest ≤ length l.s + 1;
  same : (cycles_in (length l.s) l.n 1 l.s).refusal ≡ (cycles_in (length l.s) l.n l.k l.rest).refusal;
}

abbrev pub decreases-loop-rest : goal.decreases-loop-rest
decreases-loop-rest l = length l.rest
