-- The invariant: after i entries each place of the two rows holds what `missed_of` says. Assumes nothing.
use mathlib.Core.Path.{◌≡◌}
use Prim.Native.Nat.{◌+◌}
use Rattle.rules.specs.Faults.{tabulate}
use Rattle.table.specs.Records.{missed_of}
use Rattle.table_faults.proofs.cycle_missed.Given as goal

abbrev pub invariant-loop-i : goal.invariant-loop-i
invariant-loop-i l = record {
  heartbeats : l.heartbeats ≡ tabulate 64 (λ q. missed_of l.cycle.bytes.now l.i q);
  votes : l.votes ≡ tabulate 64 (λ q. missed_of l.cycle.bytes.now l.i (128 + q));
}
