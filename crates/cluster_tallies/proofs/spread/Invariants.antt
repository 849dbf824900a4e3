use mathlib.Core.Path.{◌≡◌}
use Prim.Native.Nat.{ℕ, ◌≤◌, ◌<◌}
use lib.ListN.{get_or}
use Rattle.cluster_tallies.specs.Grouped.{spread_at}
use Rattle.cluster_tallies.proofs.spread.Given as goal

-- made below j, as they were from j on
abbrev pub invariant-loop-j : goal.invariant-loop-j
invariant-loop-j l =
    ((i : ℕ) → i < l.j → get_or l.same i 0 ≡ spread_at l.m l.initial.same i) × ((i : ℕ) → l.j ≤ i → get_or l.same i 0 ≡ get_or l.initial.same i 0)
