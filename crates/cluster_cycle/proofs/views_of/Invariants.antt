use mathlib.Core.Path.{◌≡◌}
use Prim.Native.Nat.{ℕ, ◌<◌}
use lib.ListN.{get_or}
use Rattle.cluster_states.specs.Decided.{view_at}
use Rattle.cluster_cycle.proofs.views_of.Given as goal

abbrev pub invariant-loop-p : goal.invariant-loop-p
invariant-loop-p l = (j : ℕ) → j < l.p → get_or l.views j 0 ≡ view_at l.n l.sets l.sent.members l.sent.joining l.missed j
