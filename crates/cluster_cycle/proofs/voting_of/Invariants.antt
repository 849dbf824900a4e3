use mathlib.Core.Path.{◌≡◌}
use mathlib.Core.Bool.{◌&&◌}
use Rattle.sets.specs.Sets.{has, those}
use Rattle.cluster_states.specs.Decided.{votes_at}
use Rattle.cluster_cycle.proofs.voting_of.Given as goal

abbrev pub invariant-loop-p : goal.invariant-loop-p
invariant-loop-p l = l.m ≡ those l.p (λ j. has j l.w.members && votes_at l.config l.sets l.views l.w.asking l.requests l.missed j)
