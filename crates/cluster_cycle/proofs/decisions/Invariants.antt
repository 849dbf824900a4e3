use lib.ListN.{get_or}
use Rattle.std.specs.Prelude.{IfSome}
use Rattle.sets.specs.Sets.{◌∖◌}
use Rattle.cluster_cycle.specs.Follows.{Worth, decides}
use Rattle.cluster_states.proofs.Deciding.{Holds}
use Rattle.cluster_cycle.proofs.decisions.Given as goal

abbrev pub invariant-loop-q : goal.invariant-loop-q
invariant-loop-q l =
    Holds (λ j. decides l.votes l.w (l.sent ∖ get_or l.missed j 0) j) l.q l.next l.after.numbers l.after.sets l.after.bases
    × IfSome l.kept (Worth l.votes.groups.now.numbers l.votes.groups.now.sets l.votes.groups.now.bases l.votes.views.now l.votes.config l.w l.votes.voting)
