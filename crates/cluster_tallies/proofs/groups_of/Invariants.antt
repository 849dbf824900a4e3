use Rattle.cluster_tallies.proofs.Tallies.{Split}
use Rattle.cluster_tallies.proofs.groups_of.Given as goal

abbrev pub invariant-loop-left : goal.invariant-loop-left
invariant-loop-left l = Split l.groups.numbers l.groups.sets l.groups.bases l.views l.n l.voting l.lead l.left l.same

abbrev pub decreases-loop-left : goal.decreases-loop-left
decreases-loop-left l = l.left
