use Rattle.rule_tally.proofs.Candidates.{Tried, Counted}
use Rattle.rule_tally.proofs.any_agreed.Given as goal

abbrev pub invariant-loop-rest : goal.invariant-loop-rest
invariant-loop-rest l = Counted l.groups.numbers l.groups.sets l.groups.bases l.views l.n l.present l.group l.v l.left l.m l.rest

abbrev pub decreases-loop-rest : goal.decreases-loop-rest
decreases-loop-rest l = l.rest

abbrev pub invariant-found : goal.invariant-found
invariant-found l = Tried l.groups.numbers l.groups.sets l.groups.bases l.views l.n l.present l.group l.left

abbrev pub decreases-found : goal.decreases-found
decreases-found l = l.left
