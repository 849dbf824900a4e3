use Rattle.rule_joiner.proofs.Fitting.{Dropped}
use Rattle.rule_joiner.proofs.from_fit.Given as goal

abbrev pub invariant-loop-left : goal.invariant-loop-left
invariant-loop-left l = Dropped l.groups.numbers l.groups.sets l.groups.bases l.views l.present l.n l.q l.among l.left

abbrev pub decreases-loop-left : goal.decreases-loop-left
decreases-loop-left l = l.left
