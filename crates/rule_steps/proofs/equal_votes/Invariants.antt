use mathlib.Core.Path.{◌≡◌}
use Rattle.sets.specs.Sets.{those}
use Rattle.rules.specs.OneCycle.{same_vote}
use Rattle.rules.specs.Ballots.{vote_at}
use Rattle.rule_steps.proofs.equal_votes.Given as goal

abbrev pub invariant-loop-p : goal.invariant-loop-p
invariant-loop-p l =
    l.m ≡ those l.p (λ x. same_vote l.v (vote_at l.groups.numbers l.groups.sets l.groups.bases l.views x))
