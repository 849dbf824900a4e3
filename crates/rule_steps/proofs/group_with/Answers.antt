use Rattle.rules.specs.OneCycle.{group_with}
use borrow.Author.Tests.{eq-eqb, ne_eqb}
use Rattle.rule_steps.proofs.group_with.Goals as goal
use Rattle.rule_steps.proofs.group_with.Goals.{then-set-g, else-set-g}

pub returns : goal.returns
unfolding group_with
returns c = elim c.if-set-g.branch [
  | then-set-g w ↦ rw (w.number-is, c.union.ensures, eq-eqb _ _ w.if-set-g.true)
  | else-set-g w ↦ rw (w.number-is, w.next_number-number.ensures, c.union.ensures, ne_eqb _ _ w.if-set-g.false)
]
