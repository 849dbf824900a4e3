use borrow.Author.Tests.{eq-eqb, ne_eqb}
use Rattle.rules.specs.OneCycle.{called, will_vote}
use Rattle.rule_steps.proofs.will_vote.Goals as goal

pub returns-then-not-config : goal.returns-then-not-config
unfolding will_vote
returns-then-not-config c = simp c.if-not-config.true

pub returns-then-view-set : goal.returns-then-view-set
unfolding will_vote
returns-then-view-set c = simp (c.if-not-config.false, ne_eqb _ _ c.if-view-set.true)

pub returns-then-own : goal.returns-then-own
unfolding will_vote called
returns-then-own c = simp (c.if-not-config.false, eq-eqb _ _ c.if-view-set.false, c.if-own.true)

pub returns-else-own : goal.returns-else-own
unfolding will_vote called
returns-else-own c = simp (c.if-not-config.false, eq-eqb _ _ c.if-view-set.false, c.if-own.false, c.intersection.ensures)
