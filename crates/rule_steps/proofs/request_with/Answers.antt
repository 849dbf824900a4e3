use borrow.Author.Tests.{eq-eqb, ne_eqb}
use Rattle.rules.specs.OneCycle.{request_with}
use Rattle.rule_steps.proofs.request_with.Goals as goal

pub returns-then-v : goal.returns-then-v
unfolding request_with
returns-then-v c = simp (c.if-config.true, ne_eqb _ _ c.if-v.true)

pub returns-else-v : goal.returns-else-v
unfolding request_with
returns-else-v c = simp (c.if-config.true, eq-eqb _ _ c.if-v.false)

pub returns-else-config : goal.returns-else-config
unfolding request_with
returns-else-config c = simp c.if-config.false
