use Rattle.rule_tally.proofs.completes.Goals as goal

pub returns-then-counted : goal.returns-then-counted
returns-then-counted c = rw c.if-counted.true c.is_quorum.ensures
