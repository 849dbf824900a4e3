use mathlib.Core.Path.{sym, ◌∙◌}
use Rattle.cluster_states.specs.Decided.{decided_at}
use Rattle.cluster_cycle.proofs.decide.Goals as goal

pub returns-then-contains : goal.returns-then-contains
unfolding decided_at
returns-then-contains c = rw (sym c.contains.ensures ∙ c.if-contains.true) c.member_decides.ensures
