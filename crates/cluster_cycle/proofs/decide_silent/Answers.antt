use mathlib.Core.Path.{sym, ◌∙◌}
use Rattle.cluster_states.specs.Decided.{decided_at}
use Rattle.cluster_cycle.proofs.decide_silent.Goals as goal

pub returns-then-contains : goal.returns-then-contains
unfolding decided_at
returns-then-contains c = rw (c.requires.silent.1, sym c.contains.ensures ∙ c.if-contains.true) c.silent_decides.ensures

pub returns-then-contains-2 : goal.returns-then-contains-2
unfolding decided_at
returns-then-contains-2 c =
    rw (c.requires.silent.1, sym c.contains.ensures ∙ c.if-contains.false, sym c.contains-else-contains.ensures ∙ c.if-contains-2.true)
    c.joiner_decides.ensures

pub returns-else-contains-2 : goal.returns-else-contains-2
unfolding decided_at
returns-else-contains-2 c =
    rw (c.requires.silent.1, sym c.contains.ensures ∙ c.if-contains.false, sym c.contains-else-contains.ensures ∙ c.if-contains-2.false)
    c.out_at.ensures
