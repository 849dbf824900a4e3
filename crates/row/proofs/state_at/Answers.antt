-- By the masks, in their order. Assumes nothing.
use mathlib.Core.Path.{sym, ap₂, ◌∙◌}
use mathlib.Core.Bool.{Bool}
use Rattle.state.specs.declared.Group.{Group}
use Rattle.state.specs.declared.State.TheVariants.{Member}
use Rattle.cluster_states.specs.States.{state_at}
use Rattle.row.proofs.state_at.Goals as goal

pub returns-then-contains : goal.returns-then-contains
unfolding state_at
returns-then-contains c =
    rw (sym c.contains.ensures ∙ c.if-contains.true)
    (ap₂ (λ (g : Group) (a : Bool). Member g a) c.at.ensures c.contains-then-contains.ensures)

pub returns-then-contains-2 : goal.returns-then-contains-2
unfolding state_at
returns-then-contains-2 c = simp (sym c.contains.ensures ∙ c.if-contains.false, sym c.contains-else-contains.ensures ∙ c.if-contains-2.true)

pub returns-else-contains-2 : goal.returns-else-contains-2
unfolding state_at
returns-else-contains-2 c =
    simp (
      sym c.contains.ensures ∙ c.if-contains.false,
      sym c.contains-else-contains.ensures ∙ c.if-contains-2.false,
      c.out_at.ensures,
    )
