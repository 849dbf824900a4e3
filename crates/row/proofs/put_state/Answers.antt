-- The roles by what `with_state` gives, the group by what `put` does with that of the state. Assumes nothing.
use mathlib.Core.Path.{ap, ap₂, ◌∙◌}
use Rattle.state.specs.declared.Group.{Group}
use Rattle.rules.specs.declared.Groups.{Groups}
use Rattle.rules.specs.Ballots.{with_group}
use Rattle.cluster_states.specs.declared.Roles.{Roles}
use Rattle.cluster_states.specs.declared.States.{States}
use Rattle.row.specs.Gathered.{with_node}
use Rattle.row.proofs.put_state.Goals as goal

pub returns : goal.returns
unfolding with_node
returns c =
    let a = c.args in
    ap₂ (λ (w : Roles) (g : Groups). let s : States = record { roles = w; groups = g } in s)
    c.with_state-states.ensures
    (c.put.ensures ∙ ap (λ (g : Group). with_group a.states.now.groups a.q g) c.group_held.ensures)
