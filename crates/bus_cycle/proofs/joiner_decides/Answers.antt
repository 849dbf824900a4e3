use mathlib.Core.Path.{ap, ◌∙◌}
use Rattle.rules.specs.OneCycle.{Ballots, joiner_decides}
use Rattle.bus_cycle.proofs.joiner_decides.Goals as goal

pub returns : goal.returns
returns c =
    let a = c.args in
    c.joiner_decides.ensures ∙ ap (λ (x : Ballots). joiner_decides a.config a.q x) c.arrive-came.ensures
