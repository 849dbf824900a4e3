use mathlib.Core.Path.{ap, ◌∙◌}
use Rattle.rules.specs.OneCycle.{Ballots, member_decides}
use Rattle.bus_cycle.proofs.member_decides.Goals as goal

pub returns : goal.returns
returns c =
    let a = c.args in
    c.member_decides.ensures ∙ ap (λ (x : Ballots). member_decides a.config a.q a.own x) c.arrive-came.ensures
