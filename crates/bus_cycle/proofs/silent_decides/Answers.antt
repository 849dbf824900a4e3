use mathlib.Core.Path.{ap, ◌∙◌}
use Rattle.rules.specs.OneCycle.{Ballots, silent_decides}
use Rattle.rules.proofs.Slots.{one_none}
use Rattle.bus_cycle.proofs.silent_decides.Goals as goal

pub silent_decides-requires-clause-one_vote : goal.silent_decides-requires-clause-one_vote
silent_decides-requires-clause-one_vote c = let r = c.arrive-came.result in one_none r.groups.numbers r.groups.sets r.groups.bases r.views c.args.config.nodes r.present

pub returns : goal.returns
returns c =
    let a = c.args in
    c.silent_decides.ensures ∙ ap (λ (x : Ballots). silent_decides a.config a.q a.group x) c.arrive-came.ensures
