use mathlib.Core.Path.{◌≡◌, ap, ◌∙◌}
use native.Mathlib.Omega.{arith}
use Rattle.sets.proofs.Nodes.{those-none, those-next, those_end}
use Rattle.rules.specs.OneCycle.{same_vote}
use Rattle.rules.proofs.Slots.{vote-derived}
use Rattle.rule_steps.proofs.Holding.{masked}
use Rattle.rule_steps.proofs.equal_votes.Goals as goal

pub loop-p-init : goal.loop-p-init
loop-p-init c = those-none _

pub loop-p-preserved : goal.loop-p-preserved
loop-p-preserved c =
    those-next _ _ _ _ _ c.loop-p.invariant (vote-derived c.args.v _ _ c.eq.ensures ∙ ap (same_vote c.args.v) c.vote_at.ensures) c.include-m.ensures

pub returns : goal.returns
returns c =
    let a = c.args in
    let g = a.groups.now in
    let same : c.loop-p.p ≡ a.n = omega arith in
    masked g.numbers g.sets g.bases a.views.now a.v _ _ _ _ (those_end _ _ _ _ c.loop-p.invariant same) c.intersection.ensures
