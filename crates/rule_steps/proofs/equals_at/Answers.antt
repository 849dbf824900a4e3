use mathlib.Core.Path.{sym, ap, ◌∙◌}
use Rattle.rules.specs.OneCycle.{is, same_vote}
use Rattle.rules.proofs.Slots.{slot-full, slot-empty, vote-derived}
use Rattle.rule_steps.proofs.equals_at.Goals as goal

pub returns-then-contains : goal.returns-then-contains
returns-then-contains c =
    let a = c.args in
    let g = a.groups.now in
    let full = slot-full g.numbers g.sets g.bases a.views.now a.present a.p (sym c.contains.ensures ∙ c.if-contains.true) in
    vote-derived a.v _ _ c.eq.ensures ∙ ap (same_vote a.v) c.vote_at.ensures ∙ sym (ap (is a.v) full)

pub returns-else-contains : goal.returns-else-contains
returns-else-contains c =
    let a = c.args in
    let g = a.groups.now in
    c.if-contains.false
    ∙ sym (ap (is a.v) (slot-empty g.numbers g.sets g.bases a.views.now a.present a.p (sym c.contains.ensures ∙ c.if-contains.false)))
