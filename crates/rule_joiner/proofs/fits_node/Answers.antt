use mathlib.Core.Path.{sym, ap, ◌∙◌}
use Prim.Native.Nat.{ℕ}
use Rattle.sets.specs.Sets.{has}
use Rattle.sets.specs.Quorum.{quorum}
use Rattle.rules.proofs.Counting.{and_taken, and_left}
use Rattle.rule_joiner.proofs.fits_node.Goals as goal

pub returns-then-contains : goal.returns-then-contains
returns-then-contains c =
    let a = c.args in
    c.is_quorum.ensures ∙ ap (λ (x : ℕ). quorum x a.v.group.base) c.intersection.ensures
    ∙ sym (and_taken _ _ (ap (has a.q) (sym c.difference.ensures) ∙ sym c.contains.ensures ∙ c.if-contains.true))

pub returns-else-contains : goal.returns-else-contains
returns-else-contains c =
    let a = c.args in
    c.if-contains.false
    ∙ sym (and_left _ _ (ap (has a.q) (sym c.difference.ensures) ∙ sym c.contains.ensures ∙ c.if-contains.false))
