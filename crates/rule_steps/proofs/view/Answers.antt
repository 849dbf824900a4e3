use mathlib.Core.Path.{ap, ap₂, ◌∙◌}
use Prim.Native.Nat.{ℕ}
use Rattle.sets.specs.Sets.{◌∪◌, ◌∩◌, ◌∖◌}
use Rattle.rules.specs.OneCycle.{view_of}
use Rattle.rule_steps.proofs.view.Goals as goal

pub returns : goal.returns
unfolding view_of
returns c =
    let set = c.args.set in
    c.union-2.ensures
    ∙ ap₂ ◌∪◌
    (c.union.ensures
    ∙ ap₂ ◌∪◌ c.single.ensures (c.intersection-members.ensures ∙ ap (λ (x : ℕ). set ∩ x) c.below.ensures))
    (c.difference-joiners.ensures ∙ ap (λ (x : ℕ). x ∖ set) c.below-2.ensures)
