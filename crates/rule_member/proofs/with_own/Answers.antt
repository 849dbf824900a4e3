use mathlib.Core.Path.{ap₂, ◌∙◌}
use mathlib.Core.Bool.{Bool, cond}
use Prim.Native.Nat.{ℕ}
use Rattle.sets.specs.Sets.{single, ◌∪◌}
use Rattle.rule_member.proofs.with_own.Goals as goal

pub returns : goal.returns
returns c =
    let a = c.args in
    c.include.ensures ∙ ap₂ (λ (r : Bool) (t : ℕ). cond r (single a.q ∪ t) t) c.contains.ensures c.intersection.ensures
