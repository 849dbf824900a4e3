use mathlib.Core.Path.{ap₂, ◌∙◌}
use mathlib.Core.Bool.{Bool, cond}
use Prim.Native.Nat.{ℕ}
use Rattle.rule_tally.proofs.known.Goals as goal

pub returns : goal.returns
returns c =
    let a = c.args in
    c.pick.ensures ∙ ap₂ (λ (b : Bool) (x : ℕ). cond b a.lead x) c.contains.ensures c.single.ensures
