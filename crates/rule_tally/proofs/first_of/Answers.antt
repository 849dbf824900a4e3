use mathlib.Core.Path.{ap, ◌∙◌}
use mathlib.Core.Bool.{cond}
use Prim.Native.Nat.{ℕ}
use lib.Dec.{eqb}
use Rattle.sets.specs.Sets.{has, lowest}
use Rattle.rule_tally.proofs.first_of.Goals as goal

pub returns : goal.returns
returns c =
    let m = c.args.m in
    c.lowest.ensures
    ∙ ap (λ (s : ℕ). lowest 64 (λ x. has x s)) (c.pick.ensures ∙ ap (λ (b : ℕ). cond (eqb b 0) m b) c.intersection-both.ensures)
