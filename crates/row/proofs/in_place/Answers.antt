-- Each test is a part of `in_place`. Assumes nothing.
use Rattle.std.proofs.Common.{arith}
use Rattle.std.proofs.lemmas.Grind.{common_steps}
use mathlib.Core.Path.{◌≡◌, sym, ◌∙◌}
use mathlib.Core.Bool.{true}
use Prim.Native.Nat.{ℕ, ◌≤◌, ◌<◌}
use Rattle.state.specs.State.{formed_place, formed}
use Rattle.state.proofs.Fields.{place_bounds}
use Rattle.row.specs.Row.{in_place}
use Rattle.row.proofs.in_place.Goals as goal

bounds : (id n : ℕ) → formed_place id n ≡ true → (id < 64) × (n ≤ 64)
bounds id n e = let b = place_bounds id n e in (omega arith, b.1)

pub state_formed-requires : goal.state_formed-requires
state_formed-requires c = bounds _ _ (sym c.place_formed.ensures ∙ c.if-place_formed.true)

pub returns-then-from-q : goal.returns-then-from-q
unfolding in_place formed
returns-then-from-q c = grind (arith, common_steps)

pub returns-else-from-q : goal.returns-else-from-q
unfolding in_place formed
returns-else-from-q c = grind (arith, common_steps)
