use Rattle.std.proofs.Common.{◌≡◌, ℕ, Bool, true, false, not, cond, refl, ◌∙◌}
use Rattle.std.specs.Int.{from_bool}
use Rattle.sets.specs.Sets.{◌∩◌}
use Rattle.register_block.proofs.shares.Goals as goal

turned : (b : Bool) → from_bool (not b) ≡ cond {A = ℕ} b 0 1
turned true = refl
turned false = refl

pub returns : goal.returns
unfolding ◌∩◌
returns c = c.from.ensures ∙ turned _
