use mathlib.Core.Path.{ap₂}
use Prim.Native.Nat.{ℕ, ◌*◌}
use lib.Dec.{ltb}
use Rattle.sets.specs.Quorum.{quorum}
use Rattle.sets.proofs.is_quorum.Goals as goal

pub returns : goal.returns
unfolding quorum
returns c = ap₂ (λ (x y : ℕ). ltb x (2 * y)) c.size.ensures.value c.size-2.ensures.value
