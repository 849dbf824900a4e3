-- Paper 01, "Who can be refused, and for what": how the refusals of a call are stated.
-- Assumes nothing.
use Rattle.std.specs.Prelude.{Bool, cond, List, [], ◌∷◌, ℕ, eqb}

-- a condition, and the number that it gives
pub record Condition : Type 0 where
  pub holds : Bool
  pub number : ℕ

abbrev pub when : Bool → ℕ → Condition
when b k = record { holds = b; number = k }

-- "A number is given only where its condition holds, and of several the lowest", or the first in the order that the paper states; 0 if none holds
unfoldable pub first : List Condition → ℕ
first [] = 0
first (c ∷ cs) = let rest = first cs in cond c.holds c.number rest

-- "A refusal returns only its number; states and buffers do not change.": what is left after a call with this status
unfoldable pub unless {ℓ} : {A : Type ℓ} → ℕ → A → A → A
unless status result before = cond (eqb status 0) result before
