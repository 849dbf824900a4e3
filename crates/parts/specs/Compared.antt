-- Two lists of bytes compared.
-- Assumes nothing.
use Rattle.std.specs.Prelude.{Bool, true, false, ◌&&◌, List, [], ◌∷◌, ℕ, eqb}

-- whether they are the same, byte for byte, none more and none fewer
unfoldable pub same_bytes : List ℕ → List ℕ → Bool
same_bytes [] [] = true
same_bytes [] (b ∷ u) = false
same_bytes (a ∷ t) [] = false
same_bytes (a ∷ t) (b ∷ u) = eqb a b && same_bytes t u
