-- The calls of a stream, one for each read: a read puts its bytes behind those that the call before kept, and an empty one says that the file has ended.
-- Assumes nothing.
use Rattle.std.specs.Prelude.{◌≡◌, Bool, true, false, List, [], ◌∷◌, ◌++◌, ℕ, length}

unfoldable pub joined : List (List ℕ) → List ℕ
joined [] = []
joined (c ∷ cs) = c ++ joined cs

-- `Called z kept read z' kept' over text` says what is known of one call
module _ {S : Type 0} (Called : S → List ℕ → List ℕ → S → List ℕ → Bool → List ℕ → Type 0) where
  -- the calls on the reads of a file in chunks, until one is over: all that they give
  pub data Streamed : S → List ℕ → List (List ℕ) → List ℕ → Type 0 where
    goes : {z z' : S} {kept kept' chunk t u : List ℕ} {chunks : List (List ℕ)} → (length chunk ≡ 0 → ⊥) → Called z kept chunk z' kept' false t
        → Streamed z' kept' chunks u → Streamed z kept (chunk ∷ chunks) (t ++ u)
    stops : {z z' : S} {kept kept' chunk t : List ℕ} {chunks : List (List ℕ)} → (length chunk ≡ 0 → ⊥) → Called z kept chunk z' kept' true t
        → Streamed z kept (chunk ∷ chunks) t
    ends : {z z' : S} {kept kept' t : List ℕ} → Called z kept [] z' kept' true t → Streamed z kept [] t

  -- the calls on the first chunks of a file, none of them over: what they gave, and the state and the bytes that the last one left
  pub data Reached : S → List ℕ → List (List ℕ) → S → List ℕ → List ℕ → Type 0 where
    here : {z : S} {kept : List ℕ} → Reached z kept [] z kept []
    goes : {z z' z'' : S} {kept kept' kept'' chunk t u : List ℕ} {chunks : List (List ℕ)} → (length chunk ≡ 0 → ⊥) → Called z kept chunk z' kept' false t
        → Reached z' kept' chunks z'' kept'' u → Reached z kept (chunk ∷ chunks) z'' kept'' (t ++ u)
