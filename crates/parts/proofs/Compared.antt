-- Two lists are the same if no byte differs, and then they are equal: that is what `==` says of them. Assumes nothing.
use mathlib.Core.Path.{◌≡◌, refl, sym, ap, ap₂, ◌∙◌}
use mathlib.Core.Bool.{Bool, true, false, ◌&&◌, true≢false}
use mathlib.Core.List.{List, [], ◌∷◌}
use Prim.Native.Nat.{ℕ, suc}
use lib.Dec.{eqb}
use lib.ListN.{length}
use borrow.Author.Tests.{eqb-true, eq-eqb}
use Rattle.std.specs.Cmp.Lexicographic.{pointwise}
use Rattle.parts.specs.Compared.{same_bytes}

-- what `==` ensures of two slices of bytes
pub pointwise_same : (t u : List ℕ) → pointwise eqb t u ≡ same_bytes t u
unfolding same_bytes
pointwise_same [] [] = refl
pointwise_same [] (b ∷ u) = refl
pointwise_same (a ∷ t) [] = refl
pointwise_same (a ∷ t) (b ∷ u) = ap (λ (d : Bool). eqb a b && d) (pointwise_same t u)

-- the law by which the test is known: it finds equal lists, and no others
pub equal_same : (t u : List ℕ) → t ≡ u → same_bytes t u ≡ true
unfolding same_bytes
equal_same t u e = ap (same_bytes t) (sym e) ∙ go t
  where
    go : (t : List ℕ) → same_bytes t t ≡ true
    go [] = refl
    go (a ∷ t) = rw (eq-eqb a a refl) (go t)

pub same_equal : (t u : List ℕ) → same_bytes t u ≡ true → t ≡ u
unfolding same_bytes
same_equal [] [] e = refl
same_equal [] (b ∷ u) e = absurd (true≢false (sym e))
same_equal (a ∷ t) [] e = absurd (true≢false (sym e))
same_equal (a ∷ t) (b ∷ u) e = go (eqb a b) refl (same_equal t u) e
  where
    go : (d : Bool) → eqb a b ≡ d → (same_bytes t u ≡ true → t ≡ u) → d && same_bytes t u ≡ true → a ∷ t ≡ b ∷ u
    go true f rest r = ap₂ (λ (x : ℕ) (xs : List ℕ). x ∷ xs) (eqb-true a b f) (rest r)
    go false f rest r = absurd (true≢false (sym r))

pub other_length : (t u : List ℕ) → (length t ≡ length u → ⊥) → same_bytes t u ≡ false
unfolding same_bytes
other_length [] [] h = absurd (h refl)
other_length [] (b ∷ u) h = refl
other_length (a ∷ t) [] h = refl
other_length (a ∷ t) (b ∷ u) h = go (eqb a b) (other_length t u (λ e. h (ap suc e)))
  where
    go : (d : Bool) → same_bytes t u ≡ false → d && same_bytes t u ≡ false
    go true rest = rest
    go false rest = refl
