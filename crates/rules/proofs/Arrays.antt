-- Arrays that a loop fills, one element a turn. Assumes nothing.
use mathlib.Core.Path.{◌≡◌, refl, sym, ap, subst, ◌∙◌}
use mathlib.Core.Logic.{◌≢◌}
use mathlib.Core.Bool.{Bool, true, false, false≢true}
use mathlib.Core.List.{List}
use Prim.Native.Nat.{ℕ, ◌+◌, ◌<◌, ◌≤◌}
use native.Mathlib.Omega.{arith}
use lib.Dec.{eqb}
use lib.ListN.{length, get_or, set}
use lib.Seq.{get_or-set_same, get_or-set_other}
use Rattle.sets.proofs.Booleans.{eqb_self, eqb-true}

-- what holds of the first i elements, and of the one that is stored next, holds of the first i + 1
pub stored : (P : ℕ → ℕ → Type 0) (l : List ℕ) (i x : ℕ) → i < length l → ((j : ℕ) → j < i → P j (get_or l j 0)) → P i x → (j : ℕ) → j < i + 1 → P j (get_or (set l i x) j 0)
stored P l i x h all here j k = go (eqb j i) refl
  where
    go : (b : Bool) → eqb j i ≡ b → P j (get_or (set l i x) j 0)
    go true e =
        let z : i ≡ j = sym (eqb-true e) in
        subst (λ (y : ℕ). P y (get_or (set l i x) y 0)) z (subst (P i) (sym (get_or-set_same l i x 0 h)) here)
    go false e =
        let n : j ≢ i = λ z. false≢true (sym e ∙ ap (λ (y : ℕ). eqb y i) z ∙ eqb_self i) in
        let less : j < i = omega arith in
        subst (P j) (sym (get_or-set_other l i j x 0 n)) (all j less)

-- and what holds of the elements from i on, holds of those after it
pub unstored : (P : ℕ → ℕ → Type 0) (l : List ℕ) (i x : ℕ) → ((j : ℕ) → i ≤ j → P j (get_or l j 0)) → (j : ℕ) → i + 1 ≤ j → P j (get_or (set l i x) j 0)
unstored P l i x all j h = subst (P j) (sym (get_or-set_other l i j x 0 apart)) (all j later)
  where
    apart : j ≢ i
    apart z = omega arith

    later : i ≤ j
    later = omega arith
