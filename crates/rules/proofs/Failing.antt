-- A table of examples: the numbers of those that fail, and that all hold where none does. Assumes nothing.
use mathlib.Core.Path.{◌≡◌, refl, ap₂}
use mathlib.Core.Bool.{Bool, true, false}
use mathlib.Core.List.{List, [], ◌∷◌, map}
use mathlib.Core.Option
use mathlib.Core.Option.{Option, none, some}
use Prim.Native.Nat.{ℕ, suc, ◌+◌, ◌*◌, ◌-◌}
use native.Mathlib.Omega.{arith}
use lib.Dec.{eqb}
use Rattle.sets.proofs.Booleans.{eqb-true}

-- ---- that two values are equal, where they are
abbrev passed : {P : Type 0} → (b : Bool) → (b ≡ true → P) → Option P
passed true f = some (f refl)
passed false f = none

abbrev pub both : {P Q : Type 0} → Option P → Option Q → Option (P × Q)
both none q = none
both (some p) none = none
both (some p) (some q) = some (p, q)

abbrev pub equal_numbers : (m n : ℕ) → Option (m ≡ n)
equal_numbers m n = passed (eqb m n) eqb-true

module _ (A : Type 0) (equal : (a b : A) → Option (a ≡ b)) where
  abbrev pub equal-lists : (xs ys : List A) → Option (xs ≡ ys)
  equal-lists [] [] = some refl
  equal-lists [] (y ∷ ys) = none
  equal-lists (x ∷ xs) [] = none
  equal-lists (x ∷ xs) (y ∷ ys) =
      Option.map (λ (e : (x ≡ y) × (xs ≡ ys)). ap₂ (λ (z : A) (zs : List A). z ∷ zs) e.0 e.1) (both (equal x y) (equal-lists xs ys))

-- ---- a table of what each example gives, and is to give
module _ (A B : Type 0) (number : A → ℕ) (given due : A → B) (equal : (a b : B) → Option (a ≡ b)) where
  -- one number more, from 1 on, where the example fails
  abbrev with : (x : A) → Option (given x ≡ due x) → ℕ → ℕ
  with x (some e) rest = rest
  with x none rest = 100 * rest + suc (number x - 1)

  -- the numbers of the examples that fail, two digits each
  abbrev pub failing : List A → ℕ
  failing [] = 0
  failing (x ∷ xs) = with x (equal (given x) (due x)) (failing xs)

  one : (x : A) (xs : List A) (o : Option (given x ≡ due x)) → (failing xs ≡ 0 → map given xs ≡ map due xs) → with x o (failing xs) ≡ 0
      → map given (x ∷ xs) ≡ map due (x ∷ xs)
  one x xs (some e) rest f = ap₂ (λ (y : B) (ys : List B). y ∷ ys) e (rest f)
  one x xs none rest f = absurd (omega arith)

  pub all_hold : (xs : List A) → failing xs ≡ 0 → map given xs ≡ map due xs
  all_hold [] f = refl
  all_hold (x ∷ xs) f = one x xs (equal (given x) (due x)) (all_hold xs) f
