-- Rows by a rule for each entry. Assumes nothing.
use mathlib.Core.Path.{◌≡◌, refl, ap, ap₂}
use mathlib.Core.List.{List, ◌∷◌}
use Prim.Native.Nat.{ℕ, zero, suc, ◌≤◌, ◌<◌}
use native.Mathlib.Omega.{arith}
use lib.ListN.{get_or, length}
use Rattle.rules.specs.Faults.{tabulate}

pub get-tabulate {ℓ} : {A : Type ℓ} (n q : ℕ) (f : ℕ → A) (d : A) → q < n → get_or (tabulate n f) q d ≡ f q
unfolding tabulate
get-tabulate zero q f d h = absurd (omega arith)
get-tabulate (suc n) zero f d h = refl
get-tabulate (suc n) (suc q) f d h = get-tabulate n q (λ x. f (suc x)) d (omega arith)

pub get-tabulate-out {ℓ} : {A : Type ℓ} (n q : ℕ) (f : ℕ → A) (d : A) → n ≤ q → get_or (tabulate n f) q d ≡ d
unfolding tabulate
get-tabulate-out zero q f d h = refl
get-tabulate-out (suc n) zero f d h = absurd (omega arith)
get-tabulate-out (suc n) (suc q) f d h = get-tabulate-out n q (λ x. f (suc x)) d (omega arith)

pub length-tabulate {ℓ} : {A : Type ℓ} (n : ℕ) (f : ℕ → A) → length (tabulate n f) ≡ n
unfolding tabulate
length-tabulate zero f = refl
length-tabulate (suc n) f = ap suc (length-tabulate n (λ q. f (suc q)))

-- equal entries, equal rows
pub tabulate-ext {ℓ} : {A : Type ℓ} (n : ℕ) (f g : ℕ → A) → ((q : ℕ) → q < n → f q ≡ g q) → tabulate n f ≡ tabulate n g
unfolding tabulate
tabulate-ext zero f g e = refl
tabulate-ext {A = A} (suc n) f g e = ap₂ (λ (x : A) (l : List A). x ∷ l) (e 0 (omega arith)) (tabulate-ext n (λ q. f (suc q)) (λ q. g (suc q)) (λ q h. e (suc q) (up q h)))
  where
    up : (q : ℕ) → q < n → suc q < suc n
    up q h = omega arith
