-- What a list of conditions gives, by its first, and what is left after a call, by its status. Assumes nothing.
use mathlib.Core.Path.{◌≡◌, refl}
use mathlib.Core.Bool.{Bool, true, false, cond}
use mathlib.Core.List.{List, [], ◌∷◌, ◌++◌}
use Prim.Native.Nat.{ℕ}
use lib.Dec.{eqb}
use borrow.Author.Tests.{eq-eqb, ne_eqb, eqb-false}
use Rattle.refusal.specs.Refusal.{Condition, when, first, unless}

-- the first condition holds, or not
pub here : (b : Bool) (k : ℕ) (cs : List Condition) → b ≡ true → first (when b k ∷ cs) ≡ k
unfolding first
here b k cs h = simp h

pub next : (b : Bool) (k : ℕ) (cs : List Condition) → b ≡ false → first (when b k ∷ cs) ≡ first cs
unfolding first
next b k cs h = simp h

-- no refusal: the first condition does not hold, and none after it
pub none : (b : Bool) (k : ℕ) (cs : List Condition) → eqb k 0 ≡ false → first (when b k ∷ cs) ≡ 0 → (b ≡ false) × (first cs ≡ 0)
unfolding first
none true k cs h e = absurd (eqb-false k 0 h e)
none false k cs h e = (refl, e)

-- conditions that were looked at before others
pub refused_before : (cs ds : List Condition) → (first cs ≡ 0 → ⊥) → first (cs ++ ds) ≡ first cs
unfolding first
refused_before [] ds h = absurd (h refl)
refused_before (c ∷ cs) ds h = go c.holds h (refused_before cs ds)
  where
    go : (b : Bool) → (cond b c.number (first cs) ≡ 0 → ⊥) → ((first cs ≡ 0 → ⊥) → first (cs ++ ds) ≡ first cs)
        → cond b c.number (first (cs ++ ds)) ≡ cond b c.number (first cs)
    go true h rest = refl
    go false h rest = rest h

abbrev pub Numbered : List Condition → Type 0
Numbered [] = Unit {0}
Numbered (c ∷ cs) = (eqb c.number 0 ≡ false) × Numbered cs

pub passed_before : (cs ds : List Condition) → Numbered cs → first cs ≡ 0 → first (cs ++ ds) ≡ first ds
unfolding first
passed_before [] ds p e = refl
passed_before (c ∷ cs) ds p e = go c.holds e (passed_before cs ds p.1)
  where
    go : (b : Bool) → cond b c.number (first cs) ≡ 0 → (first cs ≡ 0 → first (cs ++ ds) ≡ first ds)
        → cond b c.number (first (cs ++ ds)) ≡ first ds
    go true e rest = absurd (eqb-false c.number 0 p.0 e)
    go false e rest = rest e

pub unless-done {ℓ} : {A : Type ℓ} (status : ℕ) (result before : A) → status ≡ 0 → unless status result before ≡ result
unfolding unless
unless-done status result before h = simp (eq-eqb status 0 h)

pub unless-refused {ℓ} : {A : Type ℓ} (status : ℕ) (result before : A) → (status ≡ 0 → ⊥) → unless status result before ≡ before
unfolding unless
unless-refused status result before h = simp (ne_eqb status 0 h)
