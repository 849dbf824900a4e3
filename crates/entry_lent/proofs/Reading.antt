-- What a call leaves that reads one copy of a frame and is refused: for its numbers or buffers, status k, or else for the frame, m. Assumes nothing.
use mathlib.Core.Path.{◌≡◌, refl}
use mathlib.Core.Bool.{Bool, true, false, cond}
use Prim.Native.Nat.{ℕ}
use lib.Dec.{eqb}
use Rattle.refusal.specs.Refusal.{unless}

pub frame-kept : {A : Type 0} (k m : ℕ) (left before : A) → ((m ≡ 0 → ⊥) → left ≡ before) → (cond (eqb k 0) m k ≡ 0 → ⊥) → unless k left before ≡ before
unfolding unless
frame-kept k m left before law = by (eqb k 0)
  where
    by : (b : Bool) → (cond b m k ≡ 0 → ⊥) → cond b left before ≡ before
    by true h = law h
    by false h = refl
