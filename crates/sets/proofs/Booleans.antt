-- Facts about tests that everything above uses. Assumes nothing.
use mathlib.Core.Path.{◌≡◌, refl, sym}
use mathlib.Core.Logic.{◌⊎◌, inl, inr}
use mathlib.Core.Bool.{Bool, true, false, not, ◌&&◌, ◌||◌, true≢false, false≢true}
use Prim.Native.Nat.{ℕ, ◌<◌, ◌≤◌}
use lib.Dec.{eqb, ltb}
use borrow.Author.Tests as tests

-- the tests of numbers, with what they compare left implicit
pub eqb_self : (n : ℕ) → eqb n n ≡ true
eqb_self n = tests.eq-eqb n n refl

pub eqb-true : {m n : ℕ} → eqb m n ≡ true → m ≡ n
eqb-true {m} {n} e = tests.eqb-true m n e

pub ltb-true : {m n : ℕ} → m < n → ltb m n ≡ true
ltb-true {m} {n} h = tests.lt-ltb m n h

pub ltb-lt : {m n : ℕ} → ltb m n ≡ true → m < n
ltb-lt {m} {n} e = tests.ltb-true m n e

pub ltb-le : {m n : ℕ} → ltb m n ≡ false → n ≤ m
ltb-le {m} {n} e = tests.ltb-false m n e

pub bool : (b : Bool) → (b ≡ true) ⊎ (b ≡ false)
bool true = inl refl
bool false = inr refl

-- two tests that pass together are one
pub both : (a b : Bool) → (a ≡ true → b ≡ true) → (b ≡ true → a ≡ true) → a ≡ b
both true b f g = sym (f refl)
both false true f g = g refl
both false false f g = refl

pub and_l : (a b : Bool) → (a && b) ≡ true → a ≡ true
and_l true b e = refl
and_l false b e = e

pub and_r : (a b : Bool) → (a && b) ≡ true → b ≡ true
and_r true b e = e
and_r false b e = absurd (false≢true e)

pub and_i : (a b : Bool) → a ≡ true → b ≡ true → (a && b) ≡ true
and_i a b p q = rw (p, q)

pub or-e : (a b : Bool) → (a || b) ≡ true → (a ≡ true) ⊎ (b ≡ true)
or-e true b e = inl refl
or-e false b e = inr e

pub or_l : (a b : Bool) → a ≡ true → (a || b) ≡ true
or_l a b p = rw p

pub or_r : (a b : Bool) → b ≡ true → (a || b) ≡ true
or_r true b p = refl
or_r false b p = p

pub not-e : (a : Bool) → not a ≡ true → a ≡ false
not-e true e = absurd (false≢true e)
not-e false e = refl

pub not-i : (a : Bool) → a ≡ false → not a ≡ true
not-i a p = rw p

pub not_f : (a : Bool) → not a ≡ false → a ≡ true
not_f true e = refl
not_f false e = absurd (true≢false e)

pub or_f_l : (a b : Bool) → (a || b) ≡ false → a ≡ false
or_f_l true b e = e
or_f_l false b e = refl

pub or_f_r : (a b : Bool) → (a || b) ≡ false → b ≡ false
or_f_r true b e = absurd (true≢false e)
or_f_r false b e = e
