-- Sizes of sets. Assumes nothing.
use mathlib.Core.Path.{◌≡◌, refl, sym, ap, ap₂, ◌∙◌}
use mathlib.Core.Bool.{Bool, true, false, not, ◌&&◌, ◌||◌}
use Prim.Native.Nat.{ℕ, ◌+◌, ◌/◌, ◌%◌, ◌≤◌, min, max}
use native.Mathlib.Omega.{arith}
use lib.Arith.{bin_ind}
use lib.Bits.{bit_and, bit_or}
use lib.Count.{ones, ones_step}
use Rattle.sets.specs.Sets.{has, ◌∪◌, ◌∩◌, ◌∖◌, size}
use Rattle.sets.proofs.Membership.{◌⊆◌, and_half, and_odd, or_half, or_odd, has_inter, has_union, has_diff, has-none, set_ext}

sums : (x y z w s t u v i j : ℕ) → x ≡ max i j + y → z ≡ min i j + w → y + w ≡ s + t → u ≡ i + s → v ≡ j + t → x + z ≡ u + v
sums x y z w s t u v i j p q r k l = omega arith

ones-or : (n b : ℕ) → ones (bit_or n b) ≡ max (n % 2) (b % 2) + ones (bit_or (n / 2) (b / 2))
ones-or n b = ones_step (bit_or n b) ∙ ap₂ (λ (x y : ℕ). x + ones y) (or_odd n b) (or_half n b)

ones_and : (n b : ℕ) → ones (bit_and n b) ≡ min (n % 2) (b % 2) + ones (bit_and (n / 2) (b / 2))
ones_and n b = ones_step (bit_and n b) ∙ ap₂ (λ (x y : ℕ). x + ones y) (and_odd n b) (and_half n b)

pub size_union : (a b : ℕ) → size (a ∪ b) + size (a ∩ b) ≡ size a + size b
unfolding size ◌∪◌ ◌∩◌
size_union a =
    bin_ind (λ (n : ℕ). (b : ℕ) → ones (bit_or n b) + ones (bit_and n b) ≡ ones n + ones b) base step a
  where
    base : (b : ℕ) → ones (bit_or 0 b) + ones (bit_and 0 b) ≡ ones 0 + ones b
    base b = omega arith

    step : (n : ℕ) → ((b : ℕ) → ones (bit_or (n / 2) b) + ones (bit_and (n / 2) b) ≡ ones (n / 2) + ones b) → (b : ℕ) → ones (bit_or n b) + ones (bit_and n b) ≡ ones n + ones b
    step n ih b = sums _ _ _ _ _ _ _ _ _ _ (ones-or n b) (ones_and n b) (ih (b / 2)) (ones_step n) (ones_step b)

pub size_none : size 0 ≡ 0
unfolding size ones
size_none = refl

pub size_diff : (a b : ℕ) → ◌⊆◌ a b → size b ≡ size (b ∖ a) + size a
size_diff a b s = omega (arith, sum, size_none)
  where
    without : (b ∖ a) ∩ a ≡ 0
    without = set_ext (λ q. has_inter q (b ∖ a) a ∙ ap (λ (x : Bool). x && has q a) (has_diff q b a) ∙ go (has q b) (has q a) ∙ sym (has-none q))
      where
        go : (x y : Bool) → (x && not y && y) ≡ false
        go true true = refl
        go true false = refl
        go false y = refl

    whole : (b ∖ a) ∪ a ≡ b
    whole = set_ext (λ q. has_union q (b ∖ a) a ∙ ap (λ (x : Bool). x || has q a) (has_diff q b a) ∙ go q (has q a) refl)
      where
        go : (q : ℕ) (x : Bool) → has q a ≡ x → (has q b && not x || x) ≡ has q b
        go q true h = tr (has q b) ∙ sym (s q h)
          where
            tr : (x : Bool) → (x && false || true) ≡ true
            tr true = refl
            tr false = refl
        go q false h = tr (has q b)
          where
            tr : (x : Bool) → (x && true || false) ≡ x
            tr true = refl
            tr false = refl

    sum : size b + size 0 ≡ size (b ∖ a) + size a
    sum = ap₂ (λ (x y : ℕ). size x + size y) (sym whole) (sym without) ∙ size_union (b ∖ a) a

pub size-sub : (a b : ℕ) → ◌⊆◌ a b → size a ≤ size b
size-sub a b s = omega (arith, size_diff a b s)
