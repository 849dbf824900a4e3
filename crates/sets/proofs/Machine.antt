-- What the machine's operations give. Assumes nothing.
use mathlib.Core.Path.{◌≡◌, refl, sym, ap, ap₂, ◌∙◌}
use mathlib.Core.Logic.{◌⊎◌, inl, inr}
use mathlib.Core.Bool.{cond}
use Prim.Native.Nat.{ℕ, zero, suc, ◌+◌, ◌-◌, ◌*◌, ◌/◌, ◌%◌, ◌^◌, ◌<◌, min}
use native.Mathlib.Omega.{arith}
use native.Mathlib.Nat.{mod-lt, div-add-mod', mod-eq_of_lt}
use lib.Dec.{eqb}
use lib.Arith.{lt-one}
use lib.Pow.{pow-lt}
use lib.Bits.{bit_and, and_step, and_mask}
use lib.Count.{count_trailing_zeros, under}
use Rattle.sets.specs.Sets.{has, single, ◌∖◌, lowest}
use Rattle.sets.proofs.Membership.{two_pos, has-zero, has-suc, diff_half, diff_odd, bit2}

-- `(m >> q) & 1 == 1`
pub bit_test : (q m : ℕ) → eqb (bit_and (m / 2 ^ q) 1) 1 ≡ has q m
unfolding has
bit_test q m = ap (λ (x : ℕ). eqb x 1) (and_mask (m / 2 ^ q) 1)

-- `1 << q`
pub bit_one : (q : ℕ) → q < 64 → (1 * 2 ^ q) % 2 ^ 64 ≡ single q
unfolding single
bit_one q h = ap (λ (x : ℕ). x % 2 ^ 64) one ∙ mod-eq_of_lt (pow-lt h)
  where
    one : 1 * 2 ^ q ≡ 2 ^ q
    one = omega arith

-- `a & !b`
pub and-not : (k a b : ℕ) → a < 2 ^ k → b < 2 ^ k → bit_and a ((2 ^ k - 1) - b) ≡ a ∖ b
unfolding ◌∖◌
and-not zero a b ha hb = ap₂ (λ (x y : ℕ). bit_and x ((2 ^ 0 - 1) - y)) (lt-one ha) (lt-one hb) ∙ sym (ap₂ (λ (x y : ℕ). x - bit_and x y) (lt-one ha) (lt-one hb))
and-not (suc k) a b ha hb =
    let c : ℕ = (2 ^ suc k - 1) - b in
    let half : c / 2 ≡ (2 ^ k - 1) - b / 2 = omega arith in
    let odd : c % 2 ≡ 1 - b % 2 = omega arith in
    let rest : bit_and (a / 2) (c / 2) ≡ (a / 2) ∖ (b / 2) = ap (bit_and (a / 2)) half ∙ and-not k (a / 2) (b / 2) (omega arith) (omega arith) in
    finish (bit_and a c) (and_step a c) rest odd
  where
    finish : (x : ℕ) → x ≡ bit_and (a / 2) (((2 ^ suc k - 1) - b) / 2) * 2 + min (a % 2) (((2 ^ suc k - 1) - b) % 2)
        → bit_and (a / 2) (((2 ^ suc k - 1) - b) / 2) ≡ (a / 2) ∖ (b / 2) → ((2 ^ suc k - 1) - b) % 2 ≡ 1 - b % 2 → x ≡ a ∖ b
    finish x e r o =
        e ∙ ap₂ (λ (y z : ℕ). y * 2 + min (a % 2) z) r o
        ∙ ap₂ (λ (y z : ℕ). y * 2 + z) (sym (diff_half a b)) (low (a % 2) (b % 2) (mod-lt a two_pos) (mod-lt b two_pos) ∙ sym (diff_odd a b)) ∙ div-add-mod' (a ∖ b) 2
      where
        low : (i j : ℕ) → i < 2 → j < 2 → min i (1 - j) ≡ i - min i j
        low i j hi hj = omega arith

-- `trailing_zeros`
pub trailing_lowest : (k m : ℕ) → count_trailing_zeros k m ≡ lowest k (λ q. has q m)
unfolding count_trailing_zeros lowest
trailing_lowest zero m = refl
trailing_lowest (suc k) m = go (trailing_lowest k (m / 2)) (bit2 (m % 2) (mod-lt m two_pos))
  where
    up : lowest k (λ q. has q (m / 2)) ≡ lowest k (λ q. has (suc q) m)
    up = λ i. lowest k (λ q. sym (has-suc q m) i)

    go : count_trailing_zeros k (m / 2) ≡ lowest k (λ q. has q (m / 2)) → (m % 2 ≡ 0) ⊎ (m % 2 ≡ 1)
        → under (m % 2) (count_trailing_zeros k (m / 2)) ≡ cond (has 0 m) 0 (suc (lowest k (λ q. has (suc q) m)))
    go rest (inl z) = rw (has-zero m, z) (ap suc (rest ∙ up))
    go rest (inr o) = rw (has-zero m, o)
