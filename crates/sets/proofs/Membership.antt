-- What is in a set: membership in each operation, and two sets with the same nodes are one number. Assumes nothing.
use mathlib.Core.Path.{◌≡◌, refl, sym, ap, ap₂, ◌∙◌}
use mathlib.Core.Logic.{◌⊎◌, inl, inr, ◌≢◌}
use mathlib.Core.Bool.{Bool, true, false, not, ◌&&◌, ◌||◌, true≢false, false≢true}
use Prim.Native.Nat.{ℕ, zero, suc, ◌+◌, ◌-◌, ◌*◌, ◌/◌, ◌%◌, ◌^◌, ◌≤◌, ◌<◌, min, max}
use native.Mathlib.Omega.{arith}
use native.Mathlib.Nat.{mod-lt, div-add-mod', le_refl}
use native.Mathlib.Numerals.{one-add}
use lib.Dec.{eqb, eqb-zero-suc, eqb-suc-zero, eqb-suc-suc}
use lib.Pow.{shr-shr}
use lib.Bits.{bit_and, bit_or, and_step, or_step, and_le_l}
use Rattle.sets.specs.Sets.{has, single, ◌∪◌, ◌∩◌, ◌∖◌, subset}
use Rattle.sets.proofs.Booleans.{eqb_self, eqb-true, and_r}

-- ---- the lowest digit and the others

pub bit2 : (x : ℕ) → x < 2 → (x ≡ 0) ⊎ (x ≡ 1)
bit2 zero h = inl refl
bit2 (suc zero) h = inr refl
bit2 (suc (suc x)) h = absurd (omega arith)

pub two_pos : 0 < 2
two_pos = omega arith

pub has-zero : (m : ℕ) → has 0 m ≡ eqb (m % 2) 1
unfolding has
has-zero m = ap (λ (x : ℕ). eqb (x % 2) 1) (div1 m)
  where
    div1 : (m : ℕ) → m / 1 ≡ m
    div1 m = omega arith

pub has-suc : (q m : ℕ) → has (suc q) m ≡ has q (m / 2)
unfolding has
has-suc q m = ap (λ (x : ℕ). eqb (x % 2) 1) (sym (shr-shr m 1 q ∙ ap (λ (x : ℕ). m / 2 ^ x) (one-add q)))

eqb-min : (x y : ℕ) → x < 2 → y < 2 → eqb (min x y) 1 ≡ (eqb x 1 && eqb y 1)
eqb-min x y hx hy = go (bit2 x hx) (bit2 y hy)
  where
    go : (x ≡ 0) ⊎ (x ≡ 1) → (y ≡ 0) ⊎ (y ≡ 1) → eqb (min x y) 1 ≡ (eqb x 1 && eqb y 1)
    go (inl p) (inl q) = rw (p, q)
    go (inl p) (inr q) = rw (p, q)
    go (inr p) (inl q) = rw (p, q)
    go (inr p) (inr q) = rw (p, q)

eqb-max : (x y : ℕ) → x < 2 → y < 2 → eqb (max x y) 1 ≡ (eqb x 1 || eqb y 1)
eqb-max x y hx hy = go (bit2 x hx) (bit2 y hy)
  where
    go : (x ≡ 0) ⊎ (x ≡ 1) → (y ≡ 0) ⊎ (y ≡ 1) → eqb (max x y) 1 ≡ (eqb x 1 || eqb y 1)
    go (inl p) (inl q) = rw (p, q)
    go (inl p) (inr q) = rw (p, q)
    go (inr p) (inl q) = rw (p, q)
    go (inr p) (inr q) = rw (p, q)

half2 : (x y : ℕ) → y < 2 → (x * 2 + y) / 2 ≡ x
half2 x y h = omega arith

odd2 : (x y : ℕ) → y < 2 → (x * 2 + y) % 2 ≡ y
odd2 x y h = omega arith

min2 : (x y : ℕ) → x < 2 → min x y < 2
min2 x y h = omega arith

max2 : (x y : ℕ) → x < 2 → y < 2 → max x y < 2
max2 x y h l = omega arith

pub and_half : (a b : ℕ) → bit_and a b / 2 ≡ bit_and (a / 2) (b / 2)
and_half a b = rw (and_step a b) (half2 (bit_and (a / 2) (b / 2)) (min (a % 2) (b % 2)) (min2 (a % 2) (b % 2) (mod-lt a two_pos)))

pub and_odd : (a b : ℕ) → bit_and a b % 2 ≡ min (a % 2) (b % 2)
and_odd a b = rw (and_step a b) (odd2 (bit_and (a / 2) (b / 2)) (min (a % 2) (b % 2)) (min2 (a % 2) (b % 2) (mod-lt a two_pos)))

pub or_half : (a b : ℕ) → bit_or a b / 2 ≡ bit_or (a / 2) (b / 2)
or_half a b = rw (or_step a b) (half2 (bit_or (a / 2) (b / 2)) (max (a % 2) (b % 2)) (max2 (a % 2) (b % 2) (mod-lt a two_pos) (mod-lt b two_pos)))

pub or_odd : (a b : ℕ) → bit_or a b % 2 ≡ max (a % 2) (b % 2)
or_odd a b = rw (or_step a b) (odd2 (bit_or (a / 2) (b / 2)) (max (a % 2) (b % 2)) (max2 (a % 2) (b % 2) (mod-lt a two_pos) (mod-lt b two_pos)))

-- ---- membership

pub has_inter : (q a b : ℕ) → has q (a ∩ b) ≡ (has q a && has q b)
unfolding ◌∩◌
has_inter zero a b =
    has-zero (bit_and a b) ∙ ap (λ (x : ℕ). eqb x 1) (and_odd a b) ∙ eqb-min (a % 2) (b % 2) (mod-lt a two_pos) (mod-lt b two_pos)
    ∙ ap₂ (λ (x y : Bool). x && y) (sym (has-zero a)) (sym (has-zero b))
has_inter (suc q) a b =
    has-suc q (bit_and a b) ∙ ap (has q) (and_half a b) ∙ has_inter q (a / 2) (b / 2)
    ∙ ap₂ (λ (x y : Bool). x && y) (sym (has-suc q a)) (sym (has-suc q b))

pub has_union : (q a b : ℕ) → has q (a ∪ b) ≡ (has q a || has q b)
unfolding ◌∪◌
has_union zero a b =
    has-zero (bit_or a b) ∙ ap (λ (x : ℕ). eqb x 1) (or_odd a b) ∙ eqb-max (a % 2) (b % 2) (mod-lt a two_pos) (mod-lt b two_pos)
    ∙ ap₂ (λ (x y : Bool). x || y) (sym (has-zero a)) (sym (has-zero b))
has_union (suc q) a b =
    has-suc q (bit_or a b) ∙ ap (has q) (or_half a b) ∙ has_union q (a / 2) (b / 2)
    ∙ ap₂ (λ (x y : Bool). x || y) (sym (has-suc q a)) (sym (has-suc q b))

pub diff_half : (a b : ℕ) → (a ∖ b) / 2 ≡ (a / 2) ∖ (b / 2)
unfolding ◌∖◌
diff_half a b = omega (arith, and_half a b, and_odd a b, and_le_l a b, and_le_l (a / 2) (b / 2), mod-lt a two_pos)

pub diff_odd : (a b : ℕ) → (a ∖ b) % 2 ≡ a % 2 - min (a % 2) (b % 2)
unfolding ◌∖◌
diff_odd a b = omega (arith, and_half a b, and_odd a b, and_le_l a b, and_le_l (a / 2) (b / 2), mod-lt a two_pos)

eqb_diff : (x y : ℕ) → x < 2 → y < 2 → eqb (x - min x y) 1 ≡ (eqb x 1 && not (eqb y 1))
eqb_diff x y hx hy = go (bit2 x hx) (bit2 y hy)
  where
    go : (x ≡ 0) ⊎ (x ≡ 1) → (y ≡ 0) ⊎ (y ≡ 1) → eqb (x - min x y) 1 ≡ (eqb x 1 && not (eqb y 1))
    go (inl p) (inl q) = rw (p, q)
    go (inl p) (inr q) = rw (p, q)
    go (inr p) (inl q) = rw (p, q)
    go (inr p) (inr q) = rw (p, q)

pub has_diff : (q a b : ℕ) → has q (a ∖ b) ≡ (has q a && not (has q b))
has_diff zero a b =
    has-zero (a ∖ b) ∙ ap (λ (x : ℕ). eqb x 1) (diff_odd a b) ∙ eqb_diff (a % 2) (b % 2) (mod-lt a two_pos) (mod-lt b two_pos)
    ∙ ap₂ (λ (x y : Bool). x && not y) (sym (has-zero a)) (sym (has-zero b))
has_diff (suc q) a b =
    has-suc q (a ∖ b) ∙ ap (has q) (diff_half a b) ∙ has_diff q (a / 2) (b / 2)
    ∙ ap₂ (λ (x y : Bool). x && not y) (sym (has-suc q a)) (sym (has-suc q b))

odd_eq : (a b : ℕ) → eqb (a % 2) 1 ≡ eqb (b % 2) 1 → a % 2 ≡ b % 2
odd_eq a b e = go (bit2 (a % 2) (mod-lt a two_pos)) (bit2 (b % 2) (mod-lt b two_pos))
  where
    go : (a % 2 ≡ 0) ⊎ (a % 2 ≡ 1) → (b % 2 ≡ 0) ⊎ (b % 2 ≡ 1) → a % 2 ≡ b % 2
    go (inl p) (inl q) = p ∙ sym q
    go (inl p) (inr q) = absurd (false≢true (ap (λ (x : ℕ). eqb x 1) (sym p) ∙ e ∙ ap (λ (x : ℕ). eqb x 1) q))
    go (inr p) (inl q) = absurd (true≢false (ap (λ (x : ℕ). eqb x 1) (sym p) ∙ e ∙ ap (λ (x : ℕ). eqb x 1) q))
    go (inr p) (inr q) = p ∙ sym q

pub has-none : (q : ℕ) → has q 0 ≡ false
has-none zero = has-zero 0
has-none (suc q) = has-suc q 0 ∙ has-none q

ext_in : (n a b : ℕ) → a ≤ n → b ≤ n → ((q : ℕ) → has q a ≡ has q b) → a ≡ b
ext_in zero a b ha hb e = omega arith
ext_in (suc n) a b ha hb e =
    let low : a % 2 ≡ b % 2 = odd_eq a b (sym (has-zero a) ∙ e 0 ∙ has-zero b) in
    let rest : a / 2 ≡ b / 2 = ext_in n (a / 2) (b / 2) (omega arith) (omega arith) (λ q. sym (has-suc q a) ∙ e (suc q) ∙ has-suc q b) in
    omega (arith, div-add-mod' a 2, div-add-mod' b 2)

pub set_ext : {a b : ℕ} → ((q : ℕ) → has q a ≡ has q b) → a ≡ b
set_ext {a} {b} e = ext_in (a + b) a b (omega arith) (omega arith) e

-- a number that is not 0 has a node
not_zero_in : (n m : ℕ) → m ≤ n → m ≢ 0 → (q : ℕ) × (has q m ≡ true)
not_zero_in zero m h e = absurd (e (omega arith))
not_zero_in (suc n) m h e = go (bit2 (m % 2) (mod-lt m two_pos)) (not_zero_in n (m / 2) (omega arith))
  where
    go : (m % 2 ≡ 0) ⊎ (m % 2 ≡ 1) → (m / 2 ≢ 0 → (q : ℕ) × (has q (m / 2) ≡ true)) → (q : ℕ) × (has q m ≡ true)
    go (inl z) rest = let r = rest (omega (arith, div-add-mod' m 2)) in (suc r.0, has-suc r.0 m ∙ r.1)
    go (inr o) rest = (0, has-zero m ∙ ap (λ (x : ℕ). eqb x 1) o)

pub some_node : (m : ℕ) → m ≢ 0 → (q : ℕ) × (has q m ≡ true)
some_node m e = not_zero_in m m (le_refl m) e

pow_half : (n : ℕ) → 2 ^ suc n / 2 ≡ 2 ^ n
pow_half n = omega arith

pow_odd : (n : ℕ) → 2 ^ suc n % 2 ≡ 0
pow_odd n = omega arith

pub has-single : (q n : ℕ) → has q (single n) ≡ eqb q n
unfolding single
has-single zero zero = has-zero 1
has-single zero (suc n) = has-zero (2 ^ suc n) ∙ ap (λ (x : ℕ). eqb x 1) (pow_odd n) ∙ sym (eqb-zero-suc n)
has-single (suc q) zero = has-suc q 1 ∙ has-none q ∙ sym (eqb-suc-zero q)
has-single (suc q) (suc n) = has-suc q (2 ^ suc n) ∙ ap (has q) (pow_half n) ∙ has-single q n ∙ sym (eqb-suc-suc q n)

-- ---- part of

abbrev pub ◌⊆◌ : ℕ → ℕ → Type 0
◌⊆◌ a b = (q : ℕ) → has q a ≡ true → has q b ≡ true

pub inter_sub : (a b : ℕ) → ◌⊆◌ a b → a ∩ b ≡ a
inter_sub a b s = set_ext (λ q. has_inter q a b ∙ go q (has q a) refl)
  where
    go : (q : ℕ) (x : Bool) → has q a ≡ x → (x && has q b) ≡ x
    go q true h = s q h
    go q false h = refl

-- the test says it
pub subset_in : (a b : ℕ) → subset a b ≡ true → ◌⊆◌ a b
unfolding subset
subset_in a b e q h = and_r (has q a) (has q b) (sym (has_inter q a b) ∙ ap (has q) (eqb-true e) ∙ h)

pub subset_of : (a b : ℕ) → ◌⊆◌ a b → subset a b ≡ true
unfolding subset
subset_of a b s = ap (λ (x : ℕ). eqb x a) (inter_sub a b s) ∙ eqb_self a
