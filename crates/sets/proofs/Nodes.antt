-- Sets by a test: `those`, `below`, `lowest`, `any`, `every`. Assumes nothing.
use mathlib.Core.Path.{◌≡◌, refl, sym, ap, ap₂, ◌∙◌}
use mathlib.Core.Logic.{◌⊎◌, inl, inr, ◌≢◌}
use mathlib.Core.Bool.{Bool, true, false, ◌&&◌, ◌||◌, cond, false≢true}
use Prim.Native.Nat.{ℕ, zero, suc, ◌+◌, ◌-◌, ◌*◌, ◌/◌, ◌%◌, ◌^◌, ◌≤◌, ◌<◌}
use native.Mathlib.Omega.{arith}
use native.Mathlib.Nat.{le_refl}
use native.Mathlib.Numerals.{add-one}
use lib.Dec.{eqb, ltb, leb-suc-zero, leb-suc-suc}
use lib.Pow.{pow_pos}
use lib.Bits.{bit_or, or_shifted, and_mask}
use borrow.Author.Tests.{lt-ltb}
use Rattle.sets.specs.Sets.{has, single, ◌∪◌, ◌∩◌, those, below, lowest, any, every}
use Rattle.sets.proofs.Booleans.{eqb_self, eqb-true, ltb-true, ltb-lt, ltb-le, bool, both, and_l, and_r, and_i, or-e, or_l, or_r}
use Rattle.sets.proofs.Membership.{has-zero, has-suc, has_union, has_inter, has-single, has-none, set_ext}

-- ---- those

pub those-lt : (n : ℕ) (p : ℕ → Bool) → those n p < 2 ^ n
unfolding those
those-lt zero p = omega arith
those-lt (suc n) p = go (p n) (those-lt n p)
  where
    go : (b : Bool) → those n p < 2 ^ n → cond b (2 ^ n + those n p) (those n p) < 2 ^ suc n
    go true h = omega arith
    go false h = omega arith

-- how a loop builds it
pub those-step : (n : ℕ) (p : ℕ → Bool) → those (suc n) p ≡ cond (p n) (single n ∪ those n p) (those n p)
unfolding those single ◌∪◌
those-step n p = ap (λ (x : ℕ). cond (p n) x (those n p)) (sym (ap (λ (x : ℕ). bit_or x (those n p)) one ∙ or_shifted 1 n (those n p) (those-lt n p) ∙ ap (λ (x : ℕ). x + those n p) (sym one)))
  where
    one : 2 ^ n ≡ 1 * 2 ^ n
    one = omega arith

lt-suc : (q n : ℕ) → ltb q (suc n) ≡ (eqb q n || ltb q n)
lt-suc q n = both (ltb q (suc n)) (eqb q n || ltb q n) to from
  where
    to : ltb q (suc n) ≡ true → (eqb q n || ltb q n) ≡ true
    to e = go (bool (ltb q n))
      where
        go : (ltb q n ≡ true) ⊎ (ltb q n ≡ false) → (eqb q n || ltb q n) ≡ true
        go (inl l) = or_r (eqb q n) (ltb q n) l
        go (inr l) =
            let ge : n ≤ q = ltb-le l in
            let lt : q < suc n = ltb-lt e in
            let same : q ≡ n = omega arith in
            or_l (eqb q n) (ltb q n) (ap (λ (x : ℕ). eqb x n) same ∙ eqb_self n)

    from : (eqb q n || ltb q n) ≡ true → ltb q (suc n) ≡ true
    from e = go (or-e (eqb q n) (ltb q n) e)
      where
        go : (eqb q n ≡ true) ⊎ (ltb q n ≡ true) → ltb q (suc n) ≡ true
        go (inl h) = let same : q ≡ n = eqb-true h in let l : q < suc n = omega arith in ltb-true l
        go (inr h) = let lt : q < n = ltb-lt h in let l : q < suc n = omega arith in ltb-true l

pub has-those : (q n : ℕ) (p : ℕ → Bool) → has q (those n p) ≡ (ltb q n && p q)
unfolding those
has-those q zero p = has-none q ∙ sym (ap (λ (b : Bool). b && p q) (lt0 q))
  where
    lt0 : (q : ℕ) → ltb q 0 ≡ false
    lt0 q = leb-suc-zero q
has-those q (suc n) p = ap (has q) (those-step n p) ∙ go (p n) refl (has-those q n p)
  where
    go : (b : Bool) → p n ≡ b → has q (those n p) ≡ (ltb q n && p q) → has q (cond b (single n ∪ those n p) (those n p)) ≡ (ltb q (suc n) && p q)
    go true e ih = has_union q (single n) (those n p) ∙ ap₂ (λ (x y : Bool). x || y) (has-single q n) ih ∙ same (eqb q n) refl ∙ ap (λ (b : Bool). b && p q) (sym (lt-suc q n))
      where
        same : (b : Bool) → eqb q n ≡ b → (b || (ltb q n && p q)) ≡ ((b || ltb q n) && p q)
        same true h = sym (ap p (eqb-true h) ∙ e)
        same false h = refl
    go false e ih = ih ∙ same (eqb q n) refl ∙ ap (λ (b : Bool). b && p q) (sym (lt-suc q n))
      where
        and_no : (b : Bool) → (b && false) ≡ false
        and_no true = refl
        and_no false = refl

        same : (b : Bool) → eqb q n ≡ b → (ltb q n && p q) ≡ ((b || ltb q n) && p q)
        same true h = ap (λ (x : Bool). ltb q n && x) (ap p (eqb-true h) ∙ e) ∙ and_no (ltb q n) ∙ sym (ap p (eqb-true h) ∙ e)
        same false h = refl

pub those_in : (q n : ℕ) (p : ℕ → Bool) → q < n → has q (those n p) ≡ p q
those_in q n p h = has-those q n p ∙ ap (λ (b : Bool). b && p q) (ltb-true h)

pub in_those : (q n : ℕ) (p : ℕ → Bool) → q < n → p q ≡ true → has q (those n p) ≡ true
in_those q n p h e = those_in q n p h ∙ e

pub of_those : (q n : ℕ) (p : ℕ → Bool) → has q (those n p) ≡ true → (q < n) × (p q ≡ true)
of_those q n p h =
    let k : (ltb q n && p q) ≡ true = sym (has-those q n p) ∙ h in
    (ltb-lt (and_l (ltb q n) (p q) k), and_r (ltb q n) (p q) k)

-- none of them is at n or above
pub those-below : (q n : ℕ) (p : ℕ → Bool) → (ltb q n && has q (those n p)) ≡ has q (those n p)
those-below q n p = ap (λ (b : Bool). ltb q n && b) (has-those q n p) ∙ twice (ltb q n) (p q) ∙ sym (has-those q n p)
  where
    twice : (a b : Bool) → (a && (a && b)) ≡ (a && b)
    twice true b = refl
    twice false b = refl

pub those_ext : (n : ℕ) (p r : ℕ → Bool) → ((q : ℕ) → q < n → p q ≡ r q) → those n p ≡ those n r
those_ext n p r e = set_ext (λ q. has-those q n p ∙ go q (ltb q n) refl ∙ sym (has-those q n r))
  where
    go : (q : ℕ) (b : Bool) → ltb q n ≡ b → (b && p q) ≡ (b && r q)
    go q true h = e q (ltb-lt h)
    go q false h = refl

-- a loop's next turn
pub those-next : (n : ℕ) (p : ℕ → Bool) (s t : ℕ) (b : Bool) → s ≡ those n p → b ≡ p n → t ≡ cond b (single n ∪ s) s → t ≡ those (n + 1) p
those-next n p s t b e k f =
    f ∙ ap₂ (λ (y : Bool) (x : ℕ). cond y (single n ∪ x) x) k e ∙ sym (ap (λ (x : ℕ). those x p) (add-one n) ∙ those-step n p)

pub those-none : (p : ℕ → Bool) → 0 ≡ those 0 p
unfolding those
those-none p = refl

pub those_end : (n k : ℕ) (p : ℕ → Bool) (s : ℕ) → s ≡ those n p → n ≡ k → s ≡ those k p
those_end n k p s e f = e ∙ ap (λ (x : ℕ). those x p) f

-- ---- below n

pow_odd_less : (n : ℕ) → (2 ^ suc n - 1) % 2 ≡ 1
pow_odd_less n = omega (arith, pow_pos n)

pow_half_less : (n : ℕ) → (2 ^ suc n - 1) / 2 ≡ 2 ^ n - 1
pow_half_less n = omega (arith, pow_pos n)

has-ones : (q n : ℕ) → has q (2 ^ n - 1) ≡ ltb q n
has-ones q zero = has-none q ∙ sym (leb-suc-zero q)
has-ones zero (suc n) = has-zero (2 ^ suc n - 1) ∙ ap (λ (x : ℕ). eqb x 1) (pow_odd_less n) ∙ sym (lt-ltb 0 (suc n) (omega arith))
has-ones (suc q) (suc n) = has-suc q (2 ^ suc n - 1) ∙ ap (has q) (pow_half_less n) ∙ has-ones q n ∙ sym (leb-suc-suc (suc q) n)

pub has-below : (q n m : ℕ) → has q (below n m) ≡ (ltb q n && has q m)
unfolding below ◌∩◌
has-below q n m =
    ap (has q) (sym (and_mask m n)) ∙ has_inter q m (2 ^ n - 1) ∙ ap (λ (b : Bool). has q m && b) (has-ones q n) ∙ swap (has q m) (ltb q n)
  where
    swap : (a b : Bool) → (a && b) ≡ (b && a)
    swap true true = refl
    swap true false = refl
    swap false true = refl
    swap false false = refl

-- ---- the lowest node, some node, every node

pub lowest_in : (n q : ℕ) (p : ℕ → Bool) → q < n → p q ≡ true → (lowest n p < n) × (p (lowest n p) ≡ true)
unfolding lowest
lowest_in zero q p h e = absurd (omega arith)
lowest_in (suc n) q p h e = go (p 0) refl q h e (λ k. lowest_in n k (λ x. p (suc x)))
  where
    go : (b : Bool) → p 0 ≡ b → (q : ℕ) → q < suc n → p q ≡ true
        → ((k : ℕ) → k < n → p (suc k) ≡ true → (lowest n (λ x. p (suc x)) < n) × (p (suc (lowest n (λ x. p (suc x)))) ≡ true))
        → (cond b 0 (suc (lowest n (λ x. p (suc x)))) < suc n) × (p (cond b 0 (suc (lowest n (λ x. p (suc x))))) ≡ true)
    go true z q h e rest = (omega arith, z)
    go false z zero h e rest = absurd (false≢true (sym z ∙ e))
    go false z (suc q) h e rest = let r = rest q (omega arith) e in (omega (arith, r.0), r.1)

-- nothing below the lowest
pub lowest_least : (n q : ℕ) (p : ℕ → Bool) → q < lowest n p → p q ≡ false
unfolding lowest
lowest_least zero q p h = absurd (omega arith)
lowest_least (suc n) q p h = go (p 0) refl q h (λ k. lowest_least n k (λ x. p (suc x)))
  where
    go : (b : Bool) → p 0 ≡ b → (q : ℕ) → q < cond b 0 (suc (lowest n (λ x. p (suc x)))) → ((k : ℕ) → k < lowest n (λ x. p (suc x)) → p (suc k) ≡ false) → p q ≡ false
    go true z q h rest = absurd (omega arith)
    go false z zero h rest = z
    go false z (suc q) h rest = rest q (omega arith)

pub any-i : (n q : ℕ) (p : ℕ → Bool) → q < n → p q ≡ true → any n p ≡ true
unfolding any
any-i zero q p h e = absurd (omega arith)
any-i (suc n) q p h e = go (bool (eqb q n)) (λ k. any-i n q p k e)
  where
    go : (eqb q n ≡ true) ⊎ (eqb q n ≡ false) → (q < n → any n p ≡ true) → (p n || any n p) ≡ true
    go (inl s) rest = or_l (p n) (any n p) (ap p (sym (eqb-true s)) ∙ e)
    go (inr s) rest = or_r (p n) (any n p) (rest (lt (λ k. false≢true (sym s ∙ ap (λ (x : ℕ). eqb x n) k ∙ eqb_self n))))
      where
        lt : q ≢ n → q < n
        lt k = omega arith

pub any-e : (n : ℕ) (p : ℕ → Bool) → any n p ≡ true → (q : ℕ) × (q < n) × (p q ≡ true)
unfolding any
any-e zero p e = absurd (false≢true e)
any-e (suc n) p e = go (or-e (p n) (any n p) e) (any-e n p)
  where
    go : (p n ≡ true) ⊎ (any n p ≡ true) → (any n p ≡ true → (q : ℕ) × (q < n) × (p q ≡ true)) → (q : ℕ) × (q < suc n) × (p q ≡ true)
    go (inl h) rest = (n, le_refl (suc n), h)
    go (inr h) rest = let r = rest h in (r.0, omega (arith, r.1), r.2)

pub every-e : (n q : ℕ) (p : ℕ → Bool) → q < n → every n p ≡ true → p q ≡ true
unfolding every
every-e zero q p h e = absurd (omega arith)
every-e (suc n) q p h e = go (bool (eqb q n)) (λ k. every-e n q p k (and_r (p n) (every n p) e))
  where
    go : (eqb q n ≡ true) ⊎ (eqb q n ≡ false) → (q < n → p q ≡ true) → p q ≡ true
    go (inl s) rest = ap p (eqb-true s) ∙ and_l (p n) (every n p) e
    go (inr s) rest = rest (lt (λ k. false≢true (sym s ∙ ap (λ (x : ℕ). eqb x n) k ∙ eqb_self n)))
      where
        lt : q ≢ n → q < n
        lt k = omega arith

pub every-i : (n : ℕ) (p : ℕ → Bool) → ((q : ℕ) → q < n → p q ≡ true) → every n p ≡ true
unfolding every
every-i zero p f = refl
every-i (suc n) p f = and_i (p n) (every n p) (f n (le_refl (suc n))) (every-i n p (λ q h. f q (up q h)))
  where
    up : (q : ℕ) → q < n → q < suc n
    up q h = omega arith
