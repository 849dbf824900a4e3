-- Laws of the checks, over the width k: their bounds, messages bit by bit and part by part, and the header as one word.
-- Assumes nothing.
use mathlib.Core.Path.{◌≡◌, refl, sym, ap, ◌∙◌}
use mathlib.Core.Bool.{Bool, true, false, cond}
use mathlib.Core.List.{List, [], ◌∷◌, ◌++◌, append_assoc}
use Prim.Native.Nat.{ℕ, zero, suc, ◌+◌, ◌-◌, ◌*◌, ◌/◌, ◌%◌, ◌^◌, ◌≤◌, ◌<◌}
use native.Mathlib.Nat.{mod-lt, add_comm, add-zero, add-suc, mul_assoc, mul_comm, one-mul, pow-suc, add-mul-div_right}
use native.Mathlib.Numerals.{add-one}
use native.Mathlib.Omega.{arith}
use lib.Dec.{eqb, lit<}
use lib.Bits.{bit_xor, xor_lt}
use lib.ListN.{length, drop, get_or, drop_of_length-le}
use lib.Pow.{pow_pos, high, shl_exact, shr-shr}
use lib.Seq.{drop-cons}
use Rattle.crc.specs.Crc.{bit_step, check, bits_of, bits_of_bytes, header_poly, header_start, header_check, frame_poly, frame_check, start_a, start_b, channel_start}

-- the machine's `1 << k`
pub shl_one : (k : ℕ) → k < 32 → 1 * 2 ^ k % 2 ^ 32 ≡ 2 ^ k
shl_one k h = shl_exact 1 k 32 (lit< tt) (omega arith) ∙ one-mul (2 ^ k)

-- ---- bounds

pub step-lt : (k poly r b : ℕ) → poly < 2 ^ k → bit_step k poly r b < 2 ^ k
unfolding bit_step
step-lt k poly r b p = go (eqb (r / 2 ^ (k - 1)) b)
  where
    moved : r * 2 % 2 ^ k < 2 ^ k
    moved = mod-lt (r * 2) (pow_pos k)

    go : (t : Bool) → cond t (r * 2 % 2 ^ k) (bit_xor (r * 2 % 2 ^ k) poly) < 2 ^ k
    go true = moved
    go false = xor_lt k (r * 2 % 2 ^ k) poly moved p

check-lt : (k poly r : ℕ) (bits : List ℕ) → poly < 2 ^ k → r < 2 ^ k → check k poly r bits < 2 ^ k
unfolding check
check-lt k poly r [] p h = h
check-lt k poly r (b ∷ bits) p h = check-lt k poly (bit_step k poly r b) bits p (step-lt k poly r b p)

pub header-lt : (sync startup number length : ℕ) → header_check sync startup number length < 2 ^ 11
unfolding header_check
header-lt sync startup number length = check-lt 11 header_poly header_start _ (lit< tt) (lit< tt)

pub frame-lt : (start : ℕ) (s : List ℕ) → start < 2 ^ 24 → frame_check start s < 2 ^ 24
unfolding frame_check
frame-lt start s h = check-lt 24 frame_poly start (bits_of_bytes s) (lit< tt) h

pub start_lt : (channel : ℕ) → channel_start channel < 2 ^ 24
unfolding channel_start
start_lt channel = go (eqb channel 0)
  where
    go : (t : Bool) → cond t start_a start_b < 2 ^ 24
    go true = lit< tt
    go false = lit< tt

-- ---- one bit, one byte, one part after the other

check-append : (k poly r : ℕ) (a b : List ℕ) → check k poly r (a ++ b) ≡ check k poly (check k poly r a) b
unfolding check
check-append k poly r [] b = refl
check-append k poly r (x ∷ a) b = check-append k poly (bit_step k poly r x) a b

pub bits_next : (k poly r n x : ℕ) → 0 < n
    → check k poly (bit_step k poly r (x / 2 ^ (n - 1) % 2)) (bits_of (n - 1) x) ≡ check k poly r (bits_of n x)
unfolding check bits_of
bits_next k poly r zero x h = absurd (omega arith)
bits_next k poly r (suc n) x h =
    let e : suc n - 1 ≡ n = omega arith in
    rw e

pub bytes_next : (r : ℕ) (s : List ℕ) (i : ℕ) → i < length s
    → frame_check (check 24 frame_poly r (bits_of 8 (get_or s i 0))) (drop (i + 1) s) ≡ frame_check r (drop i s)
unfolding frame_check bits_of_bytes
bytes_next r s i h = rw (add-one, drop-cons s i 0) (sym (check-append 24 frame_poly r (bits_of 8 (get_or s i 0)) (bits_of_bytes (drop (suc i) s))))

pub bytes_end : (r : ℕ) (s : List ℕ) (i : ℕ) → length s ≤ i → frame_check r (drop i s) ≡ r
unfolding frame_check bits_of_bytes check
bytes_end r s i h = rw drop_of_length-le

-- ---- the header as one word

bits_low : (n a b : ℕ) → bits_of n (a * 2 ^ n + b) ≡ bits_of n b
unfolding bits_of
bits_low zero a b = refl
bits_low (suc n) a b =
    let e : a * 2 ^ suc n ≡ a * 2 * 2 ^ n = ap (λ (x : ℕ). a * x) (pow-suc 2 n ∙ mul_comm (2 ^ n) 2) ∙ sym (mul_assoc a 2 (2 ^ n)) in
    let d : (a * 2 * 2 ^ n + b) / 2 ^ n ≡ b / 2 ^ n + a * 2 = ap (λ (x : ℕ). x / 2 ^ n) (add_comm (a * 2 * 2 ^ n) b) ∙ add-mul-div_right b (a * 2) (pow_pos n) in
    let o : (b / 2 ^ n + a * 2) % 2 ≡ b / 2 ^ n % 2 = omega arith in
    rw (e, d, o, bits_low n (a * 2) b)

bits_append : (n m a b : ℕ) → b < 2 ^ n → bits_of (n + m) (a * 2 ^ n + b) ≡ bits_of m a ++ bits_of n b
unfolding bits_of
bits_append n zero a b h = rw add-zero (bits_low n a b)
bits_append n (suc m) a b h =
    let d : (a * 2 ^ n + b) / 2 ^ (n + m) ≡ a / 2 ^ m = sym (shr-shr (a * 2 ^ n + b) n m) ∙ ap (λ (x : ℕ). x / 2 ^ m) (high a n h) in
    rw (add-suc, d, bits_append n m a b h)

pub header_word : (sync startup number length : ℕ) → startup < 2 → number < 2048 → length < 128
    → check 11 header_poly header_start (bits_of 20 (((sync * 2 + startup) * 2048 + number) * 128 + length)) ≡ header_check sync startup number length
unfolding header_check
header_word sync startup number length p q l =
    ap (check 11 header_poly header_start)
    (bits_append 7 13 ((sync * 2 + startup) * 2048 + number) length l
    ∙ ap (λ (t : List ℕ). t ++ bits_of 7 length)
    (bits_append 11 2 (sync * 2 + startup) number q ∙ ap (λ (t : List ℕ). t ++ bits_of 11 number) (bits_append 1 1 sync startup p))
    ∙ simp append_assoc)
