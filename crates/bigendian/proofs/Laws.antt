-- Numbers written in k bytes and read back, for every k. Assumes nothing.
use mathlib.Core.Path.{◌≡◌, refl, sym, ap, ap₂, ◌∙◌, subst}
use mathlib.Core.List.{List, [], ◌∷◌, ◌++◌, append_assoc}
use Prim.Native.Nat.{ℕ, zero, suc, ◌+◌, ◌-◌, ◌*◌, ◌/◌, ◌%◌, ◌^◌, ◌≤◌, ◌<◌}
use native.Mathlib.Nat.{pow-suc, pow-succ', div-one, div-div-eq-div-mul, div-add-mod', div-lt_iff_lt-mul, add-suc, add-zero, lt_of_lt_of_le, pow-le-pow_right, mul-le-mul_right, mod-eq_of_lt, add_assoc, mul_assoc, add-mul}
use native.Mathlib.Omega.{arith}
use lib.Dec.{lit<}
use lib.Arith.{lt-one, digits_lt, digits_div, digits_mod}
use lib.ListN.{length, get_or, take, drop, set, replicate, take-append-drop, length-drop, length-replicate, drop_of_length-le}
use lib.Pow.{pow-add}
use lib.Seq.{get_or-append-add, get_or_at, get_or-drop, take-suc, drop-drop, drop_at, length-take-le, set_split}
use Rattle.bigendian.specs.BigEndian.{bytes_of, number_at}

-- every element is a byte
abbrev pub Bytes : List ℕ → Type 0
Bytes s = (i : ℕ) → get_or s i 0 < 256

pub length_bytes : (k x : ℕ) → length (bytes_of k x) ≡ k
unfolding bytes_of
length_bytes zero x = refl
length_bytes (suc k) x = ap suc (length_bytes k x)

-- the lowest byte stands last
bytes_last : (k x : ℕ) → bytes_of (suc k) x ≡ bytes_of k (x / 256) ++ (x % 256 ∷ [])
unfolding bytes_of
bytes_last zero x = simp div-one
bytes_last (suc k) x = ap₂ (λ (a : ℕ) (l : List ℕ). a ∷ l) (ap (λ (a : ℕ). a % 256) byte) (bytes_last k x)
  where
    byte : x / 256 ^ suc k ≡ x / 256 / 256 ^ k
    byte = ap (λ (a : ℕ). x / a) (pow-succ' 256 k) ∙ sym (div-div-eq-div-mul x 256 (256 ^ k))

-- written between p and t, it reads back
pub number_bytes : (p t : List ℕ) (k x : ℕ) → x < 256 ^ k → number_at (p ++ (bytes_of k x ++ t)) (length p) k ≡ x
unfolding number_at
number_bytes p t zero x h = sym (lt-one h)
number_bytes p t (suc k) x h =
    ap (λ (l : List ℕ). number_at l (length p) (suc k)) split
    ∙ ap₂ (λ (a b : ℕ). a * 256 + b) (number_bytes p (x % 256 ∷ t) k (x / 256) less) last
    ∙ div-add-mod' x 256
  where
    split : p ++ (bytes_of (suc k) x ++ t) ≡ p ++ (bytes_of k (x / 256) ++ (x % 256 ∷ t))
    split = ap (λ (l : List ℕ). p ++ l) (ap (λ (l : List ℕ). l ++ t) (bytes_last k x) ∙ append_assoc (bytes_of k (x / 256)) (x % 256 ∷ []) t)

    less : x / 256 < 256 ^ k
    less = (div-lt_iff_lt-mul (lit< tt)).1 (subst (λ (a : ℕ). x < a) (pow-suc 256 k) h)

    last : get_or (p ++ (bytes_of k (x / 256) ++ (x % 256 ∷ t))) (length p + k) 0 ≡ x % 256
    last = get_or-append-add p (bytes_of k (x / 256) ++ (x % 256 ∷ t)) k 0 ∙ get_or_at (bytes_of k (x / 256)) (x % 256) t 0 k (length_bytes k (x / 256))

-- the same at a place that is given as a number
pub number_at_lem : (p t : List ℕ) (i k x : ℕ) → length p ≡ i → x < 256 ^ k → number_at (p ++ (bytes_of k x ++ t)) i k ≡ x
number_at_lem p t i k x e h = ap (λ (a : ℕ). number_at (p ++ (bytes_of k x ++ t)) a k) (sym e) ∙ number_bytes p t k x h

-- the bytes that a number was read from
pub bytes_number : (s : List ℕ) (i k : ℕ) → Bytes s → i + k ≤ length s → bytes_of k (number_at s i k) ≡ take k (drop i s)
unfolding number_at bytes_of
bytes_number s i zero b h = refl
bytes_number s i (suc k) b h =
    bytes_last k (number_at s i k * 256 + get_or s (i + k) 0)
    ∙ ap₂ (λ (a y : ℕ). bytes_of k a ++ (y ∷ [])) (digits_div (number_at s i k) (b (i + k))) (digits_mod (number_at s i k) (b (i + k)))
    ∙ ap₂ (λ (l : List ℕ) (y : ℕ). l ++ (y ∷ [])) (bytes_number s i k b (omega arith)) (sym (get_or-drop i s k 0))
    ∙ sym (take-suc (drop i s) k 0 (simp length-drop (omega arith)))

-- the same with what follows, to put a list together again field by field
pub bytes_rest : (s : List ℕ) (i k : ℕ) → Bytes s → i + k ≤ length s → bytes_of k (number_at s i k) ++ drop (i + k) s ≡ drop i s
bytes_rest s i k b h =
    ap₂ (λ (l r : List ℕ). l ++ r) (bytes_number s i k b h) (sym (drop-drop k i s)) ∙ take-append-drop k (drop i s)

pub number_lt : (s : List ℕ) (i k : ℕ) → Bytes s → number_at s i k < 256 ^ k
unfolding number_at
number_lt s i zero b = lit< tt
number_lt s i (suc k) b = subst (λ (a : ℕ). number_at s i (suc k) < a) (sym (pow-suc 256 k)) (digits_lt (number_lt s i k b) (b (i + k)))

-- j + k bytes are j bytes and then k
pub number_join : (s : List ℕ) (i j k : ℕ) → number_at s i (j + k) ≡ number_at s i j * 256 ^ k + number_at s (i + j) k
unfolding number_at
number_join s i j zero = ap (number_at s i) (add-zero j) ∙ omega arith
number_join s i j (suc k) =
    ap (number_at s i) (add-suc j k) ∙ ap₂ (λ (a b : ℕ). a * 256 + b) (number_join s i j k) (ap (λ (a : ℕ). get_or s a 0) (sym (add_assoc i j k)))
    ∙ regroup (number_at s i j) (256 ^ k) (number_at s (i + j) k) (get_or s (i + j + k) 0)
    ∙ ap (λ (a : ℕ). number_at s i j * a + (number_at s (i + j) k * 256 + get_or s (i + j + k) 0)) (sym (pow-suc 256 k))
  where
    regroup : (a m b y : ℕ) → (a * m + b) * 256 + y ≡ a * (m * 256) + (b * 256 + y)
    regroup a m b y = ap (λ (z : ℕ). z + y) (add-mul (a * m) b 256) ∙ ap (λ (z : ℕ). (z + b * 256) + y) (mul_assoc a m 256) ∙ add_assoc (a * (m * 256)) (b * 256) y

-- ---- for the loop that writes, from the last byte of k to the first

-- none of them is written
pub none_written : (k x : ℕ) → (length (replicate {A = ℕ} k 0) ≡ k) × (x ≡ x / 256 ^ (k - k)) × (drop k (replicate {A = ℕ} k 0) ≡ bytes_of (k - k) x)
unfolding bytes_of
none_written k x =
    let e : k - k ≡ 0 = omega arith in
    let l : length (replicate {A = ℕ} k 0) ≡ k = length-replicate {A = ℕ} k 0 in
    rw e (l, sym (div-one x), drop_of_length-le (replicate {A = ℕ} k 0) (omega arith))

-- what is left to be written before the byte i
pub one_moved : (k i rest x : ℕ) → 0 < i → i ≤ k → rest ≡ x / 256 ^ (k - i) → rest / 256 ≡ x / 256 ^ (k - (i - 1))
one_moved k i rest x h l e =
    let s : k - (i - 1) ≡ suc (k - i) = omega arith in
    rw (s, pow-suc) (ap (λ (a : ℕ). a / 256) e ∙ div-div-eq-div-mul x (256 ^ (k - i)) 256)

-- the byte before those that are written
pub one_written : (k i rest x : ℕ) (bytes : List ℕ) → 0 < i → i ≤ k → length bytes ≡ k → rest ≡ x / 256 ^ (k - i) → drop i bytes ≡ bytes_of (k - i) x
    → drop (i - 1) (set bytes (i - 1) (rest % 256)) ≡ bytes_of (k - (i - 1)) x
unfolding bytes_of
one_written k i rest x bytes h l w e d =
    let s : k - (i - 1) ≡ suc (k - i) = omega arith in
    let u : suc (i - 1) ≡ i = omega arith in
    let some : i - 1 ≤ length bytes = omega arith in
    rw s
    (ap (drop (i - 1)) (set_split bytes (i - 1) (rest % 256) (omega arith))
    ∙ drop_at (take (i - 1) bytes) (rest % 256 ∷ drop (suc (i - 1)) bytes) (i - 1) (length-take-le (i - 1) bytes some)
    ∙ ap₂ (λ (a : ℕ) (t : List ℕ). a % 256 ∷ t) e (ap (λ (j : ℕ). drop j bytes) u ∙ d))

-- ---- for the loop that reads, from the last byte to the first

eight_bits : (m : ℕ) → 2 ^ (8 * m) ≡ 256 ^ m
eight_bits zero = refl
eight_bits (suc m) =
    let e : 8 * suc m ≡ 8 * m + 8 = omega arith in
    ap (λ (j : ℕ). 2 ^ j) e ∙ pow-add 2 (8 * m) 8 ∙ ap (λ (a : ℕ). a * 256) (eight_bits m) ∙ sym (pow-suc 256 m)

-- nothing is read
pub none_read : (s : List ℕ) (i k : ℕ) → (0 ≡ number_at s i (k - k)) × (0 < 256 ^ (k - k))
unfolding number_at
none_read s i k =
    let e : k - k ≡ 0 = omega arith in
    rw e (refl, lit< tt)

byte_below : (n b j : ℕ) → n < 256 ^ j → b < 256 → n + b * 256 ^ j < 256 ^ suc j
byte_below n b j f g =
    let most : (b + 1) * 256 ^ j ≤ 256 * 256 ^ j = mul-le-mul_right (256 ^ j) (omega arith) in
    let parts : (b + 1) * 256 ^ j ≡ b * 256 ^ j + 1 * 256 ^ j = add-mul b 1 (256 ^ j) in
    rw pow-succ' (omega arith)

module _ (k i b n : ℕ) (some : 0 < i) (inside : i ≤ k) (few : k ≤ 8) (byte : b < 256) (below : n < 256 ^ (k - i)) where
  abbrev shifted : ℕ
  shifted = b * 2 ^ (8 * (k - 1 - (i - 1))) % 2 ^ 64

  -- the byte, moved up by those behind it, and the number n of these
  fits : n + b * 256 ^ (k - i) < 256 ^ (k - (i - 1))
  fits =
      let e : k - (i - 1) ≡ suc (k - i) = omega arith in
      rw e (byte_below n b (k - i) below byte)

  fits_word : n + b * 256 ^ (k - i) < 2 ^ 64
  fits_word =
      let u : k - (i - 1) ≤ 8 = omega arith in
      lt_of_lt_of_le fits (pow-le-pow_right {n = 256} (lit< tt) u)

  -- no bit of it is cut off
  moved_up : shifted ≡ b * 256 ^ (k - i)
  moved_up =
      let e : k - 1 - (i - 1) ≡ k - i = omega arith in
      let room : b * 256 ^ (k - i) < 2 ^ 64 = omega (arith, fits_word) in
      rw (e, eight_bits (k - i)) (mod-eq_of_lt room)

  pub room_for_byte : n + shifted < 2 ^ 64
  room_for_byte = rw moved_up fits_word

  pub byte_fits : n + shifted < 256 ^ (k - (i - 1))
  byte_fits = rw moved_up fits

  pub byte_before : (s : List ℕ) (at : ℕ) → n ≡ number_at s (at + i) (k - i) → b ≡ get_or s (at + (i - 1)) 0
      → n + shifted ≡ number_at s (at + (i - 1)) (k - (i - 1))
  unfolding number_at
  byte_before s at e d =
      let u : k - (i - 1) ≡ 1 + (k - i) = omega arith in
      let v : at + (i - 1) + 1 ≡ at + i = omega arith in
      let w : number_at s (at + (i - 1)) 1 ≡ b = rw (add-zero, d) (omega arith) in
      rw (moved_up, u, number_join s (at + (i - 1)) 1 (k - i), v, w, sym e) (omega arith)
