-- Digits stored from the last, in any base; how many decimal digits a number has. Assumes nothing.
use mathlib.Core.Path.{◌≡◌, refl, sym, ap, ap₂, ◌∙◌, subst}
use mathlib.Core.Bool.{Bool, true, false, cond}
use mathlib.Core.List.{List, [], ◌∷◌, ◌++◌, append_assoc, append-nil}
use Prim.Native.Nat.{ℕ, zero, suc, ◌+◌, ◌-◌, ◌*◌, ◌/◌, ◌%◌, ◌^◌, ◌≤◌, ◌<◌}
use native.Mathlib.Nat.{pow-succ', one-le-pow}
use native.Mathlib.Numerals.{add-one}
use native.Mathlib.Omega.{arith}
use lib.Dec.{ltb}
use lib.ListN.{length, set, length-set, length-append}
use borrow.Author.Tests.{lt-ltb, le-ltb}
use Rattle.parts.specs.Parts.{with_part}
use Rattle.parts.proofs.Laws.{part_none, part_before}
use Rattle.print_text.specs.Text.{glyph, digits, hex_text, places, decimal_text, Appended}

length_digits : (b k n : ℕ) → length (digits b k n) ≡ k
unfolding digits
length_digits b zero n = refl
length_digits b (suc k) n =
    length-append (digits b k (n / b)) (glyph (n % b) ∷ []) ∙ ap (λ (x : ℕ). x + 1) (length_digits b k (n / b)) ∙ add-one k

places_few : (most n : ℕ) → places most n ≤ suc most
unfolding places
places_few zero n = omega arith
places_few (suc most) n = go (ltb n 10) (places_few most (n / 10))
  where
    go : (b : Bool) → places most (n / 10) ≤ suc most → cond b 1 (suc (places most (n / 10))) ≤ suc (suc most)
    go true h = omega arith
    go false h = omega arith

-- how long a number is as text
pub hex_length : (m : ℕ) → length (hex_text m) ≤ 16
unfolding hex_text
hex_length m = omega (arith, length_digits 16 16 m)

pub decimal_length : (n : ℕ) → length (decimal_text n) ≤ 20
unfolding decimal_text
decimal_length n = omega (arith, length_digits 10 (places 19 n) n, places_few 19 n)

-- Of the k digits of n from `at` on, those from place i on, `last`, are stored, and `rest` is what is left of n for the others.
pub record Stored (b k n : ℕ) (s : List ℕ) (at : ℕ) (s' : List ℕ) (i rest : ℕ) : Type 0 where
  pub within : i ≤ k
  pub room : length s' ≡ length s
  pub last : List ℕ
  pub all : digits b i rest ++ last ≡ digits b k n
  pub written : s' ≡ with_part (at + i) last s

module _ (b k n : ℕ) (s : List ℕ) (at : ℕ) where
  pub stored-none : Stored b k n s at s k n
  stored-none = record { within = omega arith; room = refl; last = []; all = append-nil (digits b k n); written = sym (part_none (at + k) s) }

  -- one digit more, before those that are stored
  stored_at : (s' : List ℕ) (i rest g : ℕ) → at + k ≤ length s → g ≡ glyph (rest % b) → Stored b k n s at s' (suc i) rest
      → Stored b k n s at (set s' (at + i) g) i (rest / b)
  unfolding digits
  stored_at s' i rest g h e t =
      let next : at + suc i ≡ suc (at + i) = omega arith in
      let inside : at + i < length s = omega (arith, t.within) in
      record {
        within = omega (arith, t.within);
        room = length-set s' (at + i) g ∙ t.room;
        last = g ∷ t.last;
        all =
            ap (λ (x : ℕ). digits b i (rest / b) ++ (x ∷ t.last)) e
            ∙ sym (append_assoc (digits b i (rest / b)) (glyph (rest % b) ∷ []) t.last)
            ∙ t.all;
        written =
            ap (λ (l : List ℕ). set l (at + i) g) (t.written ∙ ap (λ (j : ℕ). with_part j t.last s) next)
            ∙ part_before (at + i) g t.last s inside;
      }

  pub stored_more : (s' : List ℕ) (i rest g : ℕ) → at + k ≤ length s → 0 < i → g ≡ glyph (rest % b) → Stored b k n s at s' i rest
      → Stored b k n s at (set s' (at + (i - 1)) g) (i - 1) (rest / b)
  stored_more s' i rest g h l e t =
      let some : i ≡ suc (i - 1) = omega arith in stored_at s' (i - 1) rest g h e (subst (λ (m : ℕ). Stored b k n s at s' m rest) some t)

  pub stored-all : (s' : List ℕ) (i rest : ℕ) → at + k ≤ length s → i ≤ 0 → Stored b k n s at s' i rest → Appended s at (digits b k n) s' (at + k)
  unfolding digits
  stored-all s' i rest h l t =
      let none : i ≡ 0 = omega arith in
      let here : at + i ≡ at = omega arith in
      let whole : t.last ≡ digits b k n = ap (λ (j : ℕ). digits b j rest ++ t.last) (sym none) ∙ t.all in
      record {
        written = t.written ∙ ap₂ (λ (j : ℕ) (x : List ℕ). with_part j x s) here whole;
        end = ap (λ (m : ℕ). at + m) (sym (length_digits b k n));
        within = h;
      }

-- ---- how many decimal digits a number has

-- a number with more than one digit has one more than its tenth
places_more : (f rest : ℕ) → 10 ≤ rest → places (suc f) rest ≡ suc (places f (rest / 10))
unfolding places
places_more f rest h = rw (le-ltb rest 10 h)

pub places_one : (f rest : ℕ) → rest < 10 → places f rest ≡ 1
unfolding places
places_one zero rest h = refl
places_one (suc f) rest h = rw (lt-ltb rest 10 h)

-- by the power of ten that it reaches
pub places_by_power : (f k x : ℕ) → k ≤ f → 10 ^ k ≤ x → x < 10 * 10 ^ k → places f x ≡ k + 1
places_by_power f zero x l h h' = places_one f x h'
places_by_power zero (suc k) x l h h' = absurd (omega arith)
places_by_power (suc f) (suc k) x l h h' =
    let p : 10 ^ suc k ≡ 10 * 10 ^ k = pow-succ' 10 k in
    let some : 0 < 10 ^ k = one-le-pow k 10 (omega arith) in
    let more : 10 ≤ x = omega arith in
    let least : 10 ^ k ≤ x / 10 = omega arith in
    let most : x / 10 < 10 * 10 ^ k = omega arith in
    let tenth : places f (x / 10) ≡ k + 1 = places_by_power f k (x / 10) (omega arith) least most in
    omega (arith, places_more f x more, tenth)
