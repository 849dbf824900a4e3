-- Bytes that are 0: tested by their bits together, as the code does it, and by the numbers that they are read as. Assumes nothing.
use mathlib.Core.Path.{◌≡◌, refl, sym, ap, ap₂, ◌∙◌}
use mathlib.Core.Bool.{Bool, true, false, ◌&&◌}
use mathlib.Core.List.{List, [], ◌∷◌, ◌++◌}
use Prim.Native.Nat.{ℕ, zero, suc, ◌+◌, ◌*◌, ◌<◌, ◌≤◌}
use native.Mathlib.Numerals.{add-one}
use native.Mathlib.Omega.{arith}
use Rattle.std.specs.Int.Bits.{bit_or, or_zero_l}
use Rattle.std.proofs.lemmas.Nat.{le_or_l, le_or_r}
use lib.Dec.{eqb}
use lib.ListN.{get_or, length, take, drop, take-append-drop, length-drop, drop_of_length-le}
use lib.Seq.{take-suc, drop-cons, drop-drop, get_or-drop}
use borrow.Author.Tests.{eq-eqb, ne_eqb, eqb-true, eqb-false}
use Rattle.bigendian.specs.BigEndian.{number_at}
use Rattle.registers.specs.Block.{all_zero}

and_assoc : (a b c : Bool) → (a && b && c) ≡ (a && (b && c))
and_assoc true b c = refl
and_assoc false b c = refl

and-true : (b : Bool) → (b && true) ≡ b
and-true true = refl
and-true false = refl

zero-append : (s t : List ℕ) → all_zero (s ++ t) ≡ (all_zero s && all_zero t)
zero-append [] t = refl
zero-append (b ∷ s) t = ap (λ (x : Bool). eqb b 0 && x) (zero-append s t) ∙ sym (and_assoc (eqb b 0) (all_zero s) (all_zero t))

-- the bits of two numbers together are none if neither has one
bits-zero : (a b : ℕ) → eqb (bit_or a b) 0 ≡ (eqb a 0 && eqb b 0)
bits-zero a b = go (eqb a 0) (eqb b 0) refl refl
  where
    go : (p q : Bool) → eqb a 0 ≡ p → eqb b 0 ≡ q → eqb (bit_or a b) 0 ≡ (p && q)
    go true true e f = eq-eqb (bit_or a b) 0 (ap₂ bit_or (eqb-true a 0 e) (eqb-true b 0 f) ∙ or_zero_l 0)
    go true false e f = let y = eqb-false b 0 f in let m = le_or_r a b in ne_eqb (bit_or a b) 0 (λ z. y (omega arith))
    go false q e f = let x = eqb-false a 0 e in let m = le_or_l a b in ne_eqb (bit_or a b) 0 (λ z. x (omega arith))

-- one byte more
pub zero_next : (s : List ℕ) (i bits : ℕ) → i < length s → eqb bits 0 ≡ all_zero (take i s) → eqb (bit_or bits (get_or s i 0)) 0 ≡ all_zero (take (i + 1) s)
zero_next s i bits h e =
    bits-zero bits (get_or s i 0) ∙ ap₂ (λ (x y : Bool). x && y) e (sym (and-true (eqb (get_or s i 0) 0)))
    ∙ sym (zero-append (take i s) (get_or s i 0 ∷ []))
    ∙ ap all_zero (sym (take-suc s i 0 h)) ∙ ap (λ (k : ℕ). all_zero (take k s)) (sym (add-one i))

-- a number is 0 if its digits are
digits-zero : (a b : ℕ) → eqb (a * 256 + b) 0 ≡ (eqb a 0 && eqb b 0)
digits-zero a b = go (eqb a 0) (eqb b 0) refl refl
  where
    go : (p q : Bool) → eqb a 0 ≡ p → eqb b 0 ≡ q → eqb (a * 256 + b) 0 ≡ (p && q)
    go true true e f = let x = eqb-true a 0 e in let y = eqb-true b 0 f in eq-eqb (a * 256 + b) 0 (omega arith)
    go true false e f = let y = eqb-false b 0 f in ne_eqb (a * 256 + b) 0 (λ z. y (omega arith))
    go false q e f = let x = eqb-false a 0 e in ne_eqb (a * 256 + b) 0 (λ z. x (omega arith))

pub number_zero : (s : List ℕ) (i k : ℕ) → i + k ≤ length s → eqb (number_at s i k) 0 ≡ all_zero (take k (drop i s))
unfolding number_at
number_zero s i zero h = refl
number_zero s i (suc k) h =
    digits-zero (number_at s i k) (get_or s (i + k) 0)
    ∙ ap₂ (λ (x y : Bool). x && y) (number_zero s i k (omega arith)) (ap (λ (b : ℕ). eqb b 0) (sym (get_or-drop i s k 0)) ∙ sym (and-true (eqb (get_or (drop i s) k 0) 0)))
    ∙ sym (zero-append (take k (drop i s)) (get_or (drop i s) k 0 ∷ []))
    ∙ ap all_zero (sym (take-suc (drop i s) k 0 (simp length-drop (omega arith))))

-- what follows from a place on is so many bytes, and what follows these
zero_split : (s : List ℕ) (i k : ℕ) → all_zero (drop i s) ≡ (all_zero (take k (drop i s)) && all_zero (drop (i + k) s))
zero_split s i k =
    ap all_zero (sym (take-append-drop k (drop i s))) ∙ zero-append (take k (drop i s)) (drop k (drop i s))
    ∙ ap (λ (t : List ℕ). all_zero (take k (drop i s)) && all_zero t) (drop-drop k i s)

-- the last 37 bytes of 64: one, four, and four times eight
pub rest_zero : (s : List ℕ) (four a b c d : Bool) → length s ≡ 64 → four ≡ all_zero (take 4 (drop 28 s)) → a ≡ all_zero (take 8 (drop 32 s))
    → b ≡ all_zero (take 8 (drop 40 s)) → c ≡ all_zero (take 8 (drop 48 s)) → d ≡ all_zero (take 8 (drop 56 s))
    → (eqb (get_or s 27 0) 0 && four && a && b && c && d) ≡ all_zero (drop 27 s)
rest_zero s four a b c d l e4 ea eb ec ed =
    ap (λ (x : Bool). eqb (get_or s 27 0) 0 && four && a && b && c && x) last
    ∙ back (eqb (get_or s 27 0) 0 && four && a && b) c 48 8 ec ∙ back (eqb (get_or s 27 0) 0 && four && a) b 40 8 eb
    ∙ back (eqb (get_or s 27 0) 0 && four) a 32 8 ea ∙ back (eqb (get_or s 27 0) 0) four 28 4 e4
    ∙ ap all_zero (sym (drop-cons s 27 0 (omega arith)))
  where
    last : d ≡ all_zero (drop 56 s)
    last = ed ∙ sym (zero_split s 56 8 ∙ ap (λ (t : List ℕ). all_zero (take 8 (drop 56 s)) && all_zero t) (drop_of_length-le s {i = 64} (omega arith)) ∙ and-true _)

    back : (front x : Bool) (i k : ℕ) → x ≡ all_zero (take k (drop i s)) → (front && x && all_zero (drop (i + k) s)) ≡ (front && all_zero (drop i s))
    back front x i k e = and_assoc front x (all_zero (drop (i + k) s)) ∙ ap (λ (y : Bool). front && y) (ap (λ (z : Bool). z && all_zero (drop (i + k) s)) e ∙ sym (zero_split s i k))
