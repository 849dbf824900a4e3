-- What a copy of a whole list into another of its length leaves, or to the front of a longer one. Assumes nothing.
use mathlib.Core.Path.{◌≡◌, refl, sym, ap, ◌∙◌}
use mathlib.Core.List.{List, [], ◌∷◌, ◌++◌, append-nil}
use Prim.Native.Nat.{ℕ, ◌+◌, ◌≤◌, ◌<◌}
use native.Mathlib.Nat.{zero-add}
use native.Mathlib.Numerals.{add-one}
use native.Mathlib.Omega.{arith}
use lib.ListN.{length, take, drop, get_or, set, drop_of_length-le}
use lib.Seq.{take-length, take-suc, length-take-le}
use Rattle.std.proofs.lemmas.List.{take_all}
use Rattle.parts.specs.Parts.{at_front, with_part}
use Rattle.parts.proofs.Laws.{part_length, part_one, fill_next}

pub whole : (k : ℕ) (s d : List ℕ) → length s ≡ k → length d ≡ k → at_front s d ≡ s
unfolding at_front
whole k s d e f =
    let h : length d ≤ length s = omega arith in
    simp (take-length, drop_of_length-le d h, append-nil)

-- a copy to the front of a longer one
pub at_front_lem : (p q d left : List ℕ) → p ≡ q → left ≡ at_front p d → left ≡ at_front q d
at_front_lem p q d left e l = l ∙ ap (λ (x : List ℕ). at_front x d) e

pub copied : {left : List ℕ} (s d : List ℕ) → length s ≡ length d → left ≡ at_front s d → left ≡ s
copied s d e l = l ∙ whole (length d) s d e refl

-- ---- for the loop that copies

-- one byte more is copied
pub copied_next : (x f g : List ℕ) (i : ℕ) → i < length x → length x ≤ length f → g ≡ with_part 0 (take i x) f
    → set g i (get_or x i 0) ≡ with_part 0 (take (i + 1) x) f
copied_next x f g i h l e =
    let k : length (take i x) ≡ i = length-take-le i x (omega arith) in
    let w : length g ≡ length f = ap length e ∙ part_length 0 (take i x) f (omega arith) in
    fill_next (take i x) (get_or x i 0 ∷ []) f g (set g i (get_or x i 0)) i (sym k) e (part_one i (get_or x i 0) g (omega arith))
    ∙ ap (λ (t : List ℕ). with_part 0 t f) (sym (ap (λ (j : ℕ). take j x) (add-one i) ∙ take-suc x i 0 h))

-- every byte is
pub copied_all : (x f : List ℕ) (i : ℕ) → length x ≤ i → with_part 0 (take i x) f ≡ at_front x f
unfolding with_part
copied_all x f i h = ap (λ (t : List ℕ). t ++ drop (0 + length t) f) (take_all i x h) ∙ ap (λ (j : ℕ). x ++ drop j f) (zero-add (length x))
