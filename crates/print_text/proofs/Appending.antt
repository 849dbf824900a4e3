-- What an append leaves, and appends one after the other are one append. Assumes nothing.
use mathlib.Core.Path.{◌≡◌, refl, sym, ap, ap₂, ◌∙◌}
use mathlib.Core.List.{List, [], ◌∷◌, ◌++◌}
use Prim.Native.Nat.{ℕ, ◌+◌, ◌≤◌, ◌<◌}
use native.Mathlib.Nat.{add-zero}
use native.Mathlib.Omega.{arith}
use lib.ListN.{length, take, set, length-append}
use Rattle.parts.specs.Parts.{with_part}
use Rattle.parts.proofs.Laws.{part_length, part_none, part_one, part-front, part-next}
use Rattle.print_text.specs.Text.{Appended}

-- what stands before the cursor
pub front : {s t s' : List ℕ} {at r : ℕ} → Appended s at t s' r → take r s' ≡ take at s ++ t
front {s} {t} {s'} {at} {r} a = ap₂ take a.end a.written ∙ part-front at t s (omega arith)

-- the buffer keeps its length
pub room : {s t s' : List ℕ} {at r : ℕ} → Appended s at t s' r → length s' ≡ length s
room {s} {t} {s'} {at} {r} a = ap length a.written ∙ part_length at t s (omega arith)

pub then : {s t s' : List ℕ} {at r : ℕ} {u s'' : List ℕ} {q : ℕ} → Appended s at t s' r → Appended s' r u s'' q → Appended s at (t ++ u) s'' q
then {s} {t} {s'} {at} {r} {u} {s''} {q} a b =
    record {
      written = b.written ∙ ap (with_part r u) a.written ∙ part-next at t s (omega arith) u r a.end;
      end = omega (arith, length-append t u);
      within = omega (arith, room a);
    }

-- the room that is left after a text of at most m bytes
pub leaves : {s t s' : List ℕ} {at r : ℕ} (m k : ℕ) → Appended s at t s' r → length t ≤ m → at + (m + k) ≤ length s → r + k ≤ length s'
leaves m k a l h = omega (arith, room a)

-- the text ends within the buffer
pub inside : {s t s' : List ℕ} {at r : ℕ} → Appended s at t s' r → r ≤ length s'
inside a = omega (arith, room a)

-- nothing appended
pub none : (s : List ℕ) (at r : ℕ) → at ≤ length s → r ≡ at → Appended s at [] s r
none s at r h e = record { written = sym (part_none at s); end = e ∙ sym (add-zero at); within = omega arith }

-- the same text, otherwise written
pub same : {s t s' : List ℕ} {at r : ℕ} {u : List ℕ} → t ≡ u → Appended s at t s' r → Appended s at u s' r
same {s} {t} {s'} {at} {r} e a =
    record { written = a.written ∙ ap (λ (l : List ℕ). with_part at l s) e; end = a.end ∙ ap (λ (l : List ℕ). at + length l) e; within = a.within }

-- one byte
pub byte : (s : List ℕ) (at b : ℕ) → at < length s → Appended s at (b ∷ []) (set s at b) (at + 1)
byte s at b h = record { written = part_one at b s h; end = refl; within = omega arith }
