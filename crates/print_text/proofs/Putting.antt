-- Appends to a text one after the other are one append. Assumes nothing.
use mathlib.Core.Path.{◌≡◌, refl, ◌∙◌}
use mathlib.Core.List.{List, [], ◌++◌}
use Prim.Native.Nat.{ℕ, ◌+◌, ◌≤◌}
use native.Mathlib.Omega.{arith}
use lib.ListN.{length}
use Rattle.print_text.specs.declared.Text.{Text}
use Rattle.print_text.specs.Cursor.{HasRoom, Puts}
use Rattle.print_text.proofs.Appending as append

pub then : {a b c : Text} {t u : List ℕ} → Puts a t b → Puts b u c → Puts a (t ++ u) c
then p q = record { appended = append.then p.appended q.appended; same_reference = q.same_reference ∙ p.same_reference }

-- the same text, otherwise written
pub same : {a b : Text} {t u : List ℕ} → t ≡ u → Puts a t b → Puts a u b
same e p = record { appended = append.same e p.appended; same_reference = p.same_reference }

-- nothing appended
pub none : (a : Text) → HasRoom a 0 → Puts a [] a
none a h = record { appended = append.none a.out.now a.at a.at (omega arith) refl; same_reference = refl }

-- the room that is left after a text of at most m bytes
pub leaves : {a b : Text} {t : List ℕ} (m k : ℕ) → Puts a t b → length t ≤ m → HasRoom a (m + k) → HasRoom b k
leaves m k p l h = append.leaves m k p.appended l h
