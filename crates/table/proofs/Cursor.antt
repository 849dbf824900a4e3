-- A walk over the records of s: what a turn says of all the cycles from there on. Assumes nothing.
use mathlib.Core.Path.{◌≡◌, sym, ap, ap₂, ◌∙◌}
use mathlib.Core.Bool.{Bool, true, false}
use mathlib.Core.List.{List}
use Prim.Native.Nat.{ℕ, ◌+◌, ◌-◌, ◌≤◌, ◌<◌}
use native.Mathlib.Omega.{arith}
use native.Mathlib.Numerals.{add-one}
use lib.Dec.{eqb}
use borrow.Author.Tests.{eqb-true, eqb-false}
use lib.ListN.{length, take, drop, length-drop}
use lib.Seq.{take_all}
use Rattle.refusal.specs.declared.Refusal.{Refusal}
use Rattle.refusal.specs.Codes.{code_of}
use Rattle.refusal.proofs.Codes.{numbered}
use Rattle.table.specs.Records.{count_at, start_refusal, cycle_length, cycle_refusal}
use Rattle.table.specs.Table.{Cycles, cycles_in, table_of}
use Rattle.table.proofs.Laws.{no_cycle, accepted, cycles_end, cycles_refused, cycles_next, table_refused, table_cycles}

-- what is left of s from the cursor on, as `&s[at..]` has it
abbrev pub left : List ℕ → ℕ → List ℕ
left s at = take (length s - at) (drop at s)

pub left-drop : (s : List ℕ) (at : ℕ) → left s at ≡ drop at s
left-drop s at = take_all (length s - at) (drop at s) (omega (arith, length-drop at s))

-- the cycles from the cursor on, the first of which is cycle k
abbrev pub from : ℕ → ℕ → List ℕ → ℕ → Cycles
from n k s at = cycles_in (length s) n k (drop at s)

-- a walk over the records by what is left of s, of which `rest` is cycle k on
module _ (n k : ℕ) (s rest : List ℕ) (shorter : length rest ≤ length s) where
  pub rest-end : eqb (length rest) 0 ≡ true → (cycles_in (length s) n k rest).refusal ≡ 0
  rest-end e = ap (λ (c : Cycles). c.refusal) (cycles_end (length s) n k rest (eqb-true (length rest) 0 e))

  pub rest-refused : eqb (length rest) 0 ≡ false → (r : Refusal) → code_of r ≡ cycle_refusal n k rest → (cycles_in (length s) n k rest).refusal ≡ code_of r
  rest-refused e r h =
      ap (λ (c : Cycles). c.refusal) (cycles_refused (length s) n k rest shorter (eqb-false (length rest) 0 e) (λ z. numbered r (h ∙ z))) ∙ sym h

  -- l is the length of the record
  module _ (z : 0 ≡ cycle_refusal n k rest) (l : ℕ) (kl : l ≡ cycle_length rest) where
    pub rest-shorter : length (left rest l) < length rest
    rest-shorter = let t = accepted n k rest (sym z) in omega (arith, t.head, t.there, ap (λ (x : List ℕ). length x) (left-drop rest l), length-drop l rest)

    pub rest-next : (cycles_in (length s) n k rest).refusal ≡ (cycles_in (length s) n (k + 1) (left rest l)).refusal
    rest-next =
        ap (λ (c : Cycles). c.refusal) (cycles_next (length s) n k rest shorter (sym z))
        ∙ ap₂ (λ (j : ℕ) (x : List ℕ). (cycles_in (length s) n j x).refusal) (sym (add-one k)) (ap (λ (m : ℕ). drop m rest) (sym kl) ∙ sym (left-drop rest l))

-- a table from its first record on, of which r is the refusal and n the number of nodes
module _ (lent : Bool) (entries : ℕ) (s : List ℕ) (r : ℕ) (kr : r ≡ start_refusal lent entries s) where
  pub table-stops : (r ≡ 0 → ⊥) → (table_of lent entries s).cycles ≡ no_cycle r
  table-stops z = table_refused lent entries s (λ e. z (kr ∙ e)) ∙ ap (λ (x : ℕ). no_cycle x) (sym kr)

  pub table-goes-on : r ≡ 0 → (n : ℕ) → n ≡ count_at s → (table_of lent entries s).cycles ≡ from n 1 (left s 12) 0
  table-goes-on z n kn =
      table_cycles lent entries s (sym kr ∙ z)
      ∙ ap₂ (λ (t : List ℕ) (m : ℕ). cycles_in (length t) m 1 t) (sym (left-drop s 12)) (sym kn)
