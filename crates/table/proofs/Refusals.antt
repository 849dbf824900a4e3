-- What refuses a record, and every entry of one. Assumes nothing.
use mathlib.Core.Path.{◌≡◌, refl, sym, ap, ap₂, ◌∙◌}
use mathlib.Core.Bool.{Bool, true, false, not, ◌&&◌}
use mathlib.Core.List.{List, [], ◌∷◌}
use Prim.Native.Nat.{ℕ, zero, suc, ◌≤◌, ◌<◌}
use native.Mathlib.Omega.{arith}
use native.Mathlib.Numerals.{add-one}
use lib.Dec.{ltb}
use lib.ListN.{length, take}
use lib.Seq.{take_all}
use Rattle.std.proofs.Common.{zero-add}
use Rattle.std.specs.List.{list_all, range_with_len}
use Rattle.std.proofs.lemmas.List.Folds.{list_all_more}
use Rattle.std.proofs.lemmas.List.FromFn.{length-range_with_len, get_or-range_with_len}
use Rattle.sets.specs.Sets.{every}
use Rattle.refusal.specs.Refusal.{when, first}
use Rattle.refusal.specs.Codes.{code_of}
use Rattle.refusal.specs.declared.Refusal.{Refusal}
use Rattle.refusal.proofs.Codes.{numbered}
use Rattle.refusal.proofs.Laws.{refused_before}
use Rattle.table.specs.Records.{is_kind, start_refusal, cycle_refusal}

-- what the first two conditions refuse, the record's refuse
module _ (s : List ℕ) (r : Refusal) where
  pub start-kind : (lent : Bool) (entries : ℕ) → code_of r ≡ first (when (ltb (length s) 3) 11 ∷ when (not (is_kind 1 s)) 12 ∷ []) → code_of r ≡ start_refusal lent entries s
  unfolding start_refusal
  start-kind lent entries e = e ∙ sym (refused_before (when (ltb (length s) 3) 11 ∷ when (not (is_kind 1 s)) 12 ∷ []) _ (λ z. numbered r (e ∙ z)))

  pub cycle-kind : (n k : ℕ) → code_of r ≡ first (when (ltb (length s) 3) 11 ∷ when (not (is_kind 2 s)) 12 ∷ []) → code_of r ≡ cycle_refusal n k s
  unfolding cycle_refusal
  cycle-kind n k e = e ∙ sym (refused_before (when (ltb (length s) 3) 11 ∷ when (not (is_kind 2 s)) 12 ∷ []) _ (λ z. numbered r (e ∙ z)))

-- one entry after the other, as `all` takes them

every-all : (n i : ℕ) (p : ℕ → Bool) → i ≤ n → list_all p (take i (range_with_len 0 n)) ≡ every i p
unfolding every
every-all n zero p h = refl
every-all n (suc i) p h =
    let there : i < length (range_with_len 0 n) = omega (arith, length-range_with_len 0 n) in
    ap (λ (k : ℕ). list_all p (take k (range_with_len 0 n))) (sym (add-one i)) ∙ list_all_more p (range_with_len 0 n) i 0 there
    ∙ ap₂ (λ (a b : Bool). a && b) (every-all n i p (omega arith)) (ap p (get_or-range_with_len 0 n i 0 h ∙ zero-add i))
    ∙ swapped (every i p) (p i)
  where
    swapped : (a b : Bool) → (a && b) ≡ (b && a)
    swapped true true = refl
    swapped true false = refl
    swapped false true = refl
    swapped false false = refl

pub list_all-every : (n : ℕ) (p : ℕ → Bool) → list_all p (range_with_len 0 n) ≡ every n p
list_all-every n p =
    ap (list_all p) (sym (take_all n (range_with_len 0 n) (omega (arith, length-range_with_len 0 n)))) ∙ every-all n n p (omega arith)
