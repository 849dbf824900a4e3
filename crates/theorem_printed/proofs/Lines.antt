-- The printed line of each whole cycle. Assumes nothing.
use mathlib.Core.Path.{◌≡◌, refl, sym, ap, ap₂, ◌∙◌}
use mathlib.Core.Logic.{◌⊎◌, inl, inr}
use mathlib.Core.Bool.{Bool, true, false, cond, false≢true}
use mathlib.Core.List.{List, [], ◌∷◌, ◌++◌, append_assoc}
use mathlib.Core.Option.{Option, none, some}
use Prim.Native.Nat.{ℕ, suc, ◌+◌}
use native.Mathlib.Nat.{zero-add}
use native.Mathlib.Omega.{arith}
use lib.ListN.{length}
use Rattle.sets.specs.Sets.{has, lowest}
use Rattle.sets.proofs.Booleans.{bool, and_i}
use Rattle.state.specs.declared.Group.{Group}
use Rattle.state.specs.State.{group_of}
use Rattle.rules.specs.declared.Faults.{Faults}
use Rattle.rules.specs.declared.Config.{Config}
use Rattle.rules.specs.Faults.{at, cycle}
use Rattle.rules.specs.Reference.{Cluster, beginning, steady, keeps_with, keeps, reference_after, step, after, halted_in, entered_in}
use Rattle.theorem_agreement.specs.Demand3.{Kept, Reference, all_keep}
use Rattle.theorem_agreement.proofs.Histories.{after-append, defined, demand3}
use Rattle.table.specs.Table.{table_of}
use Rattle.print_run.specs.Printed.{header_line, fields, line, lines, refused_line, reported, printed}
use Rattle.theorem_printed.specs.Lines.{table_press, founders_of, cluster_at, around, OverPrinted}

-- ---- a cycle that meets the premise comes after none that did not

broken-step : (C : Config) (k : Cluster) (c : Faults) → keeps C k c ≡ false → (step C k c).reference ≡ none
unfolding keeps step
broken-step C k c e = go k.reference e
  where
    go : (o : Option Group) → keeps_with C k c o ≡ false → reference_after C k c (cycle C c k.row) o ≡ none
    go none b = refl
    go (some g) b = ap (λ (t : Bool). cond t (group_of (at (cycle C c k.row) (lowest C.nodes (λ q. has q (steady C k c g))))) none) b

none_kept : (C : Config) (k : Cluster) (c : Faults) → k.reference ≡ none → keeps C k c ≡ false
unfolding keeps
none_kept C k c e = ap (keeps_with C k c) e

broken_stays : (C : Config) (k : Cluster) (cs : List Faults) (c : Faults) → k.reference ≡ none → keeps C (after C k cs) c ≡ false
unfolding after
broken_stays C k [] c e = none_kept C k c e
broken_stays C k (d ∷ cs) c e = broken_stays C (step C k d) cs c (broken-step C k d (none_kept C k d e))

kept_before : (C : Config) (k : Cluster) (past : List Faults) (c : Faults) → keeps C (after C k past) c ≡ true → all_keep C k (past ++ (c ∷ [])) ≡ true
unfolding after all_keep
kept_before C k [] c e = and_i (keeps C k c) true e refl
kept_before C k (d ∷ past) c e = and_i (keeps C k d) (all_keep C (step C k d) (past ++ (c ∷ []))) (go (bool (keeps C k d))) (kept_before C (step C k d) past c e)
  where
    go : (keeps C k d ≡ true) ⊎ (keeps C k d ≡ false) → keeps C k d ≡ true
    go (inl h) = h
    go (inr h) = absurd (false≢true (sym (broken_stays C (step C k d) past c (broken-step C k d h)) ∙ e))

-- ---- the line of one cycle among the lines

lines_split : (C : Config) (k : ℕ) (b : Cluster) (past : List Faults) (c : Faults) (rest : List Faults)
    → lines C k b (past ++ (c ∷ rest)) ≡ lines C k b past ++ (line C (length past + k) (after C b past) c ++ lines C (suc (length past + k)) (step C (after C b past) c) rest)
unfolding lines after
lines_split C k b [] c rest = ap (λ (j : ℕ). line C j b c ++ lines C (suc j) (step C b c) rest) (sym (zero-add k))
lines_split C k b (d ∷ past) c rest =
    let e : length past + suc k ≡ suc (length past) + k = omega arith in
    ap (λ (x : List ℕ). line C k b d ++ x)
    (lines_split C (suc k) (step C b d) past c rest
    ∙ ap (λ (j : ℕ). lines C (suc k) (step C b d) past ++ (line C j (after C (step C b d) past) c ++ lines C (suc j) (step C (after C (step C b d) past) c) rest)) e)
    ∙ sym (append_assoc (line C k b d) (lines C (suc k) (step C b d) past) _)

after_one : (C : Config) (k : Cluster) (c : Faults) → after C k (c ∷ []) ≡ step C k c
unfolding after
after_one C k c = refl

line_kept : (C : Config) (k : ℕ) (b : Cluster) (c : Faults) (g : Group) → keeps C b c ≡ true → (step C b c).reference ≡ some g
    → line C k b c ≡ fields k true (some g) (halted_in C c b.row) (entered_in C c b.row)
unfolding line
line_kept C k b c g e f = ap₂ (λ (x : Bool) (o : Option Group). fields k x o (halted_in C c b.row) (entered_in C c b.row)) e f

-- ---- the print of a table, around that line

module _ (quiet : Bool) (s : List ℕ) (past : List Faults) (c : Faults) (rest : List Faults) (whole : (table_of false 0 s).cycles.whole ≡ past ++ (c ∷ rest)) where
  abbrev C : Config
  C = table_press quiet s

  abbrev b : Cluster
  b = cluster_at quiet s past

  last : cluster_at quiet s (past ++ (c ∷ [])) ≡ step C b c
  last = after-append C _ past (c ∷ []) ∙ after_one C b c

  printed-around : printed quiet s ≡ around quiet s past c rest (line C (suc (length past)) b c)
  unfolding printed reported
  printed-around =
      let k : length past + 1 ≡ suc (length past) = omega arith in
      let first = lines C 1 (beginning C 0 (founders_of s)) past in
      let behind : lines C (suc (suc (length past))) (step C b c) rest ≡ lines C (suc (suc (length past))) (cluster_at quiet s (past ++ (c ∷ []))) rest =
      ap (λ (x : Cluster). lines C (suc (suc (length past))) x rest) (sym last) in
      ap (λ (x : List ℕ). header_line ++ (x ++ refused_line (table_of false 0 s).cycles.refusal))
      (ap (lines C 1 (beginning C 0 (founders_of s))) whole ∙ lines_split C 1 (beginning C 0 (founders_of s)) past c rest
      ∙ ap (λ (j : ℕ). first ++ (line C j b c ++ lines C (suc j) (step C b c) rest)) k
      ∙ ap (λ (x : List ℕ). first ++ (line C (suc (length past)) b c ++ x)) behind)
      ∙ ap (λ (x : List ℕ). header_line ++ x) (simp append_assoc)

  shows : keeps C b c ≡ true → (g : Group) × Kept C 0 (founders_of s) (past ++ (c ∷ [])) × Reference (cluster_at quiet s (past ++ (c ∷ []))) g
      × (printed quiet s ≡ around quiet s past c rest (fields (suc (length past)) true (some g) (halted_in C c b.row) (entered_in C c b.row)))
  shows e =
      let kept = kept_before C (beginning C 0 (founders_of s)) past c e in
      let d = defined C 0 (founders_of s) (past ++ (c ∷ [])) kept in
      let text = line_kept C (suc (length past)) b c d.0 e (sym (ap (λ (x : Cluster). x.reference) last) ∙ d.1) in
      (d.0, kept, d.1, printed-around ∙ ap (around quiet s past c rest) text)

pub over_printed : OverPrinted
over_printed quiet s past c rest whole = record { shows = shows quiet s past c rest whole; claims = demand3 (table_press quiet s) 0 (founders_of s) }
