-- What follows of a table's print: nothing at its end, the line of a refusal, or the line of a cycle and what follows that. Assumes nothing.
use mathlib.Core.Path.{◌≡◌, refl, sym, ap, ◌∙◌}
use mathlib.Core.Bool.{Bool, false}
use mathlib.Core.List.{List, ◌++◌}
use Prim.Native.Nat.{ℕ, suc, ◌≤◌}
use native.Mathlib.Omega.{arith}
use lib.ListN.{length, drop, length-drop}
use Rattle.rules.specs.declared.Config.{Config}
use Rattle.rules.specs.OneCycle.{config_of}
use Rattle.rules.specs.Reference.{Cluster, beginning, step}
use Rattle.table.specs.Records.{count_at, founding_at, start_refusal, cycle_length, cycle_refusal, faults_at}
use Rattle.table.specs.Table.{Cycles, with_cycle, table_of}
use Rattle.table.proofs.Laws.{cycles_end, cycles_refused, cycles_next, enough, table_refused, table_cycles}
use Rattle.print_run.specs.Printed.{header_line, line, lines, reported, printed}
use Rattle.print_window.specs.Window.{Report, text_of, preceded, lastly}
use Rattle.print_pieces.specs.Pieces.{following, opening}

module _ (C : Config) (k : ℕ) (b : Cluster) where
  -- what is printed of cycles
  of : Cycles → Report
  of t = record { lines = lines C k b t.whole; refusal = t.refusal }

  pub following-end : (rest : List ℕ) → length rest ≡ 0 → following C k b rest ≡ lastly 0
  unfolding following lines of
  following-end rest e = ap of (cycles_end (length rest) C.nodes k rest e)

  pub following-refused : (rest : List ℕ) (r : ℕ) → r ≡ cycle_refusal C.nodes k rest → (length rest ≡ 0 → ⊥) → (r ≡ 0 → ⊥) → following C k b rest ≡ lastly r
  unfolding following lines of
  following-refused rest r e some z =
      ap of (cycles_refused (length rest) C.nodes k rest (omega arith) some (λ h. z (e ∙ h))) ∙ ap lastly (sym e)

  pub following-next : (rest : List ℕ) → cycle_refusal C.nodes k rest ≡ 0
      → following C k b rest ≡ preceded (line C k b (faults_at rest)) (following C (suc k) (step C b (faults_at rest)) (drop (cycle_length rest) rest))
  unfolding following lines of
  following-next rest z =
      let l : length (drop (cycle_length rest) rest) ≤ length rest = omega (arith, length-drop (cycle_length rest) rest) in
      let m : length (drop (cycle_length rest) rest) ≤ length (drop (cycle_length rest) rest) = omega arith in
      ap of (cycles_next (length rest) C.nodes k rest (omega arith) z)
      ∙ ap (λ (t : Cycles). of (with_cycle (faults_at rest) t))
      (enough (length rest) (length (drop (cycle_length rest) rest)) C.nodes (suc k) (drop (cycle_length rest) rest) l m)

-- a whole table: a refusal of the first record, or what follows it
module _ (quiet : Bool) (s : List ℕ) where
  -- its press, and the press before cycle 1
  abbrev C : Config
  C = config_of quiet (count_at s)

  abbrev first : Cluster
  first = beginning C 0 (founding_at s)

  pub opening-refused : (r : ℕ) → r ≡ start_refusal false 0 s → (r ≡ 0 → ⊥) → opening quiet s ≡ lastly r
  unfolding opening table_of lines of
  opening-refused r e z = ap (of C 1 first) (table_refused false 0 s (λ h. z (e ∙ h))) ∙ ap lastly (sym e)

  pub opening-goes : start_refusal false 0 s ≡ 0 → opening quiet s ≡ following C 1 first (drop 12 s)
  unfolding opening table_of following of
  opening-goes z = ap (of C 1 first) (table_cycles false 0 s z)

  -- all that is printed
  pub printed-is : printed quiet s ≡ header_line ++ text_of (opening quiet s)
  unfolding printed reported opening
  printed-is = refl
