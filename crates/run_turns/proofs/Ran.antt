-- A table's run, record by record: what is kept from turn to turn, and what it comes to. Assumes nothing.
use mathlib.Core.Path.{◌≡◌, refl, sym, ap, ◌∙◌, subst}
use mathlib.Core.Bool.{Bool, true, false}
use mathlib.Core.List.{List, [], ◌∷◌}
use Prim.Native.Nat.{ℕ, ◌+◌, ◌≤◌, ◌<◌}
use native.Mathlib.Omega.{arith}
use native.Mathlib.Numerals.{add-one}
use lib.Dec.{eqb}
use lib.ListN.{length, drop, length-drop}
use borrow.Author.Tests.{eqb-true, eqb-false}
use Rattle.state.specs.State.{formed_state}
use Rattle.rules.specs.declared.Faults.{Faults}
use Rattle.rules.specs.declared.Config.{Config}
use Rattle.rules.specs.OneCycle.{stopped}
use Rattle.rules.specs.Faults.{Row, at, cycle}
use Rattle.rules.specs.Reference.{Cluster, step, after}
use Rattle.rules.proofs.Rows.{get-tabulate}
use Rattle.table.specs.Records.{cycle_length, cycle_refusal, faults_at}
use Rattle.table.specs.Table.{Cycles, with_cycle, cycles_in}
use Rattle.table.proofs.Laws.{accepted, cycles_end, cycles_refused, cycles_next}
use Rattle.cluster_states.specs.declared.States.{States}
use Rattle.cluster_states.specs.States.{state_at, row_of}
use Rattle.theorem_formed.proofs.Formed.{FormedRow, cycle-formed}
use Rattle.run_turns.specs.After.{row_after}
use Rattle.run_turns.specs.Turns.{IsWhole}

-- the row of the rules' own list of cycles
pub after_row : (C : Config) (k : Cluster) (cs : List Faults) → (after C k cs).row ≡ row_after C k.row cs
unfolding after step row_after
after_row C k [] = refl
after_row C k (c ∷ cs) = after_row C (step C k c) cs

after_next : (C : Config) (row : Row) (c : Faults) (cs : List Faults) → row_after C row (c ∷ cs) ≡ row_after C (cycle C c row) cs
unfolding row_after
after_next C row c cs = refl

after_none : (C : Config) (row : Row) → row_after C row [] ≡ row
unfolding row_after
after_none C row = refl

-- a row is well formed by the states that it stands for, and they by it
at_row : (n : ℕ) (s : States) (q : ℕ) → q < n → at (row_of n s) q ≡ state_at s q
unfolding row_of
at_row n s q l = get-tabulate n q (state_at s) stopped l

row_formed : (C : Config) (s : States) → ((q : ℕ) → q < C.nodes → formed_state C.quiet q C.nodes (state_at s q) ≡ true) → FormedRow C (row_of C.nodes s)
row_formed C s w q l = ap (formed_state C.quiet q C.nodes) (at_row C.nodes s q l) ∙ w q l

pub states_formed : (C : Config) (s : States) → FormedRow C (row_of C.nodes s) → (q : ℕ) → q < C.nodes → formed_state C.quiet q C.nodes (state_at s q) ≡ true
states_formed C s w q l = ap (formed_state C.quiet q C.nodes) (sym (at_row C.nodes s q l)) ∙ w q l

-- ---- the loop

-- the cycles of the records `rest`, of those of s, the first of which is cycle k
abbrev pub cycles_left : Config → List ℕ → ℕ → List ℕ → Cycles
cycles_left C s k rest = cycles_in (length s) C.nodes k rest

-- where cycle k begins: `rest` are the records of s that are left, and `states` those after the cycles passed, from the row at the start
pub record Going (C : Config) (start : Row) (s : List ℕ) (states : States) (rest : List ℕ) (k : ℕ) : Type 0 where
  pub inside : length rest ≤ length s
  pub counted : 0 < k
  pub formed : FormedRow C (row_of C.nodes states)
  pub good : (cycles_left C s k rest).refusal ≡ 0
  pub same : row_after C (row_of C.nodes states) (cycles_left C s k rest).whole ≡ row_after C start (cycles_left C s 1 s).whole

pub going_begun : (C : Config) (s : List ℕ) (states : States) → ((q : ℕ) → q < C.nodes → formed_state C.quiet q C.nodes (state_at states q) ≡ true) → (cycles_left C s 1 s).refusal ≡ 0
    → Going C (row_of C.nodes states) s states s 1
going_begun C s states w z = record { inside = omega arith; counted = omega arith; formed = row_formed C states w; good = z; same = refl }

module _ (C : Config) (start : Row) (s : List ℕ) (states : States) (rest : List ℕ) (k : ℕ) (w : Going C start s states rest k) where
  abbrev n : ℕ
  n = C.nodes

  -- a record that is left is an accepted one
  going_on : (length rest ≡ 0 → ⊥) → cycle_refusal n k rest ≡ 0
  going_on some = go (eqb (cycle_refusal n k rest) 0) refl
    where
      go : (b : Bool) → eqb (cycle_refusal n k rest) 0 ≡ b → cycle_refusal n k rest ≡ 0
      go true e = eqb-true (cycle_refusal n k rest) 0 e
      go false e =
          sym (ap (λ (c : Cycles). c.refusal) (cycles_refused (length s) n k rest w.inside some (eqb-false (cycle_refusal n k rest) 0 e)))
          ∙ w.good

  -- so where the next record is not whole, none is left
  pub going_stopped : (IsWhole rest → ⊥) → length rest ≡ 0
  going_stopped cut = go (eqb (length rest) 0) refl
    where
      go : (b : Bool) → eqb (length rest) 0 ≡ b → length rest ≡ 0
      go true e = eqb-true (length rest) 0 e
      go false e = absurd (cut (accepted n k rest (going_on (eqb-false (length rest) 0 e))).there)

  pub going_done : (IsWhole rest → ⊥) → row_of n states ≡ row_after C start (cycles_left C s 1 s).whole
  going_done cut =
      sym (after_none C (row_of n states))
      ∙ ap (λ (c : Cycles). row_after C (row_of n states) c.whole) (sym (cycles_end (length s) n k rest (going_stopped cut))) ∙ w.same

  -- the cycle of the next record is the first of those that are left
  pub going_first : IsWhole rest → cycles_left C s k rest ≡ with_cycle (faults_at rest) (cycles_left C s (k + 1) (drop (cycle_length rest) rest))
  going_first there =
      let some : length rest ≡ 0 → ⊥ = λ e. omega arith in
      cycles_next (length s) n k rest w.inside (going_on some)
      ∙ ap (λ (j : ℕ). with_cycle (faults_at rest) (cycles_left C s j (drop (cycle_length rest) rest))) (sym (add-one k))

  pub going_next : IsWhole rest → (next : States) (f : Faults) (later : List ℕ) → f ≡ faults_at rest
      → row_of n next ≡ cycle C f (row_of n states) → later ≡ drop (cycle_length rest) rest → Going C start s next later (k + 1)
  going_next there next f later kf kn kl =
      let all = going_first there in
      let turn : row_of n next ≡ cycle C (faults_at rest) (row_of n states) = kn ∙ ap (λ (c : Faults). cycle C c (row_of n states)) kf in
      subst (λ (x : List ℕ). Going C start s next x (k + 1)) (sym kl)
      record {
        inside = let i = w.inside in omega (arith, length-drop (cycle_length rest) rest);
        counted = omega arith;
        formed = subst (FormedRow C) (sym turn) (cycle-formed C (faults_at rest) (row_of n states) w.formed);
        good = sym (ap (λ (c : Cycles). c.refusal) all) ∙ w.good;
        same =
            ap (λ (row : Row). row_after C row (cycles_left C s (k + 1) (drop (cycle_length rest) rest)).whole) turn
            ∙ sym (after_next C (row_of n states) (faults_at rest) (cycles_left C s (k + 1) (drop (cycle_length rest) rest)).whole)
            ∙ ap (λ (c : Cycles). row_after C (row_of n states) c.whole) (sym all) ∙ w.same;
      }

-- the same where cycles are not counted
pub record Passing (C : Config) (start : Row) (s : List ℕ) (states : States) (rest : List ℕ) : Type 0 where
  pub number : ℕ
  pub going : Going C start s states rest number
