-- The lent frames in a run's loop: what the cycles that are left make of them is what all make of those at the beginning. Assumes nothing.
use mathlib.Core.Path.{◌≡◌, refl, sym, ap, ap₂, ◌∙◌}
use mathlib.Core.Bool.{true}
use mathlib.Core.List.{List, [], ◌∷◌}
use native.Mathlib.Omega.{arith}
use Prim.Native.Nat.{ℕ, suc, ◌+◌, ◌-◌, ◌%◌, ◌≤◌, ◌<◌}
use native.Mathlib.Nat.{mod-lt}
use native.Mathlib.Numerals.{add-one}
use lib.Dec.{lit<}
use lib.ListN.{length, drop}
use Rattle.state.specs.State.{formed_state}
use Rattle.rules.specs.declared.Faults.{Faults}
use Rattle.rules.specs.declared.Config.{Config}
use Rattle.rules.specs.Faults.{Row, cycle}
use Rattle.table.specs.Records.{cycle_length, faults_at}
use Rattle.table.specs.Table.{Cycles}
use Rattle.table.proofs.Laws.{cycles_end}
use Rattle.cluster_states.specs.declared.States.{States}
use Rattle.cluster_states.specs.States.{state_at, row_of}
use Rattle.bus_units.specs.Faulty.{framed_cycle}
use Rattle.bus_units.specs.Run.{cycle_count, frames_shown, frames_length, frames_after}
use Rattle.bus_units.proofs.Delivered.{framed_is_plain}
use Rattle.run_turns.specs.Turns.{IsWhole}
use Rattle.run_turns.proofs.Ran.{cycles_left, Going, going_begun, going_stopped, going_first, going_next}

-- where cycle k begins, with its cycle count
pub record Showing (C : Config) (start : Row) (s before : List ℕ) (states : States) (rest : List ℕ) (count : ℕ) (frames : List ℕ) : Type 0 where
  pub number : ℕ
  pub going : Going C start s states rest number
  pub counts : count ≡ cycle_count number
  pub long : length frames ≡ frames_length
  pub shown : frames_after C number (row_of C.nodes states) (cycles_left C s number rest).whole frames ≡ frames_after C 1 start (cycles_left C s 1 s).whole before

after_none : (C : Config) (k : ℕ) (row : Row) (frames : List ℕ) → frames_after C k row [] frames ≡ frames
unfolding frames_after
after_none C k row frames = refl

after_next : (C : Config) (k : ℕ) (row : Row) (c : Faults) (cs : List Faults) (frames : List ℕ)
    → frames_after C k row (c ∷ cs) frames ≡ frames_after C (suc k) (framed_cycle C (cycle_count k) c row) cs (frames_shown C (cycle_count k) c row)
unfolding frames_after
after_next C k row c cs frames = refl

pub showing_begun : (C : Config) (s before : List ℕ) (states : States) → ((q : ℕ) → q < C.nodes → formed_state C.quiet q C.nodes (state_at states q) ≡ true) → (cycles_left C s 1 s).refusal ≡ 0
    → length before ≡ frames_length → Showing C (row_of C.nodes states) s before states s 0 before
showing_begun C s before states w z l = record { number = 1; going = going_begun C s states w z; counts = refl; long = l; shown = refl }

module _ (C : Config) (start : Row) (s before : List ℕ) (states : States) (rest : List ℕ) (count : ℕ) (frames : List ℕ) (w : Showing C start s before states rest count frames) where
  abbrev n : ℕ
  n = C.nodes

  abbrev k : ℕ
  k = w.number

  pub showing-done : (IsWhole rest → ⊥) → frames ≡ frames_after C 1 start (cycles_left C s 1 s).whole before
  showing-done cut =
      sym (after_none C k (row_of n states) frames)
      ∙ ap (λ (c : Cycles). frames_after C k (row_of n states) c.whole frames) (sym (cycles_end (length s) n k rest (going_stopped C start s states rest k w.going cut))) ∙ w.shown

  next_count : (count + 1) % 64 ≡ cycle_count (k + 1)
  next_count = let c = w.counts in let p = w.going.counted in omega arith

  pub showing-next : n ≤ 64 → IsWhole rest → (next : States) (f : Faults) (later filled : List ℕ) → f ≡ faults_at rest
      → row_of n next ≡ cycle C f (row_of n states) → filled ≡ frames_shown C count f (row_of n states) → later ≡ drop (cycle_length rest) rest → length filled ≡ frames_length
      → Showing C start s before next later ((count + 1) % 64) filled
  showing-next few there next f later filled ef en efr el long =
      let row = row_of n states in
      let c = faults_at rest in
      let left = (cycles_left C s (k + 1) (drop (cycle_length rest) rest)).whole in
      let plain = framed_is_plain C (cycle_count k) c row few (mod-lt (k - 1) (lit< tt)) w.going.formed in
      let turn : row_of n next ≡ framed_cycle C (cycle_count k) c row = en ∙ ap (λ (x : Faults). cycle C x row) ef ∙ sym plain in
      let fill : filled ≡ frames_shown C (cycle_count k) c row = efr ∙ ap₂ (λ (x : ℕ) (y : Faults). frames_shown C x y row) w.counts ef in
      record {
        number = k + 1;
        going = going_next C start s states rest k w.going there next f later ef en el;
        counts = next_count;
        long = long;
        shown =
            ap (λ (x : List ℕ). frames_after C (k + 1) (row_of n next) (cycles_left C s (k + 1) x).whole filled) el
            ∙ ap₂ (λ (x : Row) (y : List ℕ). frames_after C (k + 1) x left y) turn fill
            ∙ ap (λ (j : ℕ). frames_after C j (framed_cycle C (cycle_count k) c row) left (frames_shown C (cycle_count k) c row)) (add-one k)
            ∙ sym (after_next C k row c left frames)
            ∙ ap (λ (cs : Cycles). frames_after C k row cs.whole frames) (sym (going_first C start s states rest k w.going there)) ∙ w.shown;
      }
