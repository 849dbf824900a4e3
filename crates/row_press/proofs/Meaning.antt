-- What a call answers and leaves, from what its parts do. Assumes nothing.
use mathlib.Core.Logic.{◌⊎◌, inl, inr}
use mathlib.Core.Path.{◌≡◌, sym, ap, ◌∙◌}
use mathlib.Core.Bool.{true, false}
use mathlib.Core.List.{List}
use Rattle.std.specs.Prelude.{Option}
use Prim.Native.Nat.{ℕ, ◌≤◌, ◌<◌}
use native.Mathlib.Omega.{arith}
use lib.Dec.{eqb}
use lib.ListN.{length}
use borrow.Author.Tests.{eqb-true, eqb-false}
use Rattle.sets.proofs.Booleans.{bool}
use Rattle.refusal.specs.declared.Refusal.{Refusal}
use Rattle.refusal.specs.Refusal.{unless}
use Rattle.refusal.specs.Codes.{code_of}
use Rattle.refusal.proofs.Laws.{unless-done, unless-refused}
use Rattle.refusal.proofs.Codes.{numbered}
use Rattle.state.specs.declared.Node.{Node}
use Rattle.cluster_states.specs.declared.States.{States}
use Rattle.cluster_states.specs.States.{row_of}
use Rattle.row.specs.Row.{nodes_of}
use Rattle.row_calls.specs.declared.Task.{Task}
use Rattle.row_calls.specs.Calls.{call_status, call_left}
use Rattle.row_calls.proofs.Counts.{counted}
use Rattle.row_calls.proofs.OverCalls.{refused_left}
use Rattle.row.specs.Gathered.{nothing_of, gathered}
use Rattle.run_answer.specs.Answered.{count_byte, GatheredFrom, Leaves}

-- what is gathered of the nodes, at their count as a byte
pub from_row : (n m count : ℕ) (g : Option States) (nodes : List Node) → m ≡ count_byte n → count ≡ length nodes → g ≡ gathered m nothing_of 0 nodes
    → GatheredFrom n g count nodes
from_row n m count g nodes e k h = (sym k, h ∙ ap (λ (b : ℕ). gathered b nothing_of 0 nodes) e)

module _ (t : Task) (n mode : ℕ) (nodes : List Node) (room : ℕ) (s : List ℕ) where
  abbrev status : ℕ
  status = call_status t n mode nodes room s

  abbrev left : List Node
  left = call_left t n mode nodes room s

  -- the states k of a call that is not refused fill the row
  pub fills : (k count : ℕ) (states : States) → 0 ≡ status → count ≡ length nodes → Leaves k states count left → (0 < k) × (k ≤ 64) × (length nodes ≡ k)
  fills k count states e all l =
      let some : 2 ≤ length nodes = (counted t n mode nodes room s (sym e)).0 in
      let same = l.0 in
      (omega arith, l.1, omega arith)

  -- such a call sets the row, of any form
  pub row_set : {A : Type 0} (lent : List Node → A) (before after : A) (k count : ℕ) (states : States) → 0 ≡ status → Leaves k states count left
      → after ≡ lent (nodes_of k (row_of k states)) → after ≡ unless status (lent left) before
  row_set lent before after k count states e l w = w ∙ ap lent l.2 ∙ sym (unless-done status (lent left) before (sym e))

  -- one that is refused leaves it as it was
  pub row_kept : {A : Type 0} (r : Refusal) (set before : A) → code_of r ≡ status → before ≡ unless status set before
  row_kept r set before e = sym (unless-refused status set before (λ z. numbered r (e ∙ z)))

  -- of nodes, that is what a call leaves
  pub left_is : unless status left nodes ≡ left
  left_is = go (bool (eqb status 0))
    where
      go : (eqb status 0 ≡ true) ⊎ (eqb status 0 ≡ false) → unless status left nodes ≡ left
      go (inl e) = unless-done status left nodes (eqb-true status 0 e)
      go (inr e) =
          let refused = eqb-false status 0 e in
          unless-refused status left nodes refused ∙ sym (refused_left t n mode nodes room s refused)
