-- What the absence of refusals 1 to 3 says of the caller's numbers. Assumes nothing.
use mathlib.Core.Path.{◌≡◌, refl}
use mathlib.Core.Bool.{not, ◌||◌}
use mathlib.Core.List.{List, [], ◌∷◌}
use Prim.Native.Nat.{ℕ, ◌≤◌, ◌<◌}
use native.Mathlib.Omega.{arith}
use lib.Dec.{eqb}
use borrow.Author.Tests.{eqb-true, not-false}
use Rattle.refusal.specs.Refusal.{Condition, when, first}
use Rattle.entry_lent.specs.Refusals.{wrong_count, wrong_node, wrong_cycle, wrong_channel}
use Rattle.refusal.proofs.Laws.{none}
use Rattle.entry_lent.proofs.Bounds.{count_bounds, slot_bounds}

-- refusals 1 to 3 of a call with a buffer of `len` bytes where `due` are, before others
abbrev pub slot_conditions : ℕ → ℕ → ℕ → ℕ → ℕ → ℕ → List Condition → List Condition
slot_conditions n q cycle channel len due cs =
    when (wrong_count n) 1 ∷ when (wrong_node n q || wrong_cycle cycle || wrong_channel channel) 2 ∷ when (not (eqb len due)) 3 ∷ cs

abbrev pub slot_status : ℕ → ℕ → ℕ → ℕ → ℕ → ℕ → ℕ
slot_status n q cycle channel len due = first (slot_conditions n q cycle channel len due [])

pub record Accepted (n q cycle len due : ℕ) : Type 0 where
  pub count : n ≤ 64
  pub node : q < n
  pub timed : cycle < 64
  pub sized : len ≡ due

pub accepted : (n q cycle channel len due : ℕ) (cs : List Condition) → first (slot_conditions n q cycle channel len due cs) ≡ 0 → Accepted n q cycle len due
accepted n q cycle channel len due cs e =
    let a = none (wrong_count n) 1 (when (wrong_node n q || wrong_cycle cycle || wrong_channel channel) 2 ∷ when (not (eqb len due)) 3 ∷ cs) refl e in
    let b = none (wrong_node n q || wrong_cycle cycle || wrong_channel channel) 2 (when (not (eqb len due)) 3 ∷ cs) refl a.1 in
    let d = none (not (eqb len due)) 3 cs refl b.1 in
    let slot = slot_bounds n q cycle channel b.0 in
    record {
      count = (count_bounds n a.0).1;
      node = slot.0;
      timed = omega arith;
      sized = eqb-true len due (not-false _ d.0);
    }

pub small : {n q cycle len due : ℕ} → Accepted n q cycle len due → q < 64
small a = omega arith
