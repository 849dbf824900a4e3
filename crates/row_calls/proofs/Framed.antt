-- A run through frames answers what the plain run answers, and its states after every cycle are the plain run's. Assumes nothing.
use mathlib.Core.Path.{◌≡◌, refl, sym, ap, ap₂, ◌∙◌}
use mathlib.Core.Bool.{Bool, true, false, not, ◌||◌, cond}
use mathlib.Core.List.{List, []}
use Prim.Native.Nat.{ℕ}
use native.Mathlib.Omega.{arith}
use lib.Dec.{eqb, ltb}
use lib.ListN.{length}
use lib.Pow.{pow_pos}
use borrow.Author.Tests.{eqb-true, eqb-false, ne_eqb}
use Rattle.refusal.specs.Refusal.{first, unless}
use Rattle.state.specs.declared.Node.{Node}
use Rattle.rules.specs.declared.Faults.{Faults}
use Rattle.rules.specs.declared.Config.{Config}
use Rattle.rules.specs.OneCycle.{wrong_mode, in_mode}
use Rattle.rules.specs.Faults.{Row}
use Rattle.rules.specs.Reference.{beginning}
use Rattle.theorem_formed.proofs.Formed.{FormedRow, founding-formed}
use Rattle.bus_units.specs.Run.{framed_rows, plain_rows, last_row, frames_length}
use Rattle.bus_units.proofs.Run.{framed_run_is_plain, last_plain}
use Rattle.table.specs.Records.{is_kind, beyond, wrong_row, count_at, founding_at, start_refusal}
use Rattle.table.specs.Table.{Cycles, Table, table_of}
use Rattle.table.proofs.Laws.{begins, table_refused}
use Rattle.row.specs.Row.{nodes_of}
use Rattle.row_calls.specs.Calls.{run_status, ran_to, run_left, framed_status, row_begun, framed_through, plain_through, framed_to, framed_left, FramedAsPlain}
use Rattle.row_calls.proofs.Counts.{framed_fits}

pub begun_table : (lent : Bool) (entries : ℕ) (s : List ℕ) → (table_of lent entries s).cycles.refusal ≡ 0 → start_refusal lent entries s ≡ 0
begun_table lent entries s e = go (eqb (start_refusal lent entries s) 0) refl
  where
    go : (b : Bool) → eqb (start_refusal lent entries s) 0 ≡ b → start_refusal lent entries s ≡ 0
    go true f = eqb-true (start_refusal lent entries s) 0 f
    go false f =
        sym (ap (λ (r : Cycles). r.refusal) (table_refused lent entries s (eqb-false (start_refusal lent entries s) 0 f))) ∙ e

-- the cycles of a table whose first record is refused are none; of any other it begins well formed
through_plain : (mode entries : ℕ) (s : List ℕ) → framed_through mode (table_of true entries s) ≡ plain_through mode (table_of true entries s)
unfolding table_of beginning framed_rows plain_rows
through_plain mode entries s = go (eqb (start_refusal true entries s) 0) refl
  where
    t : Table
    t = table_of true entries s

    C : Config
    C = in_mode mode t.nodes

    none : (row : Row) (cs : List Faults) → cs ≡ [] → framed_rows C 1 row cs ≡ plain_rows C row cs
    none row cs e = ap (framed_rows C 1 row) e ∙ sym (ap (plain_rows C row) e)

    begun : start_refusal true entries s ≡ 0 → FormedRow C (row_begun mode t)
    begun e = founding-formed C 0 (founding_at s) (pow_pos 32) (begins true entries s e).founding

    few : start_refusal true entries s ≡ 0 → framed_through mode t ≡ plain_through mode t
    few e = framed_run_is_plain C 1 (row_begun mode t) t.cycles.whole (begins true entries s e).most (begun e)

    go : (b : Bool) → eqb (start_refusal true entries s) 0 ≡ b → framed_through mode t ≡ plain_through mode t
    go true e = few (eqb-true (start_refusal true entries s) 0 e)
    go false e = none (row_begun mode t) t.cycles.whole (ap (λ (c : Cycles). c.whole) (table_refused true entries s (eqb-false (start_refusal true entries s) 0 e)))

framed_status_lem : (mode : ℕ) (nodes : List Node) (s : List ℕ) → framed_status mode (length nodes) frames_length s ≡ run_status mode nodes s
unfolding framed_status run_status
framed_status_lem mode nodes s = refl

framed_to_lem : (mode entries : ℕ) (s : List ℕ) → framed_to mode (table_of true entries s) ≡ ran_to mode (table_of true entries s)
framed_to_lem mode entries s =
    let t = table_of true entries s in
    let C = in_mode mode t.nodes in
    ap (nodes_of t.nodes) (ap (last_row (row_begun mode t)) (through_plain mode entries s) ∙ last_plain C (beginning C 0 t.founding) t.cycles.whole)

pub framed_as_plain : (mode : ℕ) (nodes : List Node) (s : List ℕ) → FramedAsPlain mode nodes s
unfolding framed_left run_left
framed_as_plain mode nodes s =
    record {
      status = framed_status_lem mode nodes s;
      states = through_plain mode (length nodes) s;
      left = ap₂ (λ (k : ℕ) (x : List Node). unless k x nodes) (framed_status_lem mode nodes s) (framed_to_lem mode (length nodes) s);
    }

-- so that one that is not refused is a plain run that is not, and leaves what that leaves
pub framed_plain : (mode : ℕ) (nodes : List Node) (room : ℕ) (s : List ℕ) → framed_status mode (length nodes) room s ≡ 0 → run_status mode nodes s ≡ 0
framed_plain mode nodes room s e =
    sym (framed_status_lem mode nodes s) ∙ ap (λ (k : ℕ). framed_status mode (length nodes) k s) (sym (framed_fits mode (length nodes) room s e).0) ∙ e

pub framed_left_lem : (mode : ℕ) (nodes : List Node) (room : ℕ) (s : List ℕ) → framed_status mode (length nodes) room s ≡ 0 → framed_left mode nodes room s ≡ run_left mode nodes s
framed_left_lem mode nodes room s e = ap (λ (k : ℕ). framed_left mode nodes k s) (framed_fits mode (length nodes) room s e).0 ∙ (framed_as_plain mode nodes s).left

-- ---- frames of another length: 3, in the place of the row's

start_3 : (entries : ℕ) (s : List ℕ) → start_refusal true entries s ≡ 0 → start_refusal true 0 s ≡ 3
unfolding start_refusal first
start_3 entries s e =
    go (ltb (length s) 3) (not (is_kind 1 s)) (ltb (length s) 12) (ltb (count_at s) 2 || ltb 64 (count_at s)) (wrong_row true entries (count_at s)) (wrong_row true 0 (count_at s))
    (eqb (founding_at s) 0 || beyond (count_at s) (founding_at s)) (ap not (ne_eqb 0 (count_at s) (λ z. let two = (begins true entries s e).least in omega arith))) e
  where
    go : (a b c d r z f : Bool) → z ≡ true → ◌≡◌ {A = ℕ} (cond a 11 (cond b 12 (cond c 11 (cond d 1 (cond r 3 (cond f 13 0)))))) 0
        → ◌≡◌ {A = ℕ} (cond a 11 (cond b 12 (cond c 11 (cond d 1 (cond z 3 (cond f 13 0)))))) 3
    go true b c d r z f w e = absurd (eqb-false 11 0 refl e)
    go false true c d r z f w e = absurd (eqb-false 12 0 refl e)
    go false false true d r z f w e = absurd (eqb-false 11 0 refl e)
    go false false false true r z f w e = absurd (eqb-false 1 0 refl e)
    go false false false false r z f w e = ap (λ (t : Bool). cond t 3 (cond f 13 0)) w

pub wrong_frames : (mode entries room : ℕ) (s : List ℕ) → wrong_mode mode ≡ false → eqb room frames_length ≡ false → start_refusal true entries s ≡ 0 → framed_status mode entries room s ≡ 3
unfolding framed_status
wrong_frames mode entries room s w o e =
    let three = start_3 entries s e in
    ap₂ (λ (a b : Bool). cond a 2 (table_of true (cond b entries 0) s).cycles.refusal) w o
    ∙ ap (λ (c : Cycles). c.refusal) (table_refused true 0 s (λ z. eqb-false 3 0 refl (sym three ∙ z))) ∙ three
