-- A wrong mode is refused in its place, and a call that is not refused has a row of 2 to 64 entries. Assumes nothing.
use mathlib.Core.Path.{◌≡◌, refl, sym, subst}
use mathlib.Core.Bool.{Bool, true, false, not, ◌||◌, cond}
use mathlib.Core.List.{List, [], ◌∷◌}
use Prim.Native.Nat.{ℕ, ◌≤◌}
use native.Mathlib.Omega.{arith}
use lib.Dec.{eqb, ltb}
use lib.ListN.{length, drop}
use borrow.Author.Tests.{eqb-true, ltb-false}
use Rattle.refusal.specs.Refusal.{when, first}
use Rattle.refusal.proofs.Laws.{none}
use Rattle.sets.proofs.Booleans.{or_f_l, or_f_r, not_f}
use Rattle.state.specs.declared.Node.{Node}
use Rattle.rules.specs.OneCycle.{wrong_mode, quiet_in}
use Rattle.bus_units.specs.Run.{frames_length}
use Rattle.table.specs.Records.{count_at, start_refusal, cycle_length, cycle_refusal}
use Rattle.table.specs.Table.{cycles_in, table_of}
use Rattle.table.proofs.Laws.{begins}
use Rattle.row.specs.Row.{in_order}
use Rattle.row_calls.specs.declared.Task.{Task}
use Rattle.row_calls.specs.declared.Task.TheVariants.{Cycle, Run, FramedRun}
use Rattle.row_calls.specs.Calls.{row_status, cycle_status, run_status, framed_status, call_status}

-- "any other number is refused with 2": of a run before a byte of its table is looked at
pub run_mode_refused : (mode : ℕ) (nodes : List Node) (room : ℕ) (s : List ℕ) → wrong_mode mode ≡ true → (run_status mode nodes s ≡ 2) × (framed_status mode (length nodes) room s ≡ 2)
unfolding run_status framed_status
run_mode_refused mode nodes room s e = (rw e, rw e)

-- of a single cycle after 1, and before 3, 4 and the record
pub cycle_mode_refused : (n mode : ℕ) (nodes : List Node) (s : List ℕ) → (ltb n 2 || ltb 64 n) ≡ false → wrong_mode mode ≡ true → cycle_status n mode nodes s ≡ 2
unfolding cycle_status row_status first
cycle_mode_refused n mode nodes s c e = rw (c, e)

abbrev pub Counted : ℕ → Type 0
Counted k = (2 ≤ k) × (k ≤ 64)

-- a row of so many entries is one of n nodes, and the mode is one that there is
pub record Fits (n mode len : ℕ) : Type 0 where
  pub count : Counted n
  pub mode_known : wrong_mode mode ≡ false
  pub entries : len ≡ n

pub row_fits : (n mode len : ℕ) (ordered : Bool) (s : List ℕ) → row_status n mode len ordered s ≡ 0 → Fits n mode len
unfolding row_status
row_fits n mode len ordered s e =
    let other = not (eqb len n) in
    let long = ltb (cycle_length s) (length s) in
    let last = when (not ordered) 4 ∷ [] in
    let a = none (ltb n 2 || ltb 64 n) 1 (when (wrong_mode mode) 2 ∷ when (other || long) 3 ∷ last) refl e in
    let m = none (wrong_mode mode) 2 (when (other || long) 3 ∷ last) refl a.1 in
    let b = none (other || long) 3 last refl m.1 in
    record {
      count = (ltb-false n 2 (or_f_l (ltb n 2) (ltb 64 n) a.0), ltb-false 64 n (or_f_r (ltb n 2) (ltb 64 n) a.0));
      mode_known = m.0;
      entries = eqb-true len n (not_f (eqb len n) (or_f_l other long b.0));
    }

-- a cycle is accepted only on a row that is
pub cycle-fits : (n mode : ℕ) (nodes : List Node) (s : List ℕ) → cycle_status n mode nodes s ≡ 0 → Fits n mode (length nodes)
unfolding cycle_status
cycle-fits n mode nodes s e = row_fits n mode (length nodes) (in_order (quiet_in mode) n 0 nodes) s (go (row_status n mode (length nodes) (in_order (quiet_in mode) n 0 nodes) s) e)
  where
    go : (row : ℕ) → cond (eqb row 0) (cycle_refusal n 1 s) row ≡ 0 → row ≡ 0
    go row e = by (eqb row 0) refl e
      where
        by : (b : Bool) → eqb row 0 ≡ b → cond b (cycle_refusal n 1 s) row ≡ 0 → row ≡ 0
        by true f e = eqb-true row 0 f
        by false f e = e

fitting : (n mode len : ℕ) → Fits n mode len → Counted len
fitting n mode len f = subst Counted (sym f.entries) f.count

table_counted : (entries : ℕ) (s : List ℕ) → (table_of true entries s).cycles.refusal ≡ 0 → Counted entries
unfolding table_of
table_counted entries s = go (eqb r 0) refl
  where
    r : ℕ
    r = start_refusal true entries s

    begun : r ≡ 0 → Counted entries
    begun e =
        let b = begins true entries s e in
        subst Counted (sym (eqb-true entries (count_at s) (not_f (eqb entries (count_at s)) b.row))) (b.least, b.most)

    go : (b : Bool) → eqb r 0 ≡ b → (cond b (cycles_in (length s) (count_at s) 1 (drop 12 s)) (record { whole = []; refusal = r })).refusal ≡ 0
        → Counted entries
    go true f e = begun (eqb-true r 0 f)
    go false f e = begun e

-- a run is accepted in a mode that there is
pub in_mode_lem : (mode k : ℕ) → cond (wrong_mode mode) 2 k ≡ 0 → (wrong_mode mode ≡ false) × (k ≡ 0)
in_mode_lem mode k = go (wrong_mode mode)
  where
    go : (b : Bool) → cond b 2 k ≡ 0 → (b ≡ false) × (k ≡ 0)
    go true e = absurd (omega arith)
    go false e = (refl, e)

pub run_fits : (mode : ℕ) (nodes : List Node) (s : List ℕ) → run_status mode nodes s ≡ 0 → (table_of true (length nodes) s).cycles.refusal ≡ 0
unfolding run_status
run_fits mode nodes s e = (in_mode_lem mode _ e).1

-- a run through frames that is not refused was lent room for them, and so is the plain run on its row
pub framed_fits : (mode entries room : ℕ) (s : List ℕ) → framed_status mode entries room s ≡ 0 → (room ≡ frames_length) × ((table_of true entries s).cycles.refusal ≡ 0)
unfolding framed_status
framed_fits mode entries room s e = go (eqb room frames_length) refl (in_mode_lem mode _ e).1
  where
    go : (b : Bool) → eqb room frames_length ≡ b → (table_of true (cond b entries 0) s).cycles.refusal ≡ 0
        → (room ≡ frames_length) × ((table_of true entries s).cycles.refusal ≡ 0)
    go true f e = (eqb-true room frames_length f, e)
    go false f e = absurd (let few : 2 ≤ 0 = (table_counted 0 s e).0 in omega arith)

pub counted : (t : Task) (n mode : ℕ) (nodes : List Node) (room : ℕ) (s : List ℕ) → call_status t n mode nodes room s ≡ 0 → Counted (length nodes)
counted Cycle n mode nodes room s e = fitting n mode (length nodes) (cycle-fits n mode nodes s e)
counted Run n mode nodes room s e = table_counted (length nodes) s (run_fits mode nodes s e)
counted FramedRun n mode nodes room s e = table_counted (length nodes) s (framed_fits mode (length nodes) room s e).1

-- a call is accepted only in a mode that there is
pub mode_known : (t : Task) (n mode : ℕ) (nodes : List Node) (room : ℕ) (s : List ℕ) → call_status t n mode nodes room s ≡ 0 → wrong_mode mode ≡ false
unfolding run_status framed_status
mode_known Cycle n mode nodes room s e = (cycle-fits n mode nodes s e).mode_known
mode_known Run n mode nodes room s e = (in_mode_lem mode _ e).0
mode_known FramedRun n mode nodes room s e = (in_mode_lem mode _ e).0
