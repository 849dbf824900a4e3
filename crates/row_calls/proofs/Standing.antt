-- A row that stands is in order, and so no call on it is refused with 4. Assumes nothing.
use mathlib.Core.Path.{◌≡◌, refl, sym, ap, ◌∙◌, subst}
use mathlib.Core.Bool.{Bool, true, false, not, ◌&&◌, ◌||◌, cond, true≢false}
use mathlib.Core.List.{List, [], ◌∷◌}
use Prim.Native.Nat.{ℕ, zero, suc, ◌≤◌, ◌<◌}
use lib.Dec.{eqb, leb, ltb}
use lib.ListN.{length, drop}
use lib.Pow.{pow_pos}
use borrow.Author.Tests.{eqb-true, eqb-false, ltb-false, le-leb, lt-ltb}
use Rattle.refusal.specs.Refusal.{Condition, when, first}
use Rattle.sets.proofs.Booleans.{and_i, or_f_l, or_f_r, not-e, not_f}
use Rattle.state.specs.declared.State.{State}
use Rattle.state.specs.declared.Node.{Node}
use Rattle.state.specs.State.{formed_place, formed_state, formed}
use Rattle.rules.specs.OneCycle.{wrong_mode, quiet_in, in_mode}
use Rattle.rules.specs.Faults.{at}
use Rattle.rules.specs.Reference.{beginning}
use Rattle.table.specs.Records.{is_kind, beyond, wrong_row, count_at, founding_at, start_refusal, cycle_length, wrong_cycle, cycle_refusal, faults_at}
use Rattle.table.specs.Table.{Cycles, with_cycle, cycles_in, table_of}
use Rattle.row.specs.Row.{in_order}
use Rattle.row.proofs.Meaning.{in_order_lem}
use Rattle.theorem_formed.proofs.Formed.{founding-formed, after-formed}
use Rattle.row_calls.specs.declared.Task.{Task}
use Rattle.row_calls.specs.declared.Task.TheVariants.{Cycle, Run, FramedRun}
use Rattle.row_calls.specs.Calls.{row_status, cycle_status, run_status, framed_entries, framed_status, call_status}
use Rattle.row_calls.specs.Histories.{Call, status, History, ruled, Stands}
use Rattle.row_calls.proofs.OverCalls.{stands-length}

-- ---- in order

placed : (quiet : Bool) (n q : ℕ) (s : State) → 2 ≤ n → n ≤ 64 → q < n → formed_state quiet q n s ≡ true → formed quiet (record { state = s; id = q; nodes = n }) ≡ true
unfolding formed formed_place
placed quiet n q s least most l f =
    let place = and_i (leb 2 n && leb n 64) (ltb q n) (and_i (leb 2 n) (leb n 64) (le-leb 2 n least) (le-leb n 64 most)) (lt-ltb q n l) in
    and_i (formed_place q n) (formed_state quiet q n s) place f

pub stands_in_order : (mode n : ℕ) (nodes : List Node) (h : History) → Stands mode n nodes h → 2 ≤ n → n ≤ 64 → in_order (quiet_in mode) n 0 nodes ≡ true
unfolding beginning
stands_in_order mode n nodes h w least most =
    ap (in_order (quiet_in mode) n 0) w.holds
    ∙ in_order_lem (quiet_in mode) n (ruled mode n h)
    (λ q l. placed (quiet_in mode) n q (at (ruled mode n h) q) least most l
    (after-formed (in_mode mode n) (beginning (in_mode mode n) 0 h.founding) h.cycles (founding-formed (in_mode mode n) 0 h.founding (pow_pos 32) w.founders) q l))

-- ---- refusals of records and tables are none of 4

abbrev Other : ℕ → List Condition → Type 0
Other k [] = Unit {0}
Other k (c ∷ cs) = (eqb c.number k ≡ false) × Other k cs

first_other : (k : ℕ) (cs : List Condition) → eqb 0 k ≡ false → Other k cs → first cs ≡ k → ⊥
unfolding first
first_other k [] z o e = eqb-false 0 k z e
first_other k (c ∷ cs) z o e = go c.holds e (first_other k cs z o.1)
  where
    go : (b : Bool) → cond b c.number (first cs) ≡ k → (first cs ≡ k → ⊥) → ⊥
    go true e rest = eqb-false c.number k o.0 e
    go false e rest = rest e

start_not_4 : (lent : Bool) (entries : ℕ) (s : List ℕ) → start_refusal lent entries s ≡ 4 → ⊥
unfolding start_refusal
start_not_4 lent entries s e =
    first_other 4
    (when (ltb (length s) 3) 11
    ∷ when (not (is_kind 1 s)) 12
    ∷ when (ltb (length s) 12) 11
    ∷ when (ltb (count_at s) 2 || ltb 64 (count_at s)) 1
    ∷ when (wrong_row lent entries (count_at s)) 3
    ∷ when (eqb (founding_at s) 0 || beyond (count_at s) (founding_at s)) 13
    ∷ []) refl (refl, (refl, (refl, (refl, (refl, (refl, tt)))))) e

record_not_4 : (n k : ℕ) (s : List ℕ) → cycle_refusal n k s ≡ 4 → ⊥
unfolding cycle_refusal
record_not_4 n k s e =
    first_other 4
    (when (ltb (length s) 3) 11
    ∷ when (not (is_kind 2 s)) 12
    ∷ when (ltb (length s) 36 || ltb (length s) (cycle_length s)) 11
    ∷ when (wrong_cycle n k s) 13
    ∷ []) refl (refl, (refl, (refl, (refl, tt)))) e

cycles_not_4 : (most n k : ℕ) (s : List ℕ) → (cycles_in most n k s).refusal ≡ 4 → ⊥
unfolding cycles_in
cycles_not_4 zero n k s e = eqb-false 0 4 refl e
cycles_not_4 (suc most) n k s e =
    go (eqb (length s) 0) (eqb (cycle_refusal n k s) 0) e (cycles_not_4 most n (suc k) (drop (cycle_length s) s))
  where
    next : Cycles
    next = cycles_in most n (suc k) (drop (cycle_length s) s)

    go : (ended good : Bool)
        → (cond ended (record { whole = []; refusal = 0 }) (cond good (with_cycle (faults_at s) next) (record { whole = []; refusal = cycle_refusal n k s }))).refusal ≡ 4
        → (next.refusal ≡ 4 → ⊥) → ⊥
    go true good e rest = eqb-false 0 4 refl e
    go false true e rest = rest e
    go false false e rest = record_not_4 n k s e

table_not_4 : (entries : ℕ) (s : List ℕ) → (table_of true entries s).cycles.refusal ≡ 4 → ⊥
unfolding table_of
table_not_4 entries s e = go (eqb (start_refusal true entries s) 0) e
  where
    go : (good : Bool)
        → (cond good (cycles_in (length s) (count_at s) 1 (drop 12 s)) (record { whole = []; refusal = start_refusal true entries s })).refusal ≡ 4
        → ⊥
    go true e = cycles_not_4 (length s) (count_at s) 1 (drop 12 s) e
    go false e = start_not_4 true entries s e

-- ---- a call on a row that stands

module _ (mode n m : ℕ) (nodes : List Node) (h : History) (s : List ℕ) (w : Stands mode n nodes h) where
  row-not-4 : row_status m mode (length nodes) (in_order (quiet_in mode) m 0 nodes) s ≡ 4 → ⊥
  unfolding row_status first
  row-not-4 e =
      go (ltb m 2 || ltb 64 m) refl (wrong_mode mode) (not (eqb (length nodes) m) || ltb (cycle_length s) (length s)) refl (not (in_order (quiet_in mode) m 0 nodes)) refl e
    where
      go : (count : Bool) → (ltb m 2 || ltb 64 m) ≡ count
          → (wrong other : Bool) → (not (eqb (length nodes) m) || ltb (cycle_length s) (length s)) ≡ other
          → (disorder : Bool) → not (in_order (quiet_in mode) m 0 nodes) ≡ disorder
          → ◌≡◌ {A = ℕ} (cond count 1 (cond wrong 2 (cond other 3 (cond disorder 4 0)))) 4 → ⊥
      go true c wrong other o disorder d e = eqb-false 1 4 refl e
      go false c true other o disorder d e = eqb-false 2 4 refl e
      go false c false true o disorder d e = eqb-false 3 4 refl e
      go false c false false o false d e = eqb-false 0 4 refl e
      go false c false false o true d e =
          let fits : length nodes ≡ m = eqb-true (length nodes) m (not_f (eqb (length nodes) m) (or_f_l (not (eqb (length nodes) m)) (ltb (cycle_length s) (length s)) o)) in
          let same : n ≡ m = sym (stands-length mode n nodes h w) ∙ fits in
          let here = subst (λ (k : ℕ). Stands mode k nodes h) same w in
          let least = ltb-false m 2 (or_f_l (ltb m 2) (ltb 64 m) c) in
          let most = ltb-false 64 m (or_f_r (ltb m 2) (ltb 64 m) c) in
          true≢false (sym (stands_in_order mode m nodes h here least most) ∙ not-e (in_order (quiet_in mode) m 0 nodes) d)

  cycle-not-4 : cycle_status m mode nodes s ≡ 4 → ⊥
  unfolding cycle_status
  cycle-not-4 e = go (eqb (row_status m mode (length nodes) (in_order (quiet_in mode) m 0 nodes) s) 0) e
    where
      go : (good : Bool) → cond good (cycle_refusal m 1 s) (row_status m mode (length nodes) (in_order (quiet_in mode) m 0 nodes) s) ≡ 4 → ⊥
      go true e = record_not_4 m 1 s e
      go false e = row-not-4 e

  -- a run's mode is looked at first
  run-not-4 : (entries : ℕ) → cond (wrong_mode mode) 2 (table_of true entries s).cycles.refusal ≡ 4 → ⊥
  run-not-4 entries = go (wrong_mode mode)
    where
      go : (wrong : Bool) → cond wrong 2 (table_of true entries s).cycles.refusal ≡ 4 → ⊥
      go true e = eqb-false 2 4 refl e
      go false e = table_not_4 entries s e

  not-4 : (t : Task) (room : ℕ) → call_status t m mode nodes room s ≡ 4 → ⊥
  unfolding run_status framed_status
  not-4 Cycle room e = cycle-not-4 e
  not-4 Run room e = run-not-4 (length nodes) e
  not-4 FramedRun room e = run-not-4 (framed_entries room (length nodes)) e

-- in the mode of the row
pub never_4 : (mode n : ℕ) (c : Call) (nodes : List Node) (h : History) → c.mode ≡ mode → Stands mode n nodes h → status c nodes ≡ 4 → ⊥
never_4 mode n c nodes h own w e =
    not-4 mode n c.count nodes h c.bytes w c.task c.room (ap (λ (k : ℕ). call_status c.task c.count k nodes c.room c.bytes) (sym own) ∙ e)
