-- What a single cycle and a table's run answer and leave, from what their parts do. Assumes nothing.
use mathlib.Core.Path.{◌≡◌, refl, sym, ap, ap₂, ◌∙◌, subst}
use mathlib.Core.Bool.{Bool, true, false, not, ◌||◌, cond}
use mathlib.Core.List.{List, [], ◌∷◌}
use Prim.Native.Nat.{ℕ, ◌≤◌, ◌<◌}
use lib.Dec.{eqb, ltb}
use lib.ListN.{length}
use lib.Pow.{pow_pos}
use borrow.Author.Tests.{eqb-true, eqb-false, eq-eqb, ne_eqb, ltb-false, le-leb}
use Rattle.std.specs.Prelude.{Option, Some, Result, Ok, Err, IfOk}
use Rattle.sets.proofs.Booleans.{or_f_l, or_f_r, not_f}
use Rattle.refusal.specs.declared.Refusal.{Refusal}
use Rattle.refusal.specs.Refusal.{when, first}
use Rattle.refusal.specs.Codes.{code_of, status_of}
use Rattle.refusal.proofs.Codes.{numbered}
use Rattle.refusal.proofs.Laws.{unless-done, unless-refused}
use Rattle.state.specs.declared.Node.{Node}
use Rattle.state.specs.State.{formed_state}
use Rattle.rules.specs.declared.Config.{Config}
use Rattle.rules.specs.declared.Faults.{Faults}
use Rattle.rules.specs.OneCycle.{wrong_mode, quiet_in, in_mode}
use Rattle.rules.specs.Faults.{Row, cycle}
use Rattle.rules.specs.Reference.{beginning, after}
use Rattle.bus_units.specs.Run.{frames_length, frames_after}
use Rattle.table.specs.Records.{count_at, founding_at, start_refusal, cycle_length, cycle_refusal, faults_at}
use Rattle.table.specs.Table.{Cycles, table_of}
use Rattle.table.proofs.Laws.{Begins, begins}
use Rattle.table.proofs.Cursor.{left, from, table-stops, table-goes-on}
use Rattle.cluster_states.specs.declared.States.{States}
use Rattle.cluster_states.specs.States.{state_at, row_of}
use Rattle.theorem_formed.proofs.Formed.{FormedRow, founding-formed}
use Rattle.row.specs.Row.{states_in, nodes_of, in_order}
use Rattle.row.specs.Gathered.{ordered}
use Rattle.row.proofs.Meaning.{gathered_states, gathered-ordered}
use Rattle.row_calls.specs.Calls.{row_status, cycle_status, cycle_left, run_status, ran_to, run_left, framed_entries, framed_status, framed_left, frames_left}
use Rattle.row_calls.proofs.Counts.{row_fits, in_mode_lem, framed_fits}
use Rattle.row_calls.proofs.Framed.{framed_plain, framed_left_lem}
use Rattle.run_turns.specs.After.{row_after}
use Rattle.run_turns.proofs.Ran.{after_row, states_formed}
use Rattle.run_answer.specs.declared.Left.{Left}
use Rattle.run_answer.specs.Answered.{count_byte, GatheredFrom, ran_status, BeginsTable, Leaves}

-- ---- the row of a single cycle

byte : (n : ℕ) → n ≤ 64 → count_byte n ≡ n
unfolding count_byte
byte n l = ap (λ (b : Bool). cond b n 0) (le-leb n 64 l)

-- whether the entries are in order matters only where nothing is refused before
last : (a w b x y : Bool) → (a ≡ false → b ≡ false → x ≡ y)
    → first (when a 1 ∷ when w 2 ∷ when b 3 ∷ when (not x) 4 ∷ []) ≡ first (when a 1 ∷ when w 2 ∷ when b 3 ∷ when (not y) 4 ∷ [])
unfolding first
last true w b x y h = refl
last false true b x y h = refl
last false false true x y h = refl
last false false false x y h = ap (λ (t : Bool). first (when (not t) 4 ∷ [])) (h refl refl)

module _ (n mode len : ℕ) (g : Option States) (nodes : List Node) (s : List ℕ) (h : GatheredFrom n g len nodes) where
  ordered-is : n ≤ 64 → len ≡ n → ordered (quiet_in mode) g ≡ in_order (quiet_in mode) n 0 nodes
  ordered-is l e =
      ap (ordered (quiet_in mode)) h.1
      ∙ gathered-ordered (quiet_in mode) (count_byte n) nodes (subst (λ (k : ℕ). k ≤ 64) (sym (h.0 ∙ e)) l)
      ∙ ap (λ (k : ℕ). in_order (quiet_in mode) k 0 nodes) (byte n l)

  -- what the row itself gives
  abbrev on_row : ℕ
  on_row = row_status n mode (length nodes) (in_order (quiet_in mode) n 0 nodes) s

  row_is : row_status n mode len (ordered (quiet_in mode) g) s ≡ on_row
  unfolding row_status
  row_is =
      let longer = ltb (cycle_length s) (length s) in
      last (ltb n 2 || ltb 64 n) (wrong_mode mode) (not (eqb len n) || longer) (ordered (quiet_in mode) g) (in_order (quiet_in mode) n 0 nodes)
      (λ a b. ordered-is (ltb-false 64 n (or_f_r (ltb n 2) (ltb 64 n) a)) (eqb-true len n (not_f (eqb len n) (or_f_l (not (eqb len n)) longer b))))
      ∙ ap (λ (k : ℕ). row_status n mode k (in_order (quiet_in mode) n 0 nodes) s) (sym h.0)

  states-are : (found : States) → g ≡ Some found → n ≤ 64 → len ≡ n → row_of n found ≡ states_in nodes
  states-are found kg l e =
      let all : length nodes ≡ n = h.0 ∙ e in
      ap (λ (k : ℕ). row_of k found) (sym all) ∙ gathered_states (count_byte n) nodes found (subst (λ (k : ℕ). k ≤ 64) (sym all) l) (sym h.1 ∙ kg)

  -- where the row is refused
  pub row-refused : (r : Refusal) → code_of r ≡ row_status n mode len (ordered (quiet_in mode) g) s → code_of r ≡ cycle_status n mode nodes s
  unfolding cycle_status
  row-refused r k =
      let same : code_of r ≡ on_row = k ∙ row_is in
      same ∙ sym (ap (λ (b : Bool). cond b (cycle_refusal n 1 s) on_row) (ne_eqb on_row 0 (λ e. numbered r (same ∙ e))))

  -- and where it is not, by the record
  module _ (z : 0 ≡ row_status n mode len (ordered (quiet_in mode) g) s) where
    pub record_is : (x : ℕ) → x ≡ cycle_refusal n 1 s → x ≡ cycle_status n mode nodes s
    unfolding cycle_status
    record_is x k = k ∙ sym (ap (λ (b : Bool). cond b (cycle_refusal n 1 s) on_row) (eq-eqb on_row 0 (sym (z ∙ row_is))))

    pub cycle-leaves : 0 ≡ cycle_refusal n 1 s → (found : States) → g ≡ Some found → (f : Faults) (after : States) → f ≡ faults_at s
        → row_of n after ≡ cycle (in_mode mode n) f (row_of n found) → Leaves n after len (cycle_left n mode nodes s)
    unfolding cycle_left
    cycle-leaves e found kg f after kf ka =
        let t = row_fits n mode len (ordered (quiet_in mode) g) s (sym z) in
        let turned : row_of n after ≡ cycle (in_mode mode n) (faults_at s) (states_in nodes) =
        ka ∙ ap₂ (λ (c : Faults) (row : Row). cycle (in_mode mode n) c row) kf (states-are found kg t.count.1 t.entries) in (
          sym t.entries,
          t.count.1,
          ap (nodes_of n) turned
              ∙ sym (unless-done (cycle_status n mode nodes s) (nodes_of n (cycle (in_mode mode n) (faults_at s) (states_in nodes))) nodes (sym (record_is 0 e))),
        )

-- ---- a table that is not refused

module _ (mode len : ℕ) (s : List ℕ) (z : (table_of true len s).cycles.refusal ≡ 0) where
  start-good : start_refusal true len s ≡ 0
  start-good = go (eqb (start_refusal true len s) 0) refl
    where
      go : (b : Bool) → eqb (start_refusal true len s) 0 ≡ b → start_refusal true len s ≡ 0
      go true e = eqb-true (start_refusal true len s) 0 e
      go false e = sym (ap (λ (c : Cycles). c.refusal) (table-stops true len s (start_refusal true len s) refl (eqb-false (start_refusal true len s) 0 e))) ∙ z

  begun : Begins true len s
  begun = begins true len s start-good

  -- the cycles of a cluster of n
  abbrev cycles_of : ℕ → Cycles
  cycles_of n = from n 1 (left s 12) 0

  all : (table_of true len s).cycles ≡ cycles_of (count_at s)
  all = table-goes-on true len s (start_refusal true len s) refl start-good (count_at s) refl

  -- from the states of its beginning
  module _ (C : Config) (start : States) (b : BeginsTable mode s C start) where
    at_count : (P : Config → Type 0) → P (in_mode mode (count_at s)) → P C
    at_count P p = subst P (sym b.1) p

    -- what a run asks for
    pub run-most : C.nodes ≤ 64
    run-most = at_count (λ (D : Config). D.nodes ≤ 64) begun.most

    pub run-good : (cycles_of C.nodes).refusal ≡ 0
    run-good = at_count (λ (D : Config). (cycles_of D.nodes).refusal ≡ 0) (sym (ap (λ (c : Cycles). c.refusal) all) ∙ z)

    pub run-formed : (q : ℕ) → q < C.nodes → formed_state C.quiet q C.nodes (state_at start q) ≡ true
    run-formed =
        at_count (λ (D : Config). (q : ℕ) → q < D.nodes → formed_state D.quiet q D.nodes (state_at start q) ≡ true)
        (states_formed (in_mode mode (count_at s)) start
        (subst (FormedRow (in_mode mode (count_at s))) (sym b.2) (founding-formed (in_mode mode (count_at s)) 0 (founding_at s) (pow_pos 32) begun.founding)))

    -- and what it leaves
    pub run-leaves : (states : States) → row_of C.nodes states ≡ row_after C (row_of C.nodes start) (cycles_of C.nodes).whole → Leaves C.nodes states len (ran_to mode (table_of true len s))
    unfolding table_of beginning
    run-leaves states =
        at_count (λ (D : Config). row_of D.nodes states ≡ row_after D (row_of D.nodes start) (cycles_of D.nodes).whole → Leaves D.nodes states len (ran_to mode (table_of true len s)))
        (λ e. let n = count_at s in (
          sym (eqb-true len n (not_f (eqb len n) begun.row)),
          begun.most,
          ap (nodes_of n) (e ∙ ap₂ (λ (row : Row) (c : Cycles). row_after (in_mode mode n) row c.whole) b.2 (sym all)
              ∙ sym (after_row (in_mode mode n) (beginning (in_mode mode n) 0 (founding_at s)) (table_of true len s).cycles.whole)),
        ))

    -- and the frames of its last cycle
    pub run-shown : wrong_mode mode ≡ false → (frames : List ℕ) → length frames ≡ frames_length
        → frames_after C 1 (row_of C.nodes start) (cycles_of C.nodes).whole frames ≡ frames_left mode len s frames
    unfolding table_of beginning frames_left framed_status
    run-shown m frames sized =
        at_count (λ (D : Config). frames_after D 1 (row_of D.nodes start) (cycles_of D.nodes).whole frames ≡ frames_left mode len s frames)
        (let n = count_at s in
        let room : framed_entries (length frames) len ≡ len = ap (λ (t : Bool). cond t len 0) (eq-eqb (length frames) frames_length sized) in
        ap₂ (λ (row : Row) (c : Cycles). frames_after (in_mode mode n) 1 row c.whole frames) b.2 (sym all)
        ∙ sym (unless-done (framed_status mode len (length frames) s) _ frames (ap₂ (λ (t : Bool) (k : ℕ). cond t 2 (table_of true k s).cycles.refusal) m room ∙ z)))

-- ---- a run, by what it answers

-- one that is not refused has its row
pub run_good : (mode len : ℕ) (s : List ℕ) → 0 ≡ ran_status mode len s → (table_of true len s).cycles.refusal ≡ 0
run_good mode len s e = (in_mode_lem mode _ (sym e)).1

-- and, through frames, its frames
pub framed_good : (mode room len : ℕ) (s : List ℕ) → 0 ≡ ran_status mode (framed_entries room len) s
    → (wrong_mode mode ≡ false) × (room ≡ frames_length) × ((table_of true len s).cycles.refusal ≡ 0)
unfolding framed_status
framed_good mode room len s e = let f = framed_fits mode len room s (sym e) in ((in_mode_lem mode _ (sym e)).0, f.0, f.1)

-- one that is refused leaves the frames
pub frames_kept : (mode len : ℕ) (s frames : List ℕ) (r : Refusal) → code_of r ≡ ran_status mode (framed_entries (length frames) len) s → frames ≡ frames_left mode len s frames
unfolding framed_status frames_left
frames_kept mode len s frames r e = sym (unless-refused (framed_status mode len (length frames) s) _ frames (λ z. numbered r (e ∙ z)))

-- on a row
module _ (mode len : ℕ) (nodes : List Node) (s : List ℕ) (h : length nodes ≡ len) where
  pub run-status : (x : ℕ) → x ≡ ran_status mode len s → x ≡ run_status mode nodes s
  unfolding run_status
  run-status x e = e ∙ ap (λ (k : ℕ). ran_status mode k s) (sym h)

  pub framed-status : (room x : ℕ) → x ≡ ran_status mode (framed_entries room len) s → x ≡ framed_status mode (length nodes) room s
  unfolding framed_status
  framed-status room x e = e ∙ ap (λ (k : ℕ). ran_status mode (framed_entries room k) s) (sym h)

  left-of : (l : Left) → run_status mode nodes s ≡ 0 → Leaves l.nodes l.states len (ran_to mode (table_of true len s)) → Leaves l.nodes l.states len (run_left mode nodes s)
  unfolding run_left
  left-of l z t = (
    t.0,
    t.1,
    t.2 ∙ ap (λ (k : ℕ). ran_to mode (table_of true k s)) (sym h) ∙ sym (unless-done (run_status mode nodes s) (ran_to mode (table_of true (length nodes) s)) nodes z),
  )

  pub run-left : (r : Result Left Refusal) → status_of r ≡ ran_status mode len s → IfOk r (λ l. Leaves l.nodes l.states len (ran_to mode (table_of true len s)))
      → IfOk r (λ l. Leaves l.nodes l.states len (run_left mode nodes s))
  run-left (Ok l) e t = left-of l (sym (run-status 0 e)) t
  run-left (Err x) e t = t

  pub framed-left : (room : ℕ) (r : Result Left Refusal) → status_of r ≡ ran_status mode (framed_entries room len) s → IfOk r (λ l. Leaves l.nodes l.states len (ran_to mode (table_of true len s)))
      → IfOk r (λ l. Leaves l.nodes l.states len (framed_left mode nodes room s))
  framed-left room (Ok l) e t =
      let z : framed_status mode (length nodes) room s ≡ 0 = sym (framed-status room 0 e) in
      subst (Leaves l.nodes l.states len) (sym (framed_left_lem mode nodes room s z)) (left-of l (framed_plain mode nodes room s z) t)
  framed-left room (Err x) e t = t
