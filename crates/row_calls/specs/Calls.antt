-- Paper 01: "For a run the caller lends the states of all units as one row, one entry per unit. A single cycle works on the row as lent; a table's run first
-- sets it to the beginning." What each answers and leaves.
-- Assumes nothing.
--     row_status: refusals 1 to 4 of a single cycle
--     cycle_status: what a single cycle answers
--     cycle_left: the row that it leaves
--     run_status: what a table's run answers
--     ran_to: the row after the table's cycles
--     run_left: the row that the run leaves
--     framed_entries: the entries of the row, none where the lent frames have another length
--     framed_status: what a run through frames answers
--     row_begun: the row at the beginning of a table
--     framed_through, plain_through: the rows after each whole cycle, through frames and by the table alone
--     framed_to: the row after the table's cycles, through frames
--     framed_left: the row that the run through frames leaves
--     frames_left: the frames that it leaves
--     call_status, call_left, call_frames: what a call answers, the row and the frames that it leaves, by its task
--     FramedAsPlain: a run through frames answers and leaves what a plain run does
use Rattle.std.specs.Prelude.{◌≡◌, Bool, true, not, ◌||◌, cond, List, [], ◌∷◌, ℕ, eqb, ltb, length}
use Rattle.refusal.specs.Refusal.{when, first, unless}
use Rattle.state.specs.declared.Node.{Node}
use Rattle.rules.specs.OneCycle.{wrong_mode, quiet_in, in_mode}
use Rattle.rules.specs.Faults.{Row, cycle}
use Rattle.rules.specs.Reference.{beginning, after}
use Rattle.bus_units.specs.Run.{framed_rows, plain_rows, last_row, frames_length, frames_after}
use Rattle.table.specs.Records.{cycle_length, cycle_refusal, faults_at}
use Rattle.table.specs.Table.{Table, table_of}
use Rattle.row.specs.Row.{states_in, nodes_of, in_order}
use Rattle.row_calls.specs.declared.Task.{Task}
use Rattle.row_calls.specs.declared.Task.TheVariants.{Cycle, Run, FramedRun}

-- ---- the single cycle, of the cycle record s

-- "1: N outside 2 to 64, where it is given as a number"; request 3: a mode that is neither 0 nor 1 "is refused with 2"; "3: a lent buffer of another length than named here .. or a row not of N entries": a record's
-- length is named by its count; "4: a state image not well formed, or in a row an entry q that is not node q of that N". By how many entries the row has, and
-- whether each is in its place.
unfoldable pub row_status : (n mode entries : ℕ) → (ordered : Bool) → List ℕ → ℕ
row_status n mode entries ordered s =
    first
    (when (ltb n 2 || ltb 64 n) 1
    ∷ when (wrong_mode mode) 2
    ∷ when (not (eqb entries n) || ltb (cycle_length s) (length s)) 3
    ∷ when (not ordered) 4
    ∷ [])

-- then the refusals of a record; a single cycle has no number that could be too large
unfoldable pub cycle_status : ℕ → ℕ → List Node → List ℕ → ℕ
cycle_status n mode nodes s =
    let row = row_status n mode (length nodes) (in_order (quiet_in mode) n 0 nodes) s in
    cond (eqb row 0) (cycle_refusal n 1 s) row

unfoldable pub cycle_left : ℕ → ℕ → List Node → List ℕ → List Node
cycle_left n mode nodes s = unless (cycle_status n mode nodes s) (nodes_of n (cycle (in_mode mode n) (faults_at s) (states_in nodes))) nodes

-- ---- a table's run, of the table s: 2 for the mode, and then its own order of refusals, with "3 for a run's row" and no 4, since it sets the row first

unfoldable pub run_status : ℕ → List Node → List ℕ → ℕ
run_status mode nodes s = cond (wrong_mode mode) 2 (table_of true (length nodes) s).cycles.refusal

abbrev pub ran_to : ℕ → Table → List Node
ran_to mode t =
    let C = in_mode mode t.nodes in
    nodes_of t.nodes (after C (beginning C 0 t.founding) t.cycles.whole).row

unfoldable pub run_left : ℕ → List Node → List ℕ → List Node
run_left mode nodes s = unless (run_status mode nodes s) (ran_to mode (table_of true (length nodes) s)) nodes

-- ---- a table's run through frames, on a row of so many entries and lent `room` bytes for frames

-- "3: a lent buffer of another length than named here": given in the place of the row's 3, as for a row of no entries, which no N has
abbrev pub framed_entries : (room entries : ℕ) → ℕ
framed_entries room entries = cond (eqb room frames_length) entries 0

unfoldable pub framed_status : (mode entries room : ℕ) → List ℕ → ℕ
framed_status mode entries room s = cond (wrong_mode mode) 2 (table_of true (framed_entries room entries) s).cycles.refusal

-- the row at the beginning of a table, and the rows after each of its whole cycles: through frames, with the count n - 1 modulo 64 in cycle n, and by the table alone
abbrev pub row_begun : ℕ → Table → Row
row_begun mode t = (beginning (in_mode mode t.nodes) 0 t.founding).row

abbrev pub framed_through : ℕ → Table → List Row
framed_through mode t = framed_rows (in_mode mode t.nodes) 1 (row_begun mode t) t.cycles.whole

abbrev pub plain_through : ℕ → Table → List Row
plain_through mode t = plain_rows (in_mode mode t.nodes) (row_begun mode t) t.cycles.whole

abbrev pub framed_to : ℕ → Table → List Node
framed_to mode t = nodes_of t.nodes (last_row (row_begun mode t) (framed_through mode t))

unfoldable pub framed_left : ℕ → List Node → (room : ℕ) → List ℕ → List Node
framed_left mode nodes room s = unless (framed_status mode (length nodes) room s) (framed_to mode (table_of true (length nodes) s)) nodes

-- the lent frames afterwards: those of the last cycle, of whatever cycle it is; a refusal, and a table without cycles, leave them as they came in
unfoldable pub frames_left : (mode entries : ℕ) → List ℕ → List ℕ → List ℕ
frames_left mode entries s frames =
    let t = table_of true entries s in
    unless (framed_status mode entries (length frames) s) (frames_after (in_mode mode t.nodes) 1 (row_begun mode t) t.cycles.whole frames) frames

-- ---- a call; only a run through frames looks at what is lent for frames

abbrev pub call_status : Task → (n mode : ℕ) → List Node → (room : ℕ) → List ℕ → ℕ
call_status Cycle n mode nodes room s = cycle_status n mode nodes s
call_status Run n mode nodes room s = run_status mode nodes s
call_status FramedRun n mode nodes room s = framed_status mode (length nodes) room s

abbrev pub call_left : Task → (n mode : ℕ) → List Node → (room : ℕ) → List ℕ → List Node
call_left Cycle n mode nodes room s = cycle_left n mode nodes s
call_left Run n mode nodes room s = run_left mode nodes s
call_left FramedRun n mode nodes room s = framed_left mode nodes room s

abbrev pub call_frames : Task → (mode entries : ℕ) → List ℕ → List ℕ → List ℕ
call_frames Cycle mode entries s frames = frames
call_frames Run mode entries s frames = frames
call_frames FramedRun mode entries s frames = frames_left mode entries s frames

-- ---- demand 2: "a run through frames ends each cycle in the states that the fault table alone gives". Of every mode, row and table:

pub record FramedAsPlain (mode : ℕ) (nodes : List Node) (s : List ℕ) : Type 0 where
  -- lent its frames it answers what a plain run answers
  pub status : framed_status mode (length nodes) frames_length s ≡ run_status mode nodes s
  -- the states after every whole cycle of the table, and those that the run leaves, are the same
  pub states : framed_through mode (table_of true (length nodes) s) ≡ plain_through mode (table_of true (length nodes) s)
  pub left : framed_left mode nodes frames_length s ≡ run_left mode nodes s
