-- The premises of `OverImages` can be met: any list of calls that the entries can make is `Done` from any row, and each way in which a row is `Begun` is there.
-- Said is that the contracts can tell such calls, not that a machine makes them. Assumes nothing.
use mathlib.Core.Path.{◌≡◌, refl, sym, ap, ◌∙◌, subst}
use mathlib.Core.Logic.{inl}
use mathlib.Core.Bool.{Bool, true, false, cond, false≢true}
use mathlib.Core.List.{List, [], ◌∷◌, ◌++◌}
use Prim.Native.Nat.{ℕ, ◌≤◌}
use lib.ListN.{length, replicate, length-replicate}
use denote.Ref.{Bor}
use denote.MutBor.{MutBor}
use Rattle.sets.specs.Sets.{below}
use Rattle.bigendian.specs.BigEndian.{number_at}
use Rattle.state.specs.declared.Node.{Node}
use Rattle.rules.specs.OneCycle.{wrong_mode, quiet_in}
use Rattle.rules.specs.Faults.{tabulate}
use Rattle.refusal.specs.Refusal.{first}
use Rattle.table.specs.Records.{mark, marked, start_refusal}
use Rattle.table.specs.Table.{cycles_in, table_of}
use Rattle.row.specs.Row.{nodes_of}
use Rattle.bus_units.specs.Run.{frames_length}
use Rattle.row_calls.specs.declared.Task.{Task}
use Rattle.row_calls.specs.declared.Task.TheVariants.{Cycle, Run, FramedRun}
use Rattle.row_calls.specs.Calls.{run_status, framed_status}
use Rattle.row_calls.specs.Histories.{Call, status, History, AllIn, ruled, Stands, Begun, at_beginning, by_a_run}
use Rattle.row_calls.proofs.Standing.{stands_in_order}
use Rattle.row.proofs.Meaning.{order_either}
use Rattle.row_images.specs.Images.{entries_in, nodes_in, images_of}
use Rattle.row_images.proofs.Images.{nodes_images}
use Rattle.entry_row.specs.OnImages.{lent_status, lent_left, lent_frames, images_status, images_left}
use Rattle.theorem_entries.specs.Images.{Done, none, cycle, run, run_frames}
use Rattle.theorem_entries.proofs.Rows.{EachIn, each_in}

-- ---- the calls that the entries can make: `gm_cycle` is lent no frames, `gm_run` is lent none and not told N, `gm_run_frames` is not told N. Nothing else is
-- asked: N, the mode, the bytes of a record or table and the room for frames are any, and so also those that C can pass.

abbrev pub a_cycle : (n mode : ℕ) → List ℕ → Call
a_cycle n mode s = record { task = Cycle; count = n; mode = mode; room = 0; bytes = s }

abbrev pub a_run : (mode : ℕ) → List ℕ → Call
a_run mode s = record { task = Run; count = 0; mode = mode; room = 0; bytes = s }

abbrev pub a_framed_run : (mode room : ℕ) → List ℕ → Call
a_framed_run mode room s = record { task = FramedRun; count = 0; mode = mode; room = room; bytes = s }

pub data Callable : List Call → Type 0 where
  nothing : Callable []
  cycles : {cs : List Call} (n mode : ℕ) (s : List ℕ) → Callable cs → Callable (a_cycle n mode s ∷ cs)
  runs : {cs : List Call} (mode : ℕ) (s : List ℕ) → Callable cs → Callable (a_run mode s ∷ cs)
  runs_frames : {cs : List Call} (mode room : ℕ) (s : List ℕ) → Callable cs → Callable (a_framed_run mode room s ∷ cs)

-- no list that `Done` can write down is left out ..
pub done_callable : {cs : List Call} {x z : List ℕ} → Done cs x z → Callable cs
done_callable none = nothing
done_callable (cycle κs a r s l p q rest) = cycles a.0 a.1.0 a.1.1.1.0.now (done_callable rest)
done_callable (run κs a r s l p q rest) = runs a.0 a.1.1.0.now (done_callable rest)
done_callable (run_frames κs a r s l p q rest) = runs_frames a.0 (length a.1.1.1.0.now) a.1.1.0.now (done_callable rest)

-- bytes that are lent to be read, and bytes that are lent to be written, at any place
abbrev ref : List ℕ → Bor (List ℕ)
ref x = record { ref_ptr = (0, 0); now = x }

abbrev own : List ℕ → MutBor (List ℕ)
own x = record { ref_ptr = (0, 0); ghost_name = 0; now = x }

-- each call as its contract tells it, with the status and the bytes of the definitions that it cites
cycle-first : {cs : List Call} {x z : List ℕ} (n mode : ℕ) (s : List ℕ) → Done cs (images_left Cycle n mode x s) z → Done (a_cycle n mode s ∷ cs) x z
cycle-first {cs} {x} {z} n mode s rest =
    cycle ([], ([], tt)) (n, (mode, (own x, (ref s, tt)))) (images_status Cycle n mode x s) (n, (mode, (own (images_left Cycle n mode x s), (ref s, tt)))) (refl, refl) refl refl rest

run_first : {cs : List Call} {x z : List ℕ} (mode : ℕ) (s : List ℕ) → Done cs (images_left Run 0 mode x s) z → Done (a_run mode s ∷ cs) x z
run_first {cs} {x} {z} mode s rest =
    run ([], ([], tt)) (mode, (own x, (ref s, tt))) (images_status Run 0 mode x s) (mode, (own (images_left Run 0 mode x s), (ref s, tt))) (refl, refl) refl refl rest

run_frames_first : {cs : List Call} {x z : List ℕ} (mode : ℕ) (frames s : List ℕ) → Done cs (lent_left FramedRun 0 mode x (length frames) s) z → Done (a_framed_run mode (length frames) s ∷ cs) x z
run_frames_first {cs} {x} {z} mode frames s rest =
    run_frames ([], ([], ([], tt))) (mode, (own x, (ref s, (own frames, tt)))) (lent_status FramedRun 0 mode x (length frames) s)
    (mode, (own (lent_left FramedRun 0 mode x (length frames) s), (ref s, (own (lent_frames FramedRun mode x s frames), tt)))) (refl, (refl, refl)) refl refl rest

-- .. and each can be made on a row of any bytes
pub images_there : (cs : List Call) (x : List ℕ) → Callable cs → (z : List ℕ) × Done cs x z
images_there [] x nothing = (x, none)
images_there (c ∷ cs) x (cycles n mode s k) =
    let rest = images_there cs (images_left Cycle n mode x s) k in
    (rest.0, cycle-first n mode s rest.1)
images_there (c ∷ cs) x (runs mode s k) =
    let rest = images_there cs (images_left Run 0 mode x s) k in
    (rest.0, run_first mode s rest.1)
images_there (c ∷ cs) x (runs_frames mode room s k) =
    let frames = replicate {A = ℕ} room 0 in
    let rest = images_there cs (lent_left FramedRun 0 mode x (length frames) s) k in
    let sized = length-replicate {A = ℕ} room 0 in
    (rest.0, subst (λ (m : ℕ). Done (a_framed_run mode m s ∷ cs) x rest.0) sized (run_frames_first mode frames s rest.1))

-- ---- and the row can be begun, in each way

-- the premises, of one row
abbrev pub Met : (mode n : ℕ) → History → List Call → Type 1
Met mode n h cs = (x : List ℕ) × (z : List ℕ) × AllIn mode cs (nodes_in x) × Begun mode n (nodes_in x) h cs × Done cs x z

-- the images of the beginning, of any founding set; then any calls
pub beginning_there : (mode n F : ℕ) (cs : List Call) → 2 ≤ n → n ≤ 64 → below n F ≡ F → Callable cs → EachIn mode cs → Met mode n (record { founding = F; cycles = [] }) cs
beginning_there mode n F cs two few founders k e =
    let made = images_there cs (images_of nodes) k in
    (images_of nodes, made.0, each_in mode cs (nodes_in (images_of nodes)) e, at_beginning (subst (λ (v : List Node). Stands mode n v h) (sym same) stands) refl, made.1)
  where
    h : History
    h = record { founding = F; cycles = [] }

    nodes : List Node
    nodes = nodes_of n (ruled mode n h)

    stands : Stands mode n nodes h
    stands = record { holds = refl; founders = founders }

    same : nodes_in (images_of nodes) ≡ nodes
    same = nodes_images n nodes (order_either (quiet_in mode) n 0 nodes (stands_in_order mode n nodes h stands two few))

-- an accepted run: 48 bytes are two images, well formed or not, and the table has two nodes, both founders, and no cycle
abbrev row : List ℕ
row = replicate 48 0

abbrev table : List ℕ
table = mark ++ (1 ∷ 2 ∷ 0 ∷ 0 ∷ 0 ∷ 0 ∷ 0 ∷ 0 ∷ 0 ∷ 3 ∷ [])

two_entries : length (nodes_in row) ≡ 2
unfolding tabulate entries_in nodes_in
two_entries = refl

accepted : (table_of true (length (nodes_in row)) table).cycles.refusal ≡ 0
unfolding below number_at first marked start_refusal cycles_in table_of
accepted = ap (λ (m : ℕ). (table_of true m table).cycles.refusal) two_entries

is_cycle : Task → Bool
is_cycle Cycle = true
is_cycle Run = false
is_cycle FramedRun = false

begun_by : (mode : ℕ) (h : History) (c : Call) (cs : List Call) → is_cycle c.task ≡ false → status c (nodes_in row) ≡ 0 → Callable (c ∷ cs) → EachIn mode (c ∷ cs) → Met mode 2 h (c ∷ cs)
unfolding is_cycle
begun_by mode h c cs e done k m =
    let made = images_there (c ∷ cs) row k in
    (row, made.0, each_in mode (c ∷ cs) (nodes_in row) m, by_a_run two_entries (λ same. false≢true (sym e ∙ ap is_cycle same)) done, made.1)

-- in each mode
pub run_there : (mode : ℕ) (h : History) (cs : List Call) → wrong_mode mode ≡ false → Callable cs → EachIn mode cs → Met mode 2 h (a_run mode table ∷ cs)
unfolding run_status is_cycle
run_there mode h cs w k m = begun_by mode h _ cs refl (ap (λ (b : Bool). cond b 2 (table_of true (length (nodes_in row)) table).cycles.refusal) w ∙ accepted) (runs mode table k) (inl refl, m)

pub run_frames_there : (mode : ℕ) (h : History) (cs : List Call) → wrong_mode mode ≡ false → Callable cs → EachIn mode cs → Met mode 2 h (a_framed_run mode frames_length table ∷ cs)
unfolding framed_status is_cycle
run_frames_there mode h cs w k m = begun_by mode h _ cs refl (ap (λ (b : Bool). cond b 2 (table_of true (length (nodes_in row)) table).cycles.refusal) w ∙ accepted) (runs_frames mode frames_length table k) (inl refl, m)
