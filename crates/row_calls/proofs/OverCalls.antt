-- Demand 3 over lists of calls on one row. Assumes nothing.
use mathlib.Core.Path.{◌≡◌, refl, sym, ap, ap₂, ◌∙◌, subst}
use mathlib.Core.Logic.{◌≢◌}
use mathlib.Core.Bool.{Bool, true, false}
use mathlib.Core.List.{List, [], ◌∷◌, ◌++◌}
use Prim.Native.Nat.{ℕ}
use lib.Dec.{eqb}
use lib.ListN.{length}
use borrow.Author.Tests.{eqb-false}
use Rattle.refusal.proofs.Laws.{unless-done, unless-refused}
use Rattle.sets.specs.Sets.{below}
use Rattle.sets.proofs.Booleans.{eqb-true, not_f}
use Rattle.state.specs.declared.Node.{Node}
use Rattle.rules.specs.declared.Faults.{Faults}
use Rattle.rules.specs.OneCycle.{in_mode}
use Rattle.rules.specs.Faults.{Row, cycle}
use Rattle.rules.specs.Reference.{Cluster, beginning, step, after}
use Rattle.theorem_agreement.proofs.Histories.{after-append, demand3}
use Rattle.table.specs.Records.{count_at, founding_at, faults_at}
use Rattle.table.specs.Table.{table_of}
use Rattle.table.proofs.Laws.{begins}
use Rattle.row.specs.Row.{states_in, nodes_of}
use Rattle.row.proofs.Meaning.{states_nodes, length_nodes}
use Rattle.theorem_formed.proofs.Formed.{length-founding, length-after}
use Rattle.row_calls.specs.declared.Task.{Task}
use Rattle.row_calls.specs.declared.Task.TheVariants.{Cycle, Run, FramedRun}
use Rattle.row_calls.specs.Calls.{cycle_status, cycle_left, run_status, ran_to, run_left, framed_status, framed_left, call_status, call_left}
use Rattle.row_calls.proofs.Counts.{cycle-fits, run_fits}
use Rattle.row_calls.proofs.Framed.{begun_table, framed_plain, framed_left_lem}
use Rattle.row_calls.specs.Histories.{Call, status, left, History, tabled, accepted, history_of, nodes_after, history_after, AllIn, ruled, Stands, Begun, at_beginning, by_a_run, OverCalls}

-- ---- a row that stands: as many entries as nodes, and the states that the rules give

pub stands-length : (mode n : ℕ) (nodes : List Node) (h : History) → Stands mode n nodes h → length nodes ≡ n
stands-length mode n nodes h w = ap (λ (x : List Node). length x) w.holds ∙ length_nodes n (ruled mode n h)

pub stands_states : (mode n : ℕ) (nodes : List Node) (h : History) → Stands mode n nodes h → states_in nodes ≡ ruled mode n h
unfolding beginning
stands_states mode n nodes h w =
    ap states_in w.holds
    ∙ states_nodes n (ruled mode n h) (length-after (in_mode mode n) (beginning (in_mode mode n) 0 h.founding) h.cycles (length-founding n 0 h.founding))

-- one more cycle
ruled-next : (mode n F : ℕ) (cs : List Faults) (c : Faults)
    → ruled mode n (record { founding = F; cycles = cs ++ (c ∷ []) }) ≡ cycle (in_mode mode n) c (ruled mode n (record { founding = F; cycles = cs }))
unfolding after step
ruled-next mode n F cs c = ap (λ (k : Cluster). k.row) (after-append (in_mode mode n) (beginning (in_mode mode n) 0 F) cs (c ∷ []))

-- ---- accepted calls in the mode of the row

module _ (mode n k : ℕ) (own : k ≡ mode) (nodes : List Node) where
  -- a single cycle
  cycle-stands : (m : ℕ) (h : History) (s : List ℕ) → Stands mode n nodes h → cycle_status m k nodes s ≡ 0
      → Stands mode n (cycle_left m k nodes s) (record { founding = h.founding; cycles = h.cycles ++ (faults_at s ∷ []) })
  unfolding cycle_left
  cycle-stands m h s w e =
      let same : m ≡ n = sym (cycle-fits m k nodes s e).entries ∙ stands-length mode n nodes h w in
      record {
        holds =
            unless-done (cycle_status m k nodes s) (nodes_of m (cycle (in_mode k m) (faults_at s) (states_in nodes))) _ e
            ∙ ap (λ (x : ℕ). nodes_of m (cycle (in_mode x m) (faults_at s) (states_in nodes))) own
            ∙ ap₂ (λ (x : ℕ) (r : Row). nodes_of x (cycle (in_mode mode x) (faults_at s) r)) same (stands_states mode n nodes h w)
            ∙ ap (nodes_of n) (sym (ruled-next mode n h.founding h.cycles (faults_at s)));
        founders = w.founders;
      }

  run-left : (s : List ℕ) → run_status k nodes s ≡ 0 → run_left k nodes s ≡ ran_to mode (table_of true (length nodes) s)
  unfolding run_left
  run-left s e = unless-done (run_status k nodes s) (ran_to k (table_of true (length nodes) s)) _ e ∙ ap (λ (x : ℕ). ran_to x (table_of true (length nodes) s)) own

  -- a run, on any row
  run-stands : (s : List ℕ) → length nodes ≡ n → run_status k nodes s ≡ 0 → Stands mode n (run_left k nodes s) (tabled (table_of true (length nodes) s))
  unfolding table_of
  run-stands s l e =
      let b = begins true (length nodes) s (begun_table true (length nodes) s (run_fits k nodes s e)) in
      let same : count_at s ≡ n = sym (eqb-true (not_f (eqb (length nodes) (count_at s)) b.row)) ∙ l in
      let t = table_of true (length nodes) s in
      record {
        holds = run-left s e ∙ ap (λ (x : ℕ). nodes_of x (ruled mode x (tabled t))) same;
        founders = subst (λ (x : ℕ). below x (founding_at s) ≡ founding_at s) same b.founding;
      }

  -- through frames
  framed-stands : (room : ℕ) (s : List ℕ) → length nodes ≡ n → framed_status k (length nodes) room s ≡ 0
      → Stands mode n (framed_left k nodes room s) (tabled (table_of true (length nodes) s))
  framed-stands room s l e =
      subst (λ (x : List Node). Stands mode n x (tabled (table_of true (length nodes) s))) (sym (framed_left_lem k nodes room s e)) (run-stands s l (framed_plain k nodes room s e))

  accepted-stands : (t : Task) (m room : ℕ) (h : History) (s : List ℕ) → Stands mode n nodes h → call_status t m k nodes room s ≡ 0
      → Stands mode n (call_left t m k nodes room s) (accepted t s nodes h)
  accepted-stands Cycle m room h s w e = cycle-stands m h s w e
  accepted-stands Run m room h s w e = run-stands s (stands-length mode n nodes h w) e
  accepted-stands FramedRun m room h s w e = framed-stands room s (stands-length mode n nodes h w) e

  -- a first call that is an accepted run
  first_run : (t : Task) (m room : ℕ) (h : History) (s : List ℕ) → length nodes ≡ n → t ≢ Cycle → call_status t m k nodes room s ≡ 0
      → Stands mode n (call_left t m k nodes room s) (accepted t s nodes h)
  first_run Cycle m room h s l d e = absurd (d refl)
  first_run Run m room h s l d e = run-stands s l e
  first_run FramedRun m room h s l d e = framed-stands room s l e

-- ---- a call

pub refused_left : (t : Task) (m mode : ℕ) (nodes : List Node) (room : ℕ) (s : List ℕ) → (call_status t m mode nodes room s ≡ 0 → ⊥) → call_left t m mode nodes room s ≡ nodes
unfolding cycle_left run_left framed_left
refused_left Cycle m mode nodes room s r = unless-refused (cycle_status m mode nodes s) _ nodes r
refused_left Run m mode nodes room s r = unless-refused (run_status mode nodes s) _ nodes r
refused_left FramedRun m mode nodes room s r = unless-refused (framed_status mode (length nodes) room s) _ nodes r

call_stands : (mode n : ℕ) (c : Call) (nodes : List Node) (h : History) → (status c nodes ≡ 0 → c.mode ≡ mode) → Stands mode n nodes h
    → Stands mode n (left c nodes) (history_of c nodes h)
call_stands mode n c nodes h own w = go (eqb (status c nodes) 0) refl
  where
    more : History
    more = accepted c.task c.bytes nodes h

    go : (b : Bool) → eqb (status c nodes) 0 ≡ b → Stands mode n (left c nodes) (history_of c nodes h)
    go true e =
        let done = eqb-true e in
        subst (Stands mode n (left c nodes)) (sym (unless-done (status c nodes) more _ done))
        (accepted-stands mode n c.mode (own done) nodes c.task c.count c.room h c.bytes w done)
    go false e =
        let refused = eqb-false (status c nodes) 0 e in
        subst (Stands mode n (left c nodes)) (sym (unless-refused (status c nodes) more h refused))
        (subst (λ (x : List Node). Stands mode n x h) (sym (refused_left c.task c.count c.mode nodes c.room c.bytes refused)) w)

-- ---- a list of calls

pub stands_after : (mode n : ℕ) (cs : List Call) (nodes : List Node) (h : History) → AllIn mode cs nodes → Stands mode n nodes h
    → Stands mode n (nodes_after cs nodes) (history_after cs nodes h)
unfolding nodes_after history_after AllIn
stands_after mode n [] nodes h all w = w
stands_after mode n (c ∷ cs) nodes h all w = stands_after mode n cs (left c nodes) (history_of c nodes h) all.1 (call_stands mode n c nodes h all.0 w)

pub begun-stands : (mode n : ℕ) (cs : List Call) (nodes : List Node) (h : History) → AllIn mode cs nodes → Begun mode n nodes h cs
    → Stands mode n (nodes_after cs nodes) (history_after cs nodes h)
unfolding nodes_after history_after AllIn
begun-stands mode n cs nodes h all (at_beginning w e) = stands_after mode n cs nodes h all w
begun-stands mode n (c ∷ cs) nodes h all (by_a_run l d e) =
    stands_after mode n cs (left c nodes) (history_of c nodes h) all.1
    (subst (Stands mode n (left c nodes)) (sym (unless-done (status c nodes) (accepted c.task c.bytes nodes h) _ e))
    (first_run mode n c.mode (all.0 e) nodes c.task c.count c.room h c.bytes l d e))

pub over_calls : (mode n : ℕ) → OverCalls mode n
over_calls mode n nodes h cs all b =
    record { stands = begun-stands mode n cs nodes h all b; claims = demand3 (in_mode mode n) 0 (history_after cs nodes h).founding }
