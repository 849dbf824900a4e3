-- Paper 01, "Over what does demand 3 run?": the history of a row under a list of calls, and what is promised of it.
-- Assumes nothing.
use Rattle.std.specs.Prelude.{◌≡◌, ◌≢◌, true, List, [], ◌∷◌, ◌++◌, ℕ, length}
use Rattle.refusal.specs.Refusal.{unless}
use Rattle.sets.specs.Sets.{below}
use Rattle.state.specs.declared.Node.{Node}
use Rattle.rules.specs.declared.Faults.{Faults}
use Rattle.rules.specs.OneCycle.{in_mode}
use Rattle.rules.specs.Faults.{Row}
use Rattle.theorem_agreement.specs.Demand3.{Demand3, cluster_after}
use Rattle.table.specs.Records.{faults_at}
use Rattle.table.specs.Table.{Table, table_of}
use Rattle.row.specs.Row.{nodes_of}
use Rattle.row_calls.specs.declared.Task.{Task}
use Rattle.row_calls.specs.declared.Task.TheVariants.{Cycle, Run, FramedRun}
use Rattle.row_calls.specs.Calls.{call_status, call_left}

-- a call: what it is to do, N where it is given as a number, the mode, how many bytes are lent for frames, and the record or table
pub record Call : Type 0 where
  pub task : Task
  pub count : ℕ
  pub mode : ℕ
  pub room : ℕ
  pub bytes : List ℕ

abbrev pub status : Call → List Node → ℕ
status c nodes = call_status c.task c.count c.mode nodes c.room c.bytes

abbrev pub left : Call → List Node → List Node
left c nodes = call_left c.task c.count c.mode nodes c.room c.bytes

-- the history of a row: the founding set of its beginning, and the cycles in force since
pub record History : Type 0 where
  pub founding : ℕ
  pub cycles : List Faults

-- "the beginning and its table's cycles"
abbrev pub tabled : Table → History
tabled t = record { founding = t.founding; cycles = t.cycles.whole }

-- "A single cycle adds one cycle .. An accepted run puts the beginning and its table's cycles in place of all before."
abbrev pub accepted : Task → List ℕ → List Node → History → History
accepted Cycle s nodes h = record { founding = h.founding; cycles = h.cycles ++ (faults_at s ∷ []) }
accepted Run s nodes h = tabled (table_of true (length nodes) s)
accepted FramedRun s nodes h = tabled (table_of true (length nodes) s)

-- "and a refused call none"
abbrev pub history_of : Call → List Node → History → History
history_of c nodes h = unless (status c nodes) (accepted c.task c.bytes nodes h) h

-- "each call gets it as the last one left it, and nobody else writes it meanwhile"
unfoldable pub nodes_after : List Call → List Node → List Node
nodes_after [] nodes = nodes
nodes_after (c ∷ cs) nodes = nodes_after cs (left c nodes)

unfoldable pub history_after : List Call → List Node → History → History
history_after [] nodes h = h
history_after (c ∷ cs) nodes h = history_after cs (left c nodes) (history_of c nodes h)

-- "All nodes of a press are in the same mode, fixed per press from the beginning on": every call of the list that is accepted has it; a refused one may have any
unfoldable pub AllIn : (mode : ℕ) → List Call → List Node → Type 0
AllIn mode [] nodes = Unit {0}
AllIn mode (c ∷ cs) nodes = (status c nodes ≡ 0 → c.mode ≡ mode) × AllIn mode cs (left c nodes)

-- "the states that the rules give from that beginning through those cycles"
abbrev pub ruled : (mode n : ℕ) → History → Row
ruled mode n h = (cluster_after (in_mode mode n) 0 h.founding h.cycles).row

-- "the row holds" them; n is the number of its entries
pub record Stands (mode n : ℕ) (nodes : List Node) (h : History) : Type 0 where
  pub holds : nodes ≡ nodes_of n (ruled mode n h)
  pub founders : below n h.founding ≡ h.founding

-- "Before the first, unless that is an accepted run, the row stands at the beginning for some founding set"; before a run it may be any row of n entries
pub data Begun (mode n : ℕ) (nodes : List Node) (h : History) : List Call → Type 0 where
  at_beginning : {cs : List Call} → Stands mode n nodes h → h.cycles ≡ [] → Begun mode n nodes h cs
  by_a_run : {c : Call} {cs : List Call} → length nodes ≡ n → c.task ≢ Cycle → status c nodes ≡ 0 → Begun mode n nodes h (c ∷ cs)

-- What is promised of a row with its history: that it stands, and demand 3 of its beginning. "Demand 3 speaks of the states after every one of the cycles,
-- those inside a run too": Demand3 is about the cluster after every list of cycles, and so after the history's first cycle, its first two, and all of them.
pub record Promised (mode n : ℕ) (nodes : List Node) (h : History) : Type 0 where
  pub stands : Stands mode n nodes h
  pub claims : Demand3 (in_mode mode n) 0 h.founding

-- Demand 3, "one claim about the whole list", on a row of n entries: lists are of any length, so it is said after each call of a list.
abbrev pub OverCalls : (mode n : ℕ) → Type 0
OverCalls mode n =
    (nodes : List Node) (h : History) (cs : List Call) → AllIn mode cs nodes → Begun mode n nodes h cs → Promised mode n (nodes_after cs nodes) (history_after cs nodes h)
