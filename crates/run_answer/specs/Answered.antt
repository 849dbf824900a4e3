-- How a call on a row is worked out on values.
-- Assumes nothing.
use Rattle.std.specs.Prelude.{◌≡◌, true, cond, Option, List, ℕ, ◌≤◌, leb, length}
use Rattle.state.specs.declared.Node.{Node}
use Rattle.rules.specs.declared.Config.{Config}
use Rattle.rules.specs.OneCycle.{wrong_mode, in_mode}
use Rattle.rules.specs.Faults.{founding}
use Rattle.table.specs.Records.{count_at, founding_at}
use Rattle.table.specs.Table.{table_of}
use Rattle.cluster_states.specs.declared.States.{States}
use Rattle.cluster_states.specs.States.{row_of}
use Rattle.row.specs.Row.{nodes_of}
use Rattle.row.specs.Gathered.{nothing_of, gathered}

-- N as the entries of a row hold it; 0 for a number that no cluster has
unfoldable pub count_byte : ℕ → ℕ
count_byte n = cond (leb n 64) n 0

-- g is what was gathered of a row with these entries, for a cluster of n
abbrev pub GatheredFrom : ℕ → Option States → ℕ → List Node → Type 0
GatheredFrom n g len nodes = (length nodes ≡ len) × (g ≡ gathered (count_byte n) nothing_of 0 nodes)

-- what a run on a row of so many entries answers: 2 for the mode comes before the table's own order
abbrev pub ran_status : (mode entries : ℕ) → List ℕ → ℕ
ran_status mode entries s = cond (wrong_mode mode) 2 (table_of true entries s).cycles.refusal

-- the cluster C and its states, at the beginning of the table s
abbrev pub BeginsTable : ℕ → List ℕ → Config → States → Type 0
BeginsTable mode s C states = (12 ≤ length s) × (C ≡ in_mode mode (count_at s)) × (row_of (count_at s) states ≡ founding (count_at s) 0 (founding_at s))

-- the states s of n nodes are those of a row of so many entries
abbrev pub Leaves : ℕ → States → ℕ → List Node → Type 0
Leaves n s len nodes = (n ≡ len) × (n ≤ 64) × (nodes_of n (row_of n s) ≡ nodes)
