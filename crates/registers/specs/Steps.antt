-- Request 1: "A step is a read, a write, a cycle, or a write and a cycle together, the write first.": what a step does to the plain machine, and what the entry of a
-- step answers and leaves of a lent block.
-- Assumes nothing.
use Rattle.std.specs.Prelude.{Bool, true, false, not, ◌&&◌, ◌||◌, cond, List, [], ◌∷◌, ℕ, eqb, ltb}
use Rattle.std.proofs.Math.Option.{Option, none, some}
use Rattle.sets.specs.Sets.{has}
use Rattle.state.specs.declared.State.{State}
use Rattle.state.specs.declared.State.TheVariants.{Out, Joining, Member}
use Rattle.state.specs.declared.Node.{Node}
use Rattle.state.specs.State.{halted}
use Rattle.refusal.specs.Refusal.{when, first, unless}
use Rattle.rules.specs.OneCycle.{wrong_mode, quiet_in}
use Rattle.entry_lent.specs.Refusals.{wrong_length}
use Rattle.entry_stop_start.specs.StopStart.{stopped_and_started}
use Rattle.entry_decide.specs.Decide.{decision}
use Rattle.registers.specs.Block.{Flags, Machine, LentBlock, Holds, WrongLength, Malformed, flags_in, block_of, shown, registers_at}

-- Each in a mode. A cycle takes what `gm_decide` takes: what was heard with join 0 and 1, and with a request, the vote buffer, and whose votes arrived.
pub data Step : Type 0 where
  Read : (mode address : ℕ) → Step
  Write : (mode address value : ℕ) → Step
  Cycle : (mode heard0 heard1 requests : ℕ) (votes : List ℕ) (arrived : ℕ) → Step
  WriteCycle : (mode address value heard0 heard1 requests : ℕ) (votes : List ℕ) (arrived : ℕ) → Step

abbrev pub mode_of : Step → ℕ
mode_of (Read mode a) = mode
mode_of (Write mode a v) = mode
mode_of (Cycle mode heard0 heard1 requests votes arrived) = mode
mode_of (WriteCycle mode a v heard0 heard1 requests votes arrived) = mode

-- ---- what a step does to the machine

-- "A one written to a flag clears it, a zero does nothing."
abbrev pub cleared : ℕ → Flags → Flags
cleared v f = record { changed = f.changed && not (has 0 v); halted = f.halted && not (has 1 v); entered = f.entered && not (has 2 v) }

-- "Byte 27 takes commands: 1 stop, 2 start, done with the write as rule 1 says and raising no flag; other values do nothing"
abbrev pub commanded : ℕ → Node → Node
commanded v n = cond (eqb v 1) (stopped_and_started true false n) (cond (eqb v 2) (stopped_and_started false true n) n)

-- by address; "Writes to bytes 0 to 23 and to 26 do nothing. .. Bytes 28 to 63 .. ignore writes."
unfoldable pub written : ℕ → ℕ → Machine → Machine
written a v m =
    cond (eqb a 24) (record { node = m.node; flags = cleared v m.flags; enables = m.enables })
    (cond (eqb a 25) (record { node = m.node; flags = m.flags; enables = flags_in v })
    (cond (eqb a 27) (record { node = commanded v m.node; flags = m.flags; enables = m.enables }) m))

-- "bit 0 the set changed in a cycle in which the node stayed a member"
abbrev pub changed_by : State → State → Bool
changed_by (Out r) t = false
changed_by Joining t = false
changed_by (Member g a) (Out r) = false
changed_by (Member g a) Joining = false
changed_by (Member g a) (Member h b) = not (eqb g.set h.set)

-- "bit 1 halted": by rule 5, or because others decided without it; a stop is neither
abbrev pub halted_by : State → State → Bool
halted_by (Out r) t = false
halted_by Joining t = false
halted_by (Member g a) t = halted t

-- "bit 2 entered": by rule 6
abbrev pub entered_by : State → State → Bool
entered_by (Out r) t = false
entered_by Joining (Out r) = false
entered_by Joining Joining = false
entered_by Joining (Member h b) = true
entered_by (Member g a) t = false

-- what a cycle raises that finds a node in state s and leaves it in state t
unfoldable pub raised_by : State → State → Flags
raised_by s t = record { changed = changed_by s t; halted = halted_by s t; entered = entered_by s t }

-- flags stay set until they are cleared
abbrev pub raised : Flags → Flags → Flags
raised f g = record { changed = f.changed || g.changed; halted = f.halted || g.halted; entered = f.entered || g.entered }

-- the rest of a cycle, as `gm_decide` has it
abbrev pub decided_node : Bool → ℕ → ℕ → ℕ → List ℕ → ℕ → Node → Node
decided_node quiet heard0 heard1 requests votes arrived n =
    record { state = decision quiet n n.state heard0 heard1 requests votes arrived; id = n.id; nodes = n.nodes }

unfoldable pub cycled : Bool → ℕ → ℕ → ℕ → List ℕ → ℕ → Machine → Machine
cycled quiet heard0 heard1 requests votes arrived m =
    let n = decided_node quiet heard0 heard1 requests votes arrived m.node in
    record { node = n; flags = raised m.flags (raised_by m.node.state n.state); enables = m.enables }

-- "A flag raised in the same step as it is cleared stays set."
abbrev pub stepped : Step → Machine → Machine
stepped (Read mode a) m = m
stepped (Write mode a v) m = written a v m
stepped (Cycle mode heard0 heard1 requests votes arrived) m = cycled (quiet_in mode) heard0 heard1 requests votes arrived m
stepped (WriteCycle mode a v heard0 heard1 requests votes arrived) m = cycled (quiet_in mode) heard0 heard1 requests votes arrived (written a v m)

abbrev pub read_in : Step → Machine → Option ℕ
read_in (Read mode a) m = some (shown m a)
read_in (Write mode a v) m = none
read_in (Cycle mode heard0 heard1 requests votes arrived) m = none
read_in (WriteCycle mode a v heard0 heard1 requests votes arrived) m = none

-- ---- what is refused

-- "14 when an address above 63 is read or written, looked at after 4."
abbrev pub wrong_address : Step → Bool
wrong_address (Read mode a) = ltb 63 a
wrong_address (Write mode a v) = ltb 63 a
wrong_address (Cycle mode heard0 heard1 requests votes arrived) = false
wrong_address (WriteCycle mode a v heard0 heard1 requests votes arrived) = ltb 63 a

-- "3: a lent buffer of another length than named here"
abbrev pub wrong_votes : Step → Bool
wrong_votes (Read mode a) = false
wrong_votes (Write mode a v) = false
wrong_votes (Cycle mode heard0 heard1 requests votes arrived) = wrong_length 1792 votes
wrong_votes (WriteCycle mode a v heard0 heard1 requests votes arrived) = wrong_length 1792 votes

-- a block of 64 bytes that is none
abbrev pub malformed_block : LentBlock → Bool
malformed_block (Holds m) = false
malformed_block WrongLength = false
malformed_block Malformed = true

-- what a step finds in a lent block
abbrev pub found_by : Step → List ℕ → LentBlock
found_by t s = registers_at (quiet_in (mode_of t)) s

unfoldable pub step_status : Step → List ℕ → ℕ
step_status t s =
    first
    (when (wrong_mode (mode_of t)) 2
    ∷ when (wrong_length 64 s || wrong_votes t) 3
    ∷ when (malformed_block (found_by t s)) 4
    ∷ when (wrong_address t) 14
    ∷ [])

-- ---- what is left, and what is read

abbrev pub left_in : Step → LentBlock → List ℕ → List ℕ
left_in t (Holds m) s = block_of (stepped t m)
left_in t WrongLength s = s
left_in t Malformed s = s

unfoldable pub step_left : Step → List ℕ → List ℕ
step_left t s = unless (step_status t s) (left_in t (found_by t s) s) s

abbrev pub read_at : Step → LentBlock → Option ℕ
read_at t (Holds m) = read_in t m
read_at t WrongLength = none
read_at t Malformed = none

-- the byte that a step reads: none if it is refused, or no read
unfoldable pub step_read : Step → List ℕ → Option ℕ
step_read t s = unless (step_status t s) (read_at t (found_by t s)) none

-- the lent result, as it came in where nothing is read
abbrev pub result_of : Option ℕ → ℕ → ℕ
result_of none before = before
result_of (some byte) before = byte

unfoldable pub step_value : Step → List ℕ → ℕ → ℕ
step_value t s before = result_of (step_read t s) before
