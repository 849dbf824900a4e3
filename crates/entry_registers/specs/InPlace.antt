-- What a write and a cycle do to the bytes of a block, as the code does it, in place.
-- Assumes nothing.
use Rattle.std.specs.Prelude.{Bool, cond, List, ◌++◌, ℕ, eqb, get_or, take, drop}
use Rattle.sets.specs.Sets.{◌∪◌}
use Rattle.state.specs.declared.State.{State}
use Rattle.state.specs.declared.Node.{Node}
use Rattle.state.specs.Image.{image_of}
use Rattle.rules.specs.OneCycle.{wrong_mode, quiet_in}
use Rattle.entry_stop_start.specs.StopStart.{stop_left, start_left}
use Rattle.entry_decide.specs.Decide.{decision}
use Rattle.registers.specs.Block.{LentBlock, Holds, WrongLength, Malformed, flags_byte, registers_at}
use Rattle.registers.specs.Steps.{raised_by}
use Rattle.register_block.specs.Bytes.{with_flags, flags_after, enables_after}

-- 3 and 4 of a lent block, its state too
abbrev pub block_status : LentBlock → ℕ
block_status (Holds m) = 0
block_status WrongLength = 3
block_status Malformed = 4

-- 2 of a mode comes before these
abbrev pub refusal_of : ℕ → List ℕ → ℕ
refusal_of mode s = cond (wrong_mode mode) 2 (block_status (registers_at (quiet_in mode) s))

-- a command, on the state in the block
abbrev pub command_left : ℕ → ℕ → List ℕ → List ℕ
command_left mode v s = cond (eqb v 1) (stop_left mode (take 24 s)) (cond (eqb v 2) (start_left mode (take 24 s)) (take 24 s)) ++ drop 24 s

-- a write
unfoldable pub write_left : ℕ → ℕ → ℕ → List ℕ → List ℕ
write_left mode a v s =
    let t = with_flags (flags_after a v (get_or s 24 0)) (enables_after a v (get_or s 25 0)) s in
    cond (eqb a 27) (command_left mode v t) t

-- the state t of node n after a cycle, where these flags and enables stand before it
abbrev pub cycled_left : Node → State → ℕ → ℕ → List ℕ → List ℕ
cycled_left n t flags enables s = with_flags (flags ∪ flags_byte (raised_by n.state t)) enables (image_of (record { state = t; id = n.id; nodes = n.nodes }) ++ drop 24 s)

unfoldable pub cycle_left : Bool → Node → ℕ → ℕ → ℕ → ℕ → ℕ → List ℕ → ℕ → List ℕ → List ℕ
cycle_left quiet n flags enables heard0 heard1 requests votes arrived s = cycled_left n (decision quiet n n.state heard0 heard1 requests votes arrived) flags enables s
