-- What the entry for a heartbeat from numbers answers and leaves.
-- Assumes nothing.
use Rattle.std.specs.Prelude.{Bool, ◌||◌, List, [], ◌∷◌, ℕ, ◌+◌, length}
use Rattle.rules.specs.OneCycle.{wrong_mode, quiet_in}
use Rattle.frames.specs.Written.{heartbeat_frame, wrong_drive, wrong_request}
use Rattle.refusal.specs.Refusal.{when, first, unless}
use Rattle.entry_lent.specs.Refusals.{wrong_count, wrong_node, wrong_cycle, wrong_channel, wrong_bit, wrong_indicators, wrong_length}

-- Refusal 2. Request 3: "a request to be written that is neither 0 nor 1 gives 2"; of a mode "any other number is refused with 2"
abbrev pub wrong_numbers : ℕ → ℕ → ℕ → ℕ → ℕ → ℕ → ℕ → ℕ → ℕ → Bool
wrong_numbers n mode q join request sync startup cycle channel =
    wrong_mode mode || wrong_bit join || wrong_bit request || wrong_indicators sync startup || (wrong_node n q || wrong_cycle cycle || wrong_channel channel)

-- d are the drive bytes, f is the lent frame. Request 2: "Drive bytes to be written, if odd in number or above 252, give 3." Request 3: of a request "to be written,
-- it gives 10 together with the join bit, and in mode 0 also alone".
unfoldable pub write_heartbeat_status : ℕ → ℕ → ℕ → ℕ → ℕ → ℕ → ℕ → ℕ → ℕ → List ℕ → List ℕ → ℕ
write_heartbeat_status n mode q join request sync startup cycle channel d f =
    first
    (when (wrong_count n) 1
    ∷ when (wrong_numbers n mode q join request sync startup cycle channel) 2
    ∷ when (wrong_drive d || wrong_length (10 + length d) f) 3
    ∷ when (wrong_request (quiet_in mode) join request) 10
    ∷ [])

unfoldable pub write_heartbeat_left : ℕ → ℕ → ℕ → ℕ → ℕ → ℕ → ℕ → ℕ → ℕ → List ℕ → List ℕ → List ℕ
write_heartbeat_left n mode q join request sync startup cycle channel d f =
    unless (write_heartbeat_status n mode q join request sync startup cycle channel d f) (heartbeat_frame q join request sync startup cycle channel d) f
