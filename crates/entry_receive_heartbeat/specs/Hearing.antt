-- What the entries for heartbeats that come in answer and leave.
-- Assumes nothing.
use Rattle.std.specs.Prelude.{Option, None, Some, Result, Ok, Err, ◌||◌, cond, List, [], ◌∷◌, ℕ, eqb, length}
use Rattle.parts.specs.Parts.{at_front}
use Rattle.rules.specs.OneCycle.{wrong_mode, quiet_in}
use Rattle.frames.specs.declared.Fault.{Fault}
use Rattle.frames.specs.declared.Heartbeat.{Heartbeat}
use Rattle.frames.specs.declared.Heartbeat.TheVariants.{Alive, Join, Request}
use Rattle.frames.specs.Read.{fault_code, drive_of, read_heartbeat, join_of, request_of, receive_heartbeat, heard_in, drive_heard}
use Rattle.refusal.specs.Refusal.{when, first, unless}
use Rattle.entry_lent.specs.Refusals.{wrong_count, wrong_node, wrong_cycle, wrong_channel, wrong_length}

-- Request 2: "Reading a heartbeat gives the join bit, the number of drive bytes, and these at the front of a lent buffer of 252 bytes; the rest of it, or all if the frame is
-- missed, stays as it came in."

-- ---- reading one copy f; d is the lent buffer. Request 3, of a mode: "any other number is refused with 2".

unfoldable pub read_status : ℕ → ℕ → ℕ → ℕ → ℕ → List ℕ → ℕ
read_status n mode q cycle channel d =
    first
    (when (wrong_count n) 1
    ∷ when (wrong_mode mode || (wrong_node n q || wrong_cycle cycle || wrong_channel channel)) 2
    ∷ when (wrong_length 252 d) 3
    ∷ [])

abbrev pub heartbeat_refusal : Result Heartbeat Fault → ℕ
heartbeat_refusal (Ok h) = 0
heartbeat_refusal (Err f) = fault_code f

unfoldable pub read_heartbeat_status : ℕ → ℕ → ℕ → ℕ → ℕ → List ℕ → List ℕ → ℕ
read_heartbeat_status n mode q cycle channel f d =
    let k = read_status n mode q cycle channel d in
    cond (eqb k 0) (heartbeat_refusal (read_heartbeat (quiet_in mode) q cycle channel f)) k

unfoldable pub read_heartbeat_join : ℕ → ℕ → ℕ → ℕ → ℕ → List ℕ → List ℕ → ℕ → ℕ
read_heartbeat_join n mode q cycle channel f d join =
    unless (read_heartbeat_status n mode q cycle channel f d) (join_of (read_heartbeat (quiet_in mode) q cycle channel f)) join

-- request 3: "In a quiet press bit 6 of a heartbeat's first byte becomes a request."
unfoldable pub read_heartbeat_request : ℕ → ℕ → ℕ → ℕ → ℕ → List ℕ → List ℕ → ℕ → ℕ
read_heartbeat_request n mode q cycle channel f d request =
    unless (read_heartbeat_status n mode q cycle channel f d) (request_of (read_heartbeat (quiet_in mode) q cycle channel f)) request

unfoldable pub read_heartbeat_drive_bytes : ℕ → ℕ → ℕ → ℕ → ℕ → List ℕ → List ℕ → ℕ → ℕ
read_heartbeat_drive_bytes n mode q cycle channel f d bytes = unless (read_heartbeat_status n mode q cycle channel f d) (length (drive_of f)) bytes

unfoldable pub read_heartbeat_drive : ℕ → ℕ → ℕ → ℕ → ℕ → List ℕ → List ℕ → List ℕ
read_heartbeat_drive n mode q cycle channel f d = unless (read_heartbeat_status n mode q cycle channel f d) (at_front (drive_of f) d) d

-- ---- receiving the copies a and b on both channels: 0 missed, 1 a member's, 2 a joining node's, 3 that of a member that requests; missed, there are no drive bytes

abbrev pub heard_code : Option Heartbeat → ℕ
heard_code None = 0
heard_code (Some Alive) = 1
heard_code (Some Join) = 2
heard_code (Some Request) = 3

unfoldable pub receive_heartbeat_status : ℕ → ℕ → ℕ → ℕ → List ℕ → ℕ
receive_heartbeat_status n mode q cycle d =
    first (when (wrong_count n) 1 ∷ when (wrong_mode mode || (wrong_node n q || wrong_cycle cycle)) 2 ∷ when (wrong_length 252 d) 3 ∷ [])

unfoldable pub receive_heartbeat_heard : ℕ → ℕ → ℕ → ℕ → List ℕ → List ℕ → List ℕ → ℕ → ℕ
receive_heartbeat_heard n mode q cycle a b d heard =
    unless (receive_heartbeat_status n mode q cycle d) (heard_code (heard_in (receive_heartbeat (quiet_in mode) q cycle a b))) heard

unfoldable pub receive_heartbeat_drive_bytes : ℕ → ℕ → ℕ → ℕ → List ℕ → List ℕ → List ℕ → ℕ → ℕ
receive_heartbeat_drive_bytes n mode q cycle a b d bytes = unless (receive_heartbeat_status n mode q cycle d) (length (drive_heard (quiet_in mode) q cycle a b)) bytes

unfoldable pub receive_heartbeat_drive : ℕ → ℕ → ℕ → ℕ → List ℕ → List ℕ → List ℕ → List ℕ
receive_heartbeat_drive n mode q cycle a b d = unless (receive_heartbeat_status n mode q cycle d) (at_front (drive_heard (quiet_in mode) q cycle a b) d) d
