-- What the entry that sends a heartbeat from a state answers and leaves.
-- Assumes nothing.
use Rattle.std.specs.Prelude.{Bool, ◌||◌, cond, List, ◌∷◌, ℕ, ◌+◌, eqb, length, Result, Ok, Err}
use Rattle.state.specs.declared.State.{State}
use Rattle.state.specs.declared.State.TheVariants.{Out, Joining, Member}
use Rattle.state.specs.declared.Node.{Node}
use Rattle.state.specs.Image.{decoded}
use Rattle.rules.specs.OneCycle.{wrong_mode, quiet_in, sends_join, asks}
use Rattle.frames.specs.Written.{heartbeat_frame, wrong_drive}
use Rattle.refusal.specs.declared.Refusal.{Refusal}
use Rattle.refusal.specs.Refusal.{when, first, unless}
use Rattle.entry_lent.specs.Refusals.{wrong_cycle, wrong_channel, wrong_indicators, lent_conditions}

-- "a member sends one with join 0, a joining node with join 1, an out node nothing"

-- refusal 2; request 3, of a mode: "any other number is refused with 2"
abbrev pub wrong_sending : ℕ → ℕ → ℕ → ℕ → ℕ → Bool
wrong_sending mode sync startup cycle channel = wrong_mode mode || (wrong_indicators sync startup || wrong_cycle cycle || wrong_channel channel)

-- d are the drive bytes, f is the lent frame. Request 2: "Drive bytes to be written, if odd in number or above 252, give 3."
unfoldable pub send_heartbeat_status : ℕ → List ℕ → ℕ → ℕ → ℕ → ℕ → List ℕ → List ℕ → ℕ
send_heartbeat_status mode s sync startup cycle channel d f =
    first
    (when (wrong_sending mode sync startup cycle channel) 2
    ∷ when (wrong_drive d) 3
    ∷ lent_conditions (quiet_in mode) s (10 + length d) f)

abbrev pub sends_byte : State → ℕ
sends_byte (Out r) = 0
sends_byte Joining = 1
sends_byte (Member g a) = 1

abbrev pub join_bit : State → ℕ
join_bit s = cond (sends_join s) 1 0

-- request 3: "In a quiet press bit 6 of a heartbeat's first byte becomes a request."
abbrev pub request_bit : State → ℕ
request_bit s = cond (asks s) 1 0

-- whether a frame is sent, and the frame
abbrev pub sent_of : Result Node Refusal → ℕ
sent_of (Ok n) = sends_byte n.state
sent_of (Err r) = 0

abbrev pub heartbeat_of : Node → ℕ → ℕ → ℕ → ℕ → List ℕ → List ℕ → List ℕ
heartbeat_of n sync startup cycle channel d f =
    cond (eqb (sends_byte n.state) 1) (heartbeat_frame n.id (join_bit n.state) (request_bit n.state) sync startup cycle channel d) f

abbrev pub heartbeat_from : Result Node Refusal → ℕ → ℕ → ℕ → ℕ → List ℕ → List ℕ → List ℕ
heartbeat_from (Ok n) sync startup cycle channel d f = heartbeat_of n sync startup cycle channel d f
heartbeat_from (Err r) sync startup cycle channel d f = f

unfoldable pub send_heartbeat_left : ℕ → List ℕ → ℕ → ℕ → ℕ → ℕ → List ℕ → List ℕ → List ℕ
send_heartbeat_left mode s sync startup cycle channel d f =
    unless (send_heartbeat_status mode s sync startup cycle channel d f) (heartbeat_from (decoded (quiet_in mode) s) sync startup cycle channel d f) f

unfoldable pub send_heartbeat_sent : ℕ → List ℕ → ℕ → ℕ → ℕ → ℕ → List ℕ → List ℕ → ℕ → ℕ
send_heartbeat_sent mode s sync startup cycle channel d f sent =
    unless (send_heartbeat_status mode s sync startup cycle channel d f) (sent_of (decoded (quiet_in mode) s)) sent
