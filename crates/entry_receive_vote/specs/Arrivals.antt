-- What the entries for votes that arrive answer and leave.
-- Assumes nothing.
use Rattle.std.specs.Prelude.{Option, None, Some, Result, Ok, Err, ◌||◌, cond, List, [], ◌∷◌, ℕ, eqb}
use Rattle.sets.specs.Sets.{single, ◌∪◌, ◌∖◌}
use Rattle.rules.specs.declared.Vote.{Vote}
use Rattle.frames.specs.declared.Fault.{Fault}
use Rattle.frames.specs.Written.{vote_payload}
use Rattle.frames.specs.Read.{fault_code, read_vote, receive_vote}
use Rattle.refusal.specs.Refusal.{when, first, unless}
use Rattle.entry_slots.specs.Slots.{with_slot}
use Rattle.entry_lent.specs.Refusals.{wrong_count, wrong_node, wrong_cycle, wrong_channel, wrong_length}

-- ---- reading one copy, to the 28 bytes of its payload

unfoldable pub read_vote_numbers : ℕ → ℕ → ℕ → ℕ → List ℕ → ℕ
read_vote_numbers n q cycle channel out =
    first (when (wrong_count n) 1 ∷ when (wrong_node n q || wrong_cycle cycle || wrong_channel channel) 2 ∷ when (wrong_length 28 out) 3 ∷ [])

abbrev pub vote_refusal : Result Vote Fault → ℕ
vote_refusal (Ok v) = 0
vote_refusal (Err f) = fault_code f

abbrev pub payload_or : Result Vote Fault → List ℕ → List ℕ
payload_or (Ok v) out = vote_payload v
payload_or (Err f) out = out

unfoldable pub read_vote_status : ℕ → ℕ → ℕ → ℕ → List ℕ → List ℕ → ℕ
read_vote_status n q cycle channel f out =
    let k = read_vote_numbers n q cycle channel out in
    cond (eqb k 0) (vote_refusal (read_vote n q cycle channel f)) k

unfoldable pub read_vote_left : ℕ → ℕ → ℕ → ℕ → List ℕ → List ℕ → List ℕ
read_vote_left n q cycle channel f out = unless (read_vote_numbers n q cycle channel out) (payload_or (read_vote n q cycle channel f) out) out

-- ---- receiving on both channels, into the slot of the sender: "Arrived votes are lent as 1,792 bytes, 28 per node, with a mask"

unfoldable pub receive_vote_status : ℕ → ℕ → ℕ → List ℕ → ℕ
receive_vote_status n q cycle votes =
    first (when (wrong_count n) 1 ∷ when (wrong_node n q || wrong_cycle cycle) 2 ∷ when (wrong_length 1792 votes) 3 ∷ [])

abbrev pub slot_or : Option Vote → ℕ → List ℕ → List ℕ
slot_or None q votes = votes
slot_or (Some v) q votes = with_slot q (vote_payload v) votes

-- the sender's bit says whether its vote arrived
abbrev pub arrived_or : Option Vote → ℕ → ℕ → ℕ
arrived_or None q arrived = arrived ∖ single q
arrived_or (Some v) q arrived = single q ∪ arrived

abbrev pub received_vote : ℕ → ℕ → ℕ → List ℕ → List ℕ → Option Vote
received_vote n q cycle a b = receive_vote (read_vote n q cycle 0 a) (read_vote n q cycle 1 b)

unfoldable pub receive_vote_left : ℕ → ℕ → ℕ → List ℕ → List ℕ → List ℕ → List ℕ
receive_vote_left n q cycle a b votes = unless (receive_vote_status n q cycle votes) (slot_or (received_vote n q cycle a b) q votes) votes

unfoldable pub receive_vote_arrived : ℕ → ℕ → ℕ → List ℕ → List ℕ → List ℕ → ℕ → ℕ
receive_vote_arrived n q cycle a b votes arrived =
    unless (receive_vote_status n q cycle votes) (arrived_or (received_vote n q cycle a b) q arrived) arrived
