-- A table's cycles run through frames, beside the same by the rules alone; and the frames that the units write in a cycle, lost ones too.
-- Assumes nothing.
use Rattle.std.specs.Prelude.{List, [], ◌∷◌, ◌++◌, ℕ, zero, suc, ◌-◌, ◌*◌, ◌%◌, length, replicate}
use Rattle.std.proofs.Math.Option.{Option}
use Rattle.rules.specs.declared.Faults.{Faults}
use Rattle.rules.specs.declared.Config.{Config}
use Rattle.rules.specs.Faults.{Row, at, rule_one, cycle}
use Rattle.frames.specs.Written.{run_drive}
use Rattle.bus_units.specs.Units.{heartbeat_sent, vote_sent}
use Rattle.bus_units.specs.Faulty.{present, bus_of, framed_cycle}

-- "Cycle n of a run has cycle count n - 1 modulo 64"
abbrev pub cycle_count : (n : ℕ) → ℕ
cycle_count n = (n - 1) % 64

-- the rows after each of the cycles, the first of which is cycle n of the run: through frames, and by the rules
unfoldable pub framed_rows : Config → (n : ℕ) → Row → List Faults → List Row
framed_rows C n row [] = []
framed_rows C n row (c ∷ cs) = let r = framed_cycle C (cycle_count n) c row in r ∷ framed_rows C (suc n) r cs

unfoldable pub plain_rows : Config → Row → List Faults → List Row
plain_rows C row [] = []
plain_rows C row (c ∷ cs) = let r = cycle C c row in r ∷ plain_rows C r cs

-- the last of them; `row` where there is none
unfoldable pub last_row : Row → List Row → Row
last_row row [] = row
last_row row (r ∷ rs) = last_row r rs

-- ---- the frames of a cycle: on a channel a slot of 36 bytes for each of 64 units, its frame at the front and zeros behind it, all zeros where it sent none

abbrev pub padded : Option (List ℕ) → List ℕ
padded sent = present sent ++ replicate (36 - length (present sent)) 0

unfoldable pub in_slots : ℕ → (ℕ → Option (List ℕ)) → List ℕ
in_slots zero sent = []
in_slots (suc n) sent = in_slots n sent ++ padded (sent n)

unfoldable pub heartbeats_shown : Config → (count : ℕ) → Faults → Row → (channel : ℕ) → List ℕ
heartbeats_shown C count c row channel = in_slots 64 (λ q. heartbeat_sent 0 0 run_drive count q (at (rule_one C.nodes c row) q) channel)

unfoldable pub votes_shown : Config → (count : ℕ) → Faults → Row → (channel : ℕ) → List ℕ
votes_shown C count c row channel =
    in_slots 64 (λ q. vote_sent C count (bus_of C count c row).heartbeats q (at (rule_one C.nodes c row) q) channel)

-- heartbeats on A and on B, votes on A and on B
unfoldable pub frames_shown : Config → (count : ℕ) → Faults → Row → List ℕ
frames_shown C count c row = heartbeats_shown C count c row 0 ++ (heartbeats_shown C count c row 1 ++ (votes_shown C count c row 0 ++ votes_shown C count c row 1))

-- the number of these bytes
abbrev pub frames_length : ℕ
frames_length = 4 * (64 * 36)

-- lent frames after the cycles, the first of which is cycle n: those of the last one, and as they came in where there is none
unfoldable pub frames_after : Config → (n : ℕ) → Row → List Faults → List ℕ → List ℕ
frames_after C n row [] before = before
frames_after C n row (c ∷ cs) before = frames_after C (suc n) (framed_cycle C (cycle_count n) c row) cs (frames_shown C (cycle_count n) c row)
