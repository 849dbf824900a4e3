-- Paper 01, "Faults": "Run through frames, a lost or missed one is absent on both channels." The bus that a fault record makes, and the cycle on it.
-- Assumes nothing.
use Rattle.std.specs.Prelude.{Bool, true, false, List, [], ℕ}
use Rattle.std.proofs.Math.Option.{Option, none, some}
use Rattle.rules.specs.declared.Faults.{Faults}
use Rattle.rules.specs.declared.Config.{Config}
use Rattle.rules.specs.Faults.{Row, at, rule_one, heartbeat_reaches, vote_reaches}
use Rattle.frames.specs.Written.{run_drive}
use Rattle.bus_units.specs.Units.{Copies, Bus, heartbeat_sent, vote_sent, units_cycle}

-- the bytes of a frame; none where nothing is sent
abbrev pub present : Option (List ℕ) → List ℕ
present none = []
present (some x) = x

-- the frame as written where it reaches, nothing where not
abbrev pub copy_if : Bool → Option (List ℕ) → List ℕ
copy_if true sent = present sent
copy_if false sent = []

-- "its heartbeats have sync and startup 0"; `drive` are the drive bytes that each unit has, r is the row after rule 1
unfoldable pub heartbeats_of : (drive : ℕ → List ℕ) → (count : ℕ) → Faults → Row → Copies
heartbeats_of drive count c r p q channel = copy_if (heartbeat_reaches c p q) (heartbeat_sent 0 0 (drive p) count p (at r p) channel)

-- the votes, by the heartbeats h that were heard
unfoldable pub votes_of : Config → (count : ℕ) → Faults → Row → Copies → Copies
votes_of C count c r h p q channel = copy_if (vote_reaches c p q) (vote_sent C count h p (at r p) channel)

unfoldable pub bus_with : (drive : ℕ → List ℕ) → Config → (count : ℕ) → Faults → Row → Bus
bus_with drive C count c row =
    let r = rule_one C.nodes c row in
    let h = heartbeats_of drive count c r in
    record { heartbeats = h; votes = votes_of C count c r h }

-- that of a run
unfoldable pub bus_of : Config → (count : ℕ) → Faults → Row → Bus
bus_of = bus_with (λ p. run_drive)

unfoldable pub framed_cycle : Config → (count : ℕ) → Faults → Row → Row
framed_cycle C count c row = units_cycle C count (bus_of C count c row) c row
