-- The units of a press, each of which calls the entries for one node: the calls of one unit in a cycle, a cycle of all units, and cycles one after the other.
-- Assumes nothing.
use Rattle.std.specs.Prelude.{◌≡◌, ◌⊎◌, Bool, true, false, ◌&&◌, ◌||◌, List, [], ◌∷◌, ℕ, suc, ◌<◌, eqb, get_or}
use Rattle.sets.specs.Sets.{has}
use Rattle.rules.specs.declared.Faults.{Faults}
use Rattle.rules.specs.OneCycle.{quiet_in, in_mode}
use Rattle.rules.specs.Faults.{Row, heartbeat_reaches, vote_reaches, cycle}
use Rattle.bus_units.specs.Units.{Bus}
use Rattle.bus_units.specs.Carried.{Came, HeartbeatRefused, VoteRefused}
use Rattle.bus_units.specs.Recorded.{record_of}
use Rattle.theorem_unit_calls.specs.Entries.{Frame, Entries}

-- ---- one unit

-- Rule 1: unit q of n calls `gm_stop` where it is stopped; or, if it lost its memory, `gm_begin` with a founding set that lacks it, whatever its image was.
pub data Stops (E : Entries) (mode n q : ℕ) : Bool → List ℕ → List ℕ → Type 1 where
  by_stop : {x y : List ℕ} → E.stop mode x y → Stops E mode n q true x y
  by_begin : {x y : List ℕ} (F : ℕ) → has q F ≡ false → E.begin n q F y → Stops E mode n q true x y
  not_stopped : {x : List ℕ} → Stops E mode n q false x x

-- Rule 1: it calls `gm_start` where it is started.
pub data Starts (E : Entries) (mode : ℕ) : Bool → List ℕ → List ℕ → Type 1 where
  by_start : {x y : List ℕ} → E.start mode x y → Starts E mode true x y
  not_started : {x : List ℕ} → Starts E mode false x x

-- calls of `gm_receive_vote` for the given senders, in this order, each on the buffer and the mask as the last one left them
pub data Collected (E : Entries) (n count : ℕ) (copies : ℕ → ℕ → List ℕ) : List ℕ → List ℕ → ℕ → List ℕ → ℕ → Type 1 where
  none : {s : List ℕ} {m : ℕ} → Collected E n count copies [] s m s m
  one_more : {ps s t u : List ℕ} {m k l : ℕ} (p : ℕ) → E.receive_vote n p count (copies p 0) (copies p 1) s m t k → Collected E n count copies ps t k u l
      → Collected E n count copies (p ∷ ps) s m u l

-- p is one of the list
abbrev pub In : ℕ → List ℕ → Type 0
In p [] = ⊥
In p (q ∷ qs) = (p ≡ q) ⊎ In p qs

-- nothing came of a frame on either channel, so that no call is needed
abbrev pub Silent : (ℕ → List ℕ) → Type 0
Silent copies = (copies 0 ≡ []) × (copies 1 ≡ [])

-- the bits of unit p in the masks, by what was heard of it: 1 goes into heard0, 2 into heard1, and 3 into heard0 and into requests
abbrev pub InMasks : (heard p heard0 heard1 requests : ℕ) → Type 0
InMasks heard p heard0 heard1 requests = (has p heard0 ≡ (eqb heard 1 || eqb heard 3)) × (has p heard1 ≡ eqb heard 2) × (has p requests ≡ eqb heard 3)

-- The calls of unit q in a cycle of n units, in the order of the header; `stop` and `start` are who is stopped and who is started, x is its image before, z after.
pub record UnitDone (E : Entries) (mode n count stop start : ℕ) (bus : Bus) (q : ℕ) (x z : List ℕ) : Type 1 where
  pub between : List ℕ
  pub ruled : List ℕ
  pub stops : Stops E mode n q (has q stop) x between
  pub starts : Starts E mode (has q start) between ruled
  -- on each channel, with indicators of its own, and with the same drive bytes on both
  pub drive : List ℕ
  pub sync : ℕ → ℕ
  pub startup : ℕ → ℕ
  pub heartbeat : ℕ → Frame
  pub beats : (channel : ℕ) → channel < 2 → E.send_heartbeat mode ruled (sync channel) (startup channel) count channel drive (heartbeat channel)
  -- For every other unit, in any order: its bits in the masks are what the call answers. Where nothing came and no call was made, those of heard0 and heard1 are clear; a
  -- bit of requests without that of heard0 counts for nothing.
  pub heard0 : ℕ
  pub heard1 : ℕ
  pub requests : ℕ
  pub hears : (p : ℕ) → p < n → eqb p q ≡ false
      → ((heard : ℕ) × E.receive_heartbeat n mode p count (bus.heartbeats p q 0) (bus.heartbeats p q 1) heard × InMasks heard p heard0 heard1 requests)
      ⊎ (Silent (bus.heartbeats p q) × (has p heard0 ≡ false) × (has p heard1 ≡ false))
  pub vote : ℕ → Frame
  pub casts : (channel : ℕ) → channel < 2 → E.send_vote mode ruled heard0 heard1 requests count channel (vote channel)
  -- into a vote buffer of any bytes; for every other unit, in any order, but where nothing came and its bit of the mask was clear
  pub buffer : List ℕ
  pub cleared : ℕ
  pub senders : List ℕ
  pub votes : List ℕ
  pub arrived : ℕ
  pub collects : Collected E n count (λ p. bus.votes p q) senders buffer cleared votes arrived
  pub attends : (p : ℕ) → p < n → eqb p q ≡ false → In p senders ⊎ (Silent (bus.votes p q) × (has p cleared ≡ false))
  -- with the masks of the vote
  pub decides : E.decide mode ruled heard0 heard1 requests votes arrived z

-- A unit's part of a cycle: it makes its calls; or it rests, being out (kind 0) and neither stopped nor started: it makes none and sends nothing, as one that is switched
-- off; or it leaves, being stopped and not started: by `gm_stop`, or by the `gm_begin` with which it will come back if its power failed, and it makes no other call.
pub data Part (E : Entries) (mode n count stop start : ℕ) (bus : Bus) (q : ℕ) (x z : List ℕ) : Type 1 where
  calls : UnitDone E mode n count stop start bus q x z → Part E mode n count stop start bus q x z
  rests : get_or x 0 0 ≡ 0 → has q stop ≡ false → has q start ≡ false → z ≡ x → Part E mode n count stop start bus q x z
  leaves : has q stop ≡ true → has q start ≡ false → Stops E mode n q true x z → Part E mode n count stop start bus q x z

-- ---- all units

-- every unit's part, on one bus; x and z are the units' images before and after
abbrev pub Parts : Entries → (mode n count stop start : ℕ) → Bus → (x z : ℕ → List ℕ) → Type 1
Parts E mode n count stop start bus x z = (q : ℕ) → q < n → Part E mode n count stop start bus q (x q) (z q)

-- the frames that a unit gave for the channels; one that rests or leaves gave none
abbrev pub no_frames : ℕ → Frame
no_frames channel = record { sent = 0; bytes = [] }

abbrev pub beats_written : {E : Entries} {mode n count stop start : ℕ} {bus : Bus} {q : ℕ} {x z : List ℕ} → Part E mode n count stop start bus q x z → ℕ → Frame
beats_written (calls d) = d.heartbeat
beats_written (rests k a b e) = no_frames
beats_written (leaves a b k) = no_frames

abbrev pub votes_written : {E : Entries} {mode n count stop start : ℕ} {bus : Bus} {q : ℕ} {x z : List ℕ} → Part E mode n count stop start bus q x z → ℕ → Frame
votes_written (calls d) = d.vote
votes_written (rests k a b e) = no_frames
votes_written (leaves a b k) = no_frames

-- the drive bytes that it gave with its heartbeats
abbrev pub drive_in : {E : Entries} {mode n count stop start : ℕ} {bus : Bus} {q : ℕ} {x z : List ℕ} → Part E mode n count stop start bus q x z → List ℕ
drive_in (calls d) = d.drive
drive_in (rests k a b e) = []
drive_in (leaves a b k) = []

-- x was written for the channel; and whether there are frames, on both channels alike
abbrev pub Wrote : (ℕ → Frame) → ℕ → List ℕ → Type 0
Wrote frames channel x = ((frames channel).sent ≡ 1) × ((frames channel).bytes ≡ x)

abbrev pub sends : (ℕ → Frame) → Bool
sends frames = eqb (frames 0).sent 1

-- ---- cycles under fault records

-- One cycle: a frame comes to another unit exactly where it was written and the record lets it reach.
pub record CycleDone (E : Entries) (mode n count : ℕ) (c : Faults) (bus : Bus) (x z : ℕ → List ℕ) : Type 1 where
  pub counted : count < 64
  pub parts : Parts E mode n count c.stop c.start bus x z
  pub beats : (p q : ℕ) (l : p < n) → q < n → eqb p q ≡ false
      → Came (Wrote (beats_written (parts p l))) (HeartbeatRefused (quiet_in mode) count p) (bus.heartbeats p q 0) (bus.heartbeats p q 1)
      (sends (beats_written (parts p l)) && heartbeat_reaches c p q)
  pub ballots : (p q : ℕ) (l : p < n) → q < n → eqb p q ≡ false
      → Came (Wrote (votes_written (parts p l))) (VoteRefused n count p) (bus.votes p q 0) (bus.votes p q 1) (sends (votes_written (parts p l)) && vote_reaches c p q)

-- cycles, one after the other, each with a cycle count and a bus of its own
pub data Pressed (E : Entries) (mode n : ℕ) : List Faults → (ℕ → List ℕ) → (ℕ → List ℕ) → Type 1 where
  none : {x : ℕ → List ℕ} → Pressed E mode n [] x x
  next : {c : Faults} {cs : List Faults} {x y z : ℕ → List ℕ} (count : ℕ) (bus : Bus) → CycleDone E mode n count c bus x y → Pressed E mode n cs y z
      → Pressed E mode n (c ∷ cs) x z

-- in each cycle, the first of which is cycle k, every unit gives the drive bytes that are chosen for it
abbrev pub Driven : {E : Entries} {mode n : ℕ} {cs : List Faults} {x z : ℕ → List ℕ} → (drive : (k q : ℕ) → List ℕ) → (k : ℕ) → Pressed E mode n cs x z → Type 0
Driven drive k none = Unit {0}
Driven {n = n} drive k (next count bus d rest) = ((q : ℕ) (l : q < n) → drive_in (d.parts q l) ≡ drive k q) × Driven drive (suc k) rest

-- ---- cycles where nobody knows the records

-- One cycle: every copy that another unit gets is the frame as written for that channel, or is refused by reading. What comes to a unit that makes no calls is read by
-- nobody: it may be taken as written.
pub record SoundDone (E : Entries) (mode n count stop start : ℕ) (bus : Bus) (x z : ℕ → List ℕ) : Type 1 where
  pub counted : count < 64
  pub parts : Parts E mode n count stop start bus x z
  pub beats : (p q channel : ℕ) (l : p < n) → q < n → eqb p q ≡ false → channel < 2
      → Wrote (beats_written (parts p l)) channel (bus.heartbeats p q channel) ⊎ HeartbeatRefused (quiet_in mode) count p channel (bus.heartbeats p q channel)
  pub ballots : (p q channel : ℕ) (l : p < n) → q < n → eqb p q ≡ false → channel < 2
      → Wrote (votes_written (parts p l)) channel (bus.votes p q channel) ⊎ VoteRefused n count p channel (bus.votes p q channel)

-- cycles, one after the other, from a row that the rules give: the record of each says what came (`record_of`), and the next row is the rules' cycle under it
pub data SoundPressed (E : Entries) (mode n : ℕ) : Row → List Faults → (ℕ → List ℕ) → (ℕ → List ℕ) → Type 1 where
  none : {row : Row} {x : ℕ → List ℕ} → SoundPressed E mode n row [] x x
  next : {row : Row} {cs : List Faults} {x y z : ℕ → List ℕ} (count stop start : ℕ) (bus : Bus) → SoundDone E mode n count stop start bus x y
      → SoundPressed E mode n (cycle (in_mode mode n) (record_of (in_mode mode n) count bus stop start row) row) cs y z
      → SoundPressed E mode n row (record_of (in_mode mode n) count bus stop start row ∷ cs) x z
