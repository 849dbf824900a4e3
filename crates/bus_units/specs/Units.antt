-- Paper 01, "One cycle" and "Frames", with request 3: a unit's part of a cycle, from the frames that come to it, in the order of the rules; and one cycle of all units.
-- Assumes nothing.
use Rattle.std.specs.Prelude as std
use Rattle.std.specs.Prelude.{Bool, true, false, None, Some, not, ◌&&◌, cond, List, ℕ, eqb, ltb}
use Rattle.std.proofs.Math.Option.{Option, none, some}
use Rattle.sets.specs.Sets.{those}
use Rattle.state.specs.declared.Group.{Group}
use Rattle.state.specs.declared.State.{State}
use Rattle.state.specs.declared.State.TheVariants.{Out, Joining, Member}
use Rattle.rules.specs.declared.Vote.{Vote}
use Rattle.rules.specs.declared.Faults.{Faults}
use Rattle.rules.specs.declared.Config.{Config}
use Rattle.rules.specs.OneCycle.{Ballots, view_of, called, will_vote, member_decides, silent_decides, joiner_decides}
use Rattle.rules.specs.Faults.{Row, at, tabulate, rule_one}
use Rattle.frames.specs.declared.Heartbeat.{Heartbeat}
use Rattle.frames.specs.declared.Heartbeat.TheVariants.{Alive, Join, Request}
use Rattle.frames.specs.Written.{heartbeat_frame, vote_frame}
use Rattle.frames.specs.Read.{read_vote, receive_heartbeat, heard_in, drive_heard, receive_vote}

-- ---- a bus: what comes to the units in one cycle

-- The copies of one phase: of the frame of sender p, at receiver q, on a channel (0 is A, 1 is B). Any bytes; none where nothing came.
abbrev pub Copies : Type 0
Copies = (p q channel : ℕ) → List ℕ

pub record Bus : Type 0 where
  pub heartbeats : Copies
  pub votes : Copies

-- ---- rule 2: "a member sends one with join 0, a joining node with join 1, an out node nothing"; "sync and startup free, but startup only with sync". Request 3: "In a
-- quiet press bit 6 of a heartbeat's first byte becomes a request." The frame of unit q for a channel, with the drive bytes that it has

abbrev pub heartbeat_sent : (sync startup : ℕ) → (drive : List ℕ) → (count q : ℕ) → State → (channel : ℕ) → Option (List ℕ)
heartbeat_sent sync startup drive count q (Out r) channel = none
heartbeat_sent sync startup drive count q Joining channel = some (heartbeat_frame q 1 0 sync startup count channel drive)
heartbeat_sent sync startup drive count q (Member g a) channel = some (heartbeat_frame q 0 (cond a 1 0) sync startup count channel drive)

-- ---- "A unit reads both channels.": what unit q makes of the two copies of the heartbeat of p, and the drive bytes that it finds there

abbrev pub heartbeat_got : (quiet : Bool) → (count : ℕ) → Copies → (q p : ℕ) → std.Option Heartbeat
heartbeat_got quiet count h q p = heard_in (receive_heartbeat quiet p count (h p q 0) (h p q 1))

abbrev pub drive_got : (quiet : Bool) → (count : ℕ) → Copies → (q p : ℕ) → List ℕ
drive_got quiet count h q p = drive_heard quiet p count (h p q 0) (h p q 1)

-- heard with join 0, with join 1, and with join 0 and a request
abbrev pub is_alive : std.Option Heartbeat → Bool
is_alive None = false
is_alive (Some Alive) = true
is_alive (Some Join) = false
is_alive (Some Request) = true

abbrev pub is_join : std.Option Heartbeat → Bool
is_join None = false
is_join (Some Alive) = false
is_join (Some Join) = true
is_join (Some Request) = false

abbrev pub is_request : std.Option Heartbeat → Bool
is_request None = false
is_request (Some Alive) = false
is_request (Some Join) = false
is_request (Some Request) = true

-- the other units of which unit q receives a heartbeat of the given kind: a unit does not listen to itself
unfoldable pub unit_hears : Config → (count : ℕ) → Copies → (std.Option Heartbeat → Bool) → (q : ℕ) → ℕ
unit_hears C count h kind q = those C.nodes (λ p. not (eqb p q) && kind (heartbeat_got C.quiet count h q p))

-- ---- rules 3 and 4: its view and its vote, "G, M, B and V. Joining nodes do not vote.", and the vote frame for a channel

unfoldable pub unit_vote : Config → (count : ℕ) → Copies → (q : ℕ) → Group → Vote
unit_vote C count h q g = record { group = g; view = view_of C.nodes q g.set (unit_hears C count h is_alive q) (unit_hears C count h is_join q) }

-- Request 3: "In this mode a member votes exactly when its V differs from M, or a member of M heard, or it itself, requests."
unfoldable pub unit_votes : Config → (count : ℕ) → Copies → (q : ℕ) → Group → Bool → Bool
unit_votes C count h q g a = will_vote C g.set (unit_vote C count h q g).view (called g.set a (unit_hears C count h is_request q))

abbrev pub vote_cast : Config → (count : ℕ) → Copies → (q : ℕ) → State → Option Vote
vote_cast C count h q (Out r) = none
vote_cast C count h q Joining = none
vote_cast C count h q (Member g a) = cond (unit_votes C count h q g a) (some (unit_vote C count h q g)) none

abbrev pub vote_framed : (count q : ℕ) → Option Vote → (channel : ℕ) → Option (List ℕ)
vote_framed count q none channel = none
vote_framed count q (some v) channel = some (vote_frame q v count channel)

abbrev pub vote_sent : Config → (count : ℕ) → Copies → (q : ℕ) → State → (channel : ℕ) → Option (List ℕ)
vote_sent C count h q s channel = vote_framed count q (vote_cast C count h q s) channel

-- ---- the votes of the others that unit q reads, on both channels

abbrev pub vote_got : (N count : ℕ) → Copies → (q p : ℕ) → std.Option Vote
vote_got N count v q p = receive_vote (read_vote N p count 0 (v p q 0)) (read_vote N p count 1 (v p q 1))

abbrev pub received : std.Option Vote → Option Vote
received None = none
received (Some v) = some v

unfoldable pub unit_ballots : (N count : ℕ) → Copies → (q : ℕ) → Ballots
unit_ballots N count v q p = cond (ltb p N && not (eqb p q)) (received (vote_got N count v q p)) none

-- ---- rules 5 and 6; request 3: "A member that did not vote halts with reason 2 if it heard a quorum of equal votes with its own G, M and B"

abbrev pub unit_decides : Config → (count : ℕ) → Bus → (q : ℕ) → State → State
unit_decides C count bus q (Out r) = Out r
unit_decides C count bus q Joining = joiner_decides C q (unit_ballots C.nodes count bus.votes q)
unit_decides C count bus q (Member g a) =
    let ballots : Ballots = unit_ballots C.nodes count bus.votes q in
    cond (unit_votes C count bus.heartbeats q g a) (member_decides C q (unit_vote C count bus.heartbeats q g) ballots) (silent_decides C q g ballots)

-- ---- one cycle of all units, each alone, on a bus. Of the record c only rule 1 is taken: who is stopped and who is started

unfoldable pub units_cycle : Config → (count : ℕ) → Bus → Faults → Row → Row
units_cycle C count bus c row = let r = rule_one C.nodes c row in tabulate C.nodes (λ q. unit_decides C count bus q (at r q))
