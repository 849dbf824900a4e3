-- Paper 01, "Run through frames", with request 3: what stands on the two channels in each half of a cycle, and what a unit makes of what it reads there.
-- Assumes nothing.
use Rattle.std.specs.Prelude as std
use Rattle.std.specs.Prelude.{Bool, true, false, None, Some, ◌&&◌, cond, List, ℕ, zero, suc, ◌*◌, ltb, get_or, take, drop, replicate}
use Rattle.std.proofs.Math.Option.{Option, none, some}
use Rattle.parts.specs.Parts.{with_part}
use Rattle.sets.specs.Sets.{has, ◌∖◌, those}
use Rattle.state.specs.declared.State.{State}
use Rattle.rules.specs.declared.Config.{Config}
use Rattle.rules.specs.declared.Vote.{Vote}
use Rattle.rules.specs.OneCycle.{Ballots, view_of, called, will_vote, member_decides, silent_decides, joiner_decides}
use Rattle.rules.specs.Ballots.{group_at, vote_at}
use Rattle.frames.specs.declared.Heartbeat.{Heartbeat}
use Rattle.frames.specs.Written.{heartbeat_frame, run_drive, vote_frame}
use Rattle.frames.specs.Read.{read_vote, receive_heartbeat, heard_in, receive_vote}
use Rattle.bus_units.specs.Units.{is_alive, is_join, is_request, received}
use Rattle.cluster_states.specs.declared.Roles.{Roles}
use Rattle.cluster_states.specs.Decided.{out_at}

-- ---- a channel: a slot of 36 bytes for each of 64 nodes, a frame at the beginning of its sender's

abbrev pub with_frame : ℕ → List ℕ → List ℕ → List ℕ
with_frame q x channel = with_part (36 * q) x channel

abbrev pub with_sent : ℕ → Option (List ℕ) → List ℕ → List ℕ
with_sent q none channel = channel
with_sent q (some x) channel = with_frame q x channel

-- what stands there when the first n nodes have sent
unfoldable pub channel_of : ℕ → (ℕ → Option (List ℕ)) → List ℕ
channel_of zero sent = replicate 2304 0
channel_of (suc n) sent = with_sent n (sent n) (channel_of n sent)

-- ---- what each node sends

-- "Heartbeat: a member sends one with join 0, a joining node with join 1, an out node nothing." "its heartbeats have sync and startup 0". Request 3: "bit 6 of a
-- heartbeat's first byte becomes a request"
abbrev pub heartbeat_put : Roles → ℕ → ℕ → ℕ → Option (List ℕ)
heartbeat_put w count channel q =
    cond (has q w.members) (some (heartbeat_frame q 0 (cond (has q w.asking) 1 0) 0 0 count channel run_drive))
    (cond (has q w.joining) (some (heartbeat_frame q 1 0 0 0 count channel run_drive)) none)

-- "A member's vote is G, M, B and V. Joining nodes do not vote." `voting` are the members that do
abbrev pub vote_put : List ℕ → List ℕ → List ℕ → List ℕ → ℕ → ℕ → ℕ → ℕ → Option (List ℕ)
vote_put numbers sets bases views voting count channel q =
    cond (has q voting) (some (vote_frame q (vote_at numbers sets bases views q) count channel)) none

-- ---- what a unit reads: `reach` are the nodes whose frame reaches it, a and b the channels

-- its copy of a frame of k bytes of node p: "a lost or missed one is absent on both channels"
abbrev pub copy_of : ℕ → ℕ → ℕ → List ℕ → List ℕ
copy_of k reach p channel = take (cond (has p reach) k 0) (drop (36 * p) channel)

-- "A unit reads both channels."
unfoldable pub heartbeat_read : Bool → ℕ → ℕ → List ℕ → List ℕ → ℕ → std.Option Heartbeat
heartbeat_read quiet count reach a b p = heard_in (receive_heartbeat quiet p count (copy_of 10 reach p a) (copy_of 10 reach p b))

-- the nodes heard with a heartbeat of the given kind
unfoldable pub heard_read : Config → ℕ → ℕ → List ℕ → List ℕ → (std.Option Heartbeat → Bool) → ℕ
heard_read C count reach a b kind = those C.nodes (λ p. kind (heartbeat_read C.quiet count reach a b p))

-- rule 3, on what node q reads
unfoldable pub view_read : Config → ℕ → ℕ → List ℕ → List ℕ → ℕ → ℕ → ℕ
view_read C count reach a b set q = view_of C.nodes q set (heard_read C count reach a b is_alive) (heard_read C count reach a b is_join)

-- whether a member votes, by what it reads and whether it requests itself
unfoldable pub votes_read : Config → ℕ → ℕ → List ℕ → List ℕ → ℕ → Bool → ℕ → Bool
votes_read C count reach a b set own q = will_vote C set (view_read C count reach a b set q) (called set own (heard_read C count reach a b is_request))

-- the members that vote; `sent` are the nodes whose heartbeats go out
unfoldable pub voting_read : Config → ℕ → Roles → ℕ → List ℕ → List ℕ → List ℕ → List ℕ → ℕ
voting_read C count w sent missed sets a b =
    those C.nodes (λ q. has q w.members && votes_read C count (sent ∖ get_or missed q 0) a b (get_or sets q 0) (has q w.asking) q)

unfoldable pub vote_read : ℕ → ℕ → ℕ → List ℕ → List ℕ → ℕ → std.Option Vote
vote_read n count reach a b p = receive_vote (read_vote n p count 0 (copy_of 36 reach p a)) (read_vote n p count 1 (copy_of 36 reach p b))

unfoldable pub ballots_read : ℕ → ℕ → ℕ → List ℕ → List ℕ → Ballots
ballots_read n count reach a b p = cond (ltb p n) (received (vote_read n count reach a b p)) none

-- rules 5 and 6, and a member that did not vote, on what node q reads; an out node stays as it is
unfoldable pub decided_read : List ℕ → List ℕ → List ℕ → List ℕ → Config → ℕ → Roles → ℕ → ℕ → List ℕ → List ℕ → ℕ → State
decided_read numbers sets bases views C count w voting reach a b q =
    cond (has q voting) (member_decides C q (vote_at numbers sets bases views q) (ballots_read C.nodes count reach a b))
    (cond (has q w.members) (silent_decides C q (group_at numbers sets bases q) (ballots_read C.nodes count reach a b))
    (cond (has q w.joining) (joiner_decides C q (ballots_read C.nodes count reach a b))
    (out_at w q)))
