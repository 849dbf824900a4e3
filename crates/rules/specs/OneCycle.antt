-- Paper 01, "One cycle": rules 1 to 6, each of one node q in a cluster of N nodes; with request 3, in whose quiet press votes rest while nothing happens.
-- Assumes nothing.
--     config_of: a cluster of N nodes, quiet or not
--     of_nodes, quietly: one that votes in every cycle, and a quiet one
--     wrong_mode, quiet_in, in_mode: whether a caller's number is no mode, whether it is that of a quiet press, and the cluster in that mode
--     stopped: out with reason 0
--     stop_if, start_if: what a stop and a start make of a state, where they are given
--     stop_and_start: rule 1, stop before start
--     sends_member, sends_join: whether a heartbeat goes out with join 0, with join 1
--     asks: whether a heartbeat goes out with the request
--     view_of: a member's view V, from its set and what it heard with join 0 and 1
--     called: whether a member, or a member of its set that it heard, requests
--     will_vote: whether a member votes
--     same_group: equal G, M and B
--     same_vote: equal G, M, B and V
--     Ballots: what arrived from each sender
--     is: whether what arrived is the given vote
--     voters: the senders in the vote's M whose vote it is
--     wins: whether a vote has a quorum of its B
--     new_set: the set that a vote gives
--     group_with: the group that a vote gives, with that set: G, M and B
--     new_group: both at once, from what arrived
--     request_with, request_after: whether a member requests in the next cycle, from the set that a vote gives, and from what arrived
--     member_on: a member of the group that a vote gives
--     with_own: what arrived, with the node's own vote
--     without: what arrived from the others
--     rival: whether what arrived has the same G, M and B and a quorum
--     member_decides: rule 5
--     rests: the group of a member that did not vote, after the cycle
--     silent_decides: what a member decides that did not vote
--     fits: whether what arrived fits a joining node
--     enters_with: a joining node that enters on a vote
--     enter_on: a joining node enters on a vote if it is the one value that fits
--     joiner_decides: rule 6
use Rattle.std.specs.Prelude.{Bool, true, false, not, ◌&&◌, ◌||◌, cond, ℕ, eqb, ltb}
use Rattle.std.proofs.Math.Option.{Option, none, some}
use Rattle.sets.specs.Sets.{has, single, ◌∪◌, ◌∩◌, ◌∖◌, those, below, lowest, any, every}
use Rattle.sets.specs.Quorum.{quorum}
use Rattle.state.specs.declared.Reason.TheVariants.{Stopped, NoQuorum, Outvoted}
use Rattle.state.specs.declared.Group.{Group}
use Rattle.state.specs.declared.State.{State}
use Rattle.state.specs.declared.State.TheVariants.{Out, Joining, Member}
use Rattle.state.specs.State.{next_number}
use Rattle.rules.specs.declared.Config.{Config}
use Rattle.rules.specs.declared.Vote.{Vote}

-- a cluster of N nodes: "0 votes in every cycle, 1 quiet"
abbrev pub config_of : Bool → ℕ → Config
config_of quiet N = record { nodes = N; quiet = quiet }

abbrev pub of_nodes : ℕ → Config
of_nodes N = config_of false N

abbrev pub quietly : ℕ → Config
quietly N = config_of true N

-- request 3: the mode is "given by the caller: 0 votes in every cycle, 1 quiet, any other number is refused with 2"
abbrev pub wrong_mode : ℕ → Bool
wrong_mode mode = ltb 1 mode

abbrev pub quiet_in : ℕ → Bool
quiet_in mode = eqb mode 1

abbrev pub in_mode : ℕ → ℕ → Config
in_mode mode N = config_of (quiet_in mode) N

-- 1. "Stop: the node becomes out with reason 0. Then start: an out node becomes joining; others do not change. Both may name one node."
abbrev pub stopped : State
stopped = Out Stopped

abbrev pub stop_if : Bool → State → State
stop_if true s = stopped
stop_if false s = s

abbrev pub start_if : Bool → State → State
start_if true (Out r) = Joining
start_if true Joining = Joining
start_if true (Member g a) = Member g a
start_if false s = s

unfoldable pub stop_and_start : Bool → Bool → State → State
stop_and_start stop start s = start_if start (stop_if stop s)

-- 2. "Heartbeat: a member sends one with join 0, a joining node with join 1, an out node nothing."
abbrev pub sends_member : State → Bool
sends_member (Out r) = false
sends_member Joining = false
sends_member (Member g a) = true

abbrev pub sends_join : State → Bool
sends_join (Out r) = false
sends_join Joining = true
sends_join (Member g a) = false

-- request 3: "In a quiet press bit 6 of a heartbeat's first byte becomes a request." A joining node sends none.
abbrev pub asks : State → Bool
asks (Out r) = false
asks Joining = false
asks (Member g a) = a

-- 3. "A member's view V is itself, the members of M heard with join 0, and the nodes outside M heard with join 1. Every other heartbeat counts for
-- nothing, and so does a heard bit at N or above."
unfoldable pub view_of : ℕ → ℕ → ℕ → ℕ → ℕ → ℕ
view_of N q M heard0 heard1 = single q ∪ (M ∩ below N heard0) ∪ (below N heard1 ∖ M)

-- Request 3: "In this mode a member votes exactly when its V differs from M, or a member of M heard, or it itself, requests." `requests` are the nodes heard
-- with a request, `own` whether it requests itself.
unfoldable pub called : ℕ → Bool → ℕ → Bool
called M own requests = own || not (eqb (M ∩ requests) 0)

unfoldable pub will_vote : Config → ℕ → ℕ → Bool → Bool
will_vote C M view call = not C.quiet || (not (eqb view M) || call)

-- 4. "A member's vote is G, M, B and V. Joining nodes do not vote." Two votes are equal if all four are.
unfoldable pub same_group : Group → Group → Bool
same_group g h = eqb g.number h.number && eqb g.set h.set && eqb g.base h.base

unfoldable pub same_vote : Vote → Vote → Bool
same_vote v w = same_group v.group w.group && eqb v.view w.view

-- what arrived from each sender
abbrev pub Ballots : Type 0
Ballots = ℕ → Option Vote

abbrev pub is : Vote → Option Vote → Bool
is v none = false
is v (some w) = same_vote v w

-- the senders in its M whose vote is v
unfoldable pub voters : ℕ → Ballots → Vote → ℕ
voters N b v = those N (λ p. has p v.group.set && is v (b p))

-- "Some V has a quorum if twice its count is more than the size of B."
unfoldable pub wins : ℕ → Ballots → Vote → Bool
wins N b v = quorum (voters N b v) v.group.base

-- "its new set is the senders whose counted vote has that V, and V without M. The new base is the new set with M added. G stays if the set is the
-- same, else grows by one; the number after 4294967295 is 0."
unfoldable pub new_set : ℕ → Ballots → Vote → ℕ
new_set N b v = voters N b v ∪ (v.view ∖ v.group.set)

unfoldable pub group_with : Vote → ℕ → Group
group_with v S =
    record { number = cond (eqb S v.group.set) v.group.number (next_number v.group.number); set = S; base = S ∪ v.group.set }

unfoldable pub new_group : ℕ → Ballots → Vote → Group
new_group N b v = group_with v (new_set N b v)

-- Request 3: "It requests in the cycle after one in which its V differed from M, its set changed, or rule 6 made it a member."
unfoldable pub request_with : Config → Vote → ℕ → Bool
request_with C v S = C.quiet && (not (eqb v.view v.group.set) || not (eqb S v.group.set))

unfoldable pub request_after : Config → Ballots → Vote → Bool
request_after C b v = request_with C v (new_set C.nodes b v)

-- a member of the group that the vote v gives
abbrev pub member_on : Config → Ballots → Vote → State
member_on C b v = Member (new_group C.nodes b v) (request_after C b v)

-- 5. "A member counts, from senders in M and its own always included, the votes with its own G, M and B. .. It halts with reason 1 exactly when no V
-- has a quorum, and with reason 2 when one has but is not its own V. Otherwise" it goes on. M holds the node, so its own vote is one from M.
abbrev pub with_own : ℕ → Vote → Ballots → Ballots
with_own q own b p = cond (eqb p q) (some own) (b p)

abbrev pub without : ℕ → Ballots → Ballots
without q b p = cond (eqb p q) none (b p)

-- a vote with the same G, M and B that has a quorum
abbrev pub rival : ℕ → Ballots → Group → Option Vote → Bool
rival N b g none = false
rival N b g (some v) = same_group g v.group && wins N b v

unfoldable pub member_decides : Config → ℕ → Vote → Ballots → State
member_decides C q own arrived =
    let b : Ballots = with_own q own arrived in
    cond (wins C.nodes b own) (member_on C b own)
    (cond (any C.nodes (λ p. rival C.nodes b own.group (b p))) (Out Outvoted) (Out NoQuorum))

-- Request 3: "A member that did not vote halts with reason 2 if it heard a quorum of equal votes with its own G, M and B; otherwise it keeps G and M, and B
-- becomes M." A V of its own, M, is no exception.
abbrev pub rests : Group → Group
rests g = record { number = g.number; set = g.set; base = g.set }

unfoldable pub silent_decides : Config → ℕ → Group → Ballots → State
silent_decides C q g arrived =
    let b : Ballots = without q arrived in
    cond (any C.nodes (λ p. rival C.nodes b g (b p))) (Out Outvoted) (Member (rests g) false)

-- 6. "A joining node looks at each vote that arrived whole: it fits if the node is in its V and not in its M, and twice the number of equal votes from
-- senders in its M is more than the size of its B. If exactly one vote value fits, the node becomes a member with new set, base and G as in 5; else
-- it stays joining."
abbrev pub fits : ℕ → ℕ → Ballots → Option Vote → Bool
fits N q b none = false
fits N q b (some v) = has q v.view && not (has q v.group.set) && wins N b v

-- it requests in the next cycle, in a quiet press
abbrev pub enters_with : Config → Ballots → Vote → State
enters_with C b v = Member (new_group C.nodes b v) C.quiet

abbrev pub enter_on : Config → ℕ → Ballots → Option Vote → State
enter_on C q b none = Joining
enter_on C q b (some v) =
    cond (fits C.nodes q b (some v) && every C.nodes (λ p. not (fits C.nodes q b (b p)) || is v (b p))) (enters_with C b v) Joining

unfoldable pub joiner_decides : Config → ℕ → Ballots → State
joiner_decides C q b = enter_on C q b (b (lowest C.nodes (λ p. fits C.nodes q b (b p))))
