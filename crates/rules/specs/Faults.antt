-- Paper 01, "Faults": the fault record of a cycle, whom it disturbs, and one whole cycle of all nodes under it.
-- Assumes nothing.
--     Row: the states of all nodes
--     at: the state of node q; out for whatever is no node
--     tabulate: n entries, entry q by f
--     founding: the row at the beginning
--     heartbeats_missed, votes_missed: the senders whose frame receiver q misses
--     reaches: whether a frame of p reaches another node
--     heartbeat_reaches, vote_reaches: whether the heartbeat or the vote of p reaches q
--     misses_other: whether a mask marks a frame of another node as missed
--     disturbed: whether a node is touched in a cycle
--     rule_one: the row after rule 1
--     heard: the nodes whose heartbeat of a kind q hears
--     own_vote: a member's vote
--     votes_now: whether a member votes
--     vote_of: what a node sends as its vote, if it votes
--     votes: what all send
--     arrive_if: a vote, where it arrives
--     arrived_at: the votes that arrive at q
--     decides: what a node decides: rule 5, as one that did not vote, rule 6, or nothing
--     decisions: what all decide
--     cycle: one whole cycle, from row to row
use Rattle.std.specs.Prelude.{Bool, true, false, not, ◌&&◌, ◌||◌, cond, List, [], ◌∷◌, ℕ, zero, suc, eqb, get_or}
use Rattle.std.proofs.Math.Option.{Option, none, some}
use Rattle.sets.specs.Sets.{has, single, ◌∖◌, those}
use Rattle.state.specs.declared.Group.{Group}
use Rattle.state.specs.declared.State.{State}
use Rattle.state.specs.declared.State.TheVariants.{Out, Joining, Member}
use Rattle.state.specs.State.{initial}
use Rattle.rules.specs.declared.Vote.{Vote}
use Rattle.rules.specs.declared.Faults.{Faults}
use Rattle.rules.specs.declared.Config.{Config}
use Rattle.rules.specs.OneCycle.{Ballots, stopped, stop_and_start, sends_member, sends_join, asks, view_of, called, will_vote, member_decides, silent_decides, joiner_decides}

-- "the states of all units as one row, one entry per unit": what stands at N and above is no node, and is out
abbrev pub Row : Type 0
Row = List State

abbrev pub at : Row → ℕ → State
at row q = get_or row q stopped

-- n entries, entry q by f
unfoldable pub tabulate {ℓ} : {A : Type ℓ} → ℕ → (ℕ → A) → List A
tabulate zero f = []
tabulate (suc n) f = f 0 ∷ tabulate n (λ q. f (suc q))

-- the row at the beginning, with group number G and founding set F
unfoldable pub founding : ℕ → ℕ → ℕ → Row
founding N G F = tabulate N (initial G F)

-- "A table gives for each cycle four masks (stop, start, heartbeat lost in sending, vote lost in sending) and, for each phase and receiver, the senders
-- missed." For receiver q:
abbrev pub heartbeats_missed : Faults → ℕ → ℕ
heartbeats_missed c q = get_or c.heartbeat_missed q 0

abbrev pub votes_missed : Faults → ℕ → ℕ
votes_missed c q = get_or c.vote_missed q 0

-- "A frame lost in sending reaches nobody else." A frame of p reaches another node unless it is lost in sending or that node misses it.
unfoldable pub reaches : ℕ → ℕ → ℕ → Bool
reaches lost missed p = not (has p lost) && not (has p missed)

abbrev pub heartbeat_reaches : Faults → ℕ → ℕ → Bool
heartbeat_reaches c p q = reaches c.heartbeat_lost (heartbeats_missed c q) p

abbrev pub vote_reaches : Faults → ℕ → ℕ → Bool
vote_reaches c p q = reaches c.vote_lost (votes_missed c q) p

-- "A node is touched in a cycle if it is stopped, one of its frames is marked lost, or it is marked as missing a frame of another node. .. Marks count
-- even if no frame was sent." The paper's touched is `disturbed` here.
abbrev pub misses_other : ℕ → ℕ → Bool
misses_other q missed = not (eqb (missed ∖ single q) 0)

unfoldable pub disturbed : Faults → ℕ → Bool
disturbed c q =
    has q c.stop || has q c.heartbeat_lost || has q c.vote_lost || misses_other q (heartbeats_missed c q) || misses_other q (votes_missed c q)

-- ---- One whole cycle. `row` is the row after rule 1.

unfoldable pub rule_one : ℕ → Faults → Row → Row
rule_one N c row = tabulate N (λ q. stop_and_start (has q c.stop) (has q c.start) (at row q))

-- the nodes whose heartbeat of the given kind q hears
unfoldable pub heard : ℕ → Faults → Row → (State → Bool) → ℕ → ℕ
heard N c row sends q = those N (λ p. sends (at row p) && heartbeat_reaches c p q)

unfoldable pub own_vote : ℕ → Faults → Row → ℕ → Group → Vote
own_vote N c row q g = record { group = g; view = view_of N q g.set (heard N c row sends_member q) (heard N c row sends_join q) }

-- whether member q of g votes: by its view, by its own request, and by those of the members that it heard
unfoldable pub votes_now : Config → Faults → Row → ℕ → Group → Bool → Bool
votes_now C c row q g a = will_vote C g.set (own_vote C.nodes c row q g).view (called g.set a (heard C.nodes c row asks q))

-- what each node sends as its vote
abbrev pub vote_of : Config → Faults → Row → ℕ → State → Option Vote
vote_of C c row q (Out r) = none
vote_of C c row q Joining = none
vote_of C c row q (Member g a) = cond (votes_now C c row q g a) (some (own_vote C.nodes c row q g)) none

unfoldable pub votes : Config → Faults → Row → List (Option Vote)
votes C c row = tabulate C.nodes (λ q. vote_of C c row q (at row q))

-- the votes that arrive at q
abbrev pub arrive_if : Bool → Option Vote → Option Vote
arrive_if true v = v
arrive_if false v = none

abbrev pub arrived_at : Faults → List (Option Vote) → ℕ → Ballots
arrived_at c sent q p = arrive_if (vote_reaches c p q) (get_or sent p none)

abbrev pub decides : Config → Faults → Row → ℕ → State → Ballots → State
decides C c row q (Out r) b = Out r
decides C c row q Joining b = joiner_decides C q b
decides C c row q (Member g a) b = cond (votes_now C c row q g a) (member_decides C q (own_vote C.nodes c row q g) b) (silent_decides C q g b)

unfoldable pub decisions : Config → Faults → Row → List (Option Vote) → Row
decisions C c row sent = tabulate C.nodes (λ q. decides C c row q (at row q) (arrived_at c sent q))

unfoldable pub cycle : Config → Faults → Row → Row
cycle C c row = let r = rule_one C.nodes c row in decisions C c r (votes C c r)
