-- What each node makes of the votes, and the masks of the states.
-- Assumes nothing.
use Rattle.std.specs.Prelude.{Bool, true, false, ◌&&◌, cond, List, ℕ, get_or}
use Rattle.sets.specs.Sets.{has, single, ◌∪◌, ◌∖◌, those, below}
use Rattle.state.specs.declared.Reason.TheVariants.{Stopped, NoQuorum, Outvoted}
use Rattle.state.specs.declared.Group.{Group}
use Rattle.state.specs.declared.State.{State}
use Rattle.state.specs.declared.State.TheVariants.{Out, Joining, Member}
use Rattle.state.specs.Image.{group_bytes}
use Rattle.rules.specs.declared.Config.{Config}
use Rattle.rules.specs.OneCycle.{sends_member, sends_join, asks, view_of, called, will_vote, member_decides, silent_decides, joiner_decides}
use Rattle.rules.specs.Ballots.{group_at, vote_at, ballots_of}
use Rattle.cluster_states.specs.declared.Roles.{Roles}

-- rule 1 of all nodes: a stopped node leaves every set, and then a started one that is no member is joining
unfoldable pub roles_after : ℕ → Roles → ℕ → ℕ → Roles
roles_after n w stop start =
    let members = below n (w.members ∖ stop) in
    record {
      members = members;
      asking = w.asking;
      joining = below n ((start ∪ (w.joining ∖ stop)) ∖ members);
      no_quorum = w.no_quorum ∖ stop;
      outvoted = w.outvoted ∖ stop;
    }

-- the view of node p, of the nodes whose heartbeats go out
abbrev pub view_at : ℕ → List ℕ → ℕ → ℕ → List ℕ → ℕ → ℕ
view_at n sets members joining missed p =
    view_of n p (get_or sets p 0) (members ∖ get_or missed p 0) (joining ∖ get_or missed p 0)

-- whether member p votes: `asking` are the members that request, `requests` those of them whose heartbeats go out
abbrev pub votes_at : Config → List ℕ → List ℕ → ℕ → ℕ → List ℕ → ℕ → Bool
votes_at C sets views asking requests missed p =
    will_vote C (get_or sets p 0) (get_or views p 0) (called (get_or sets p 0) (has p asking) (requests ∖ get_or missed p 0))

-- the members that vote
unfoldable pub voting_of : Config → List ℕ → List ℕ → Roles → ℕ → List ℕ → ℕ
voting_of C sets views w requests missed =
    those C.nodes (λ p. has p w.members && votes_at C sets views w.asking requests missed p)

-- the state of a node that is neither a member nor joining
abbrev pub out_at : Roles → ℕ → State
out_at w q = cond (has q w.no_quorum) (Out NoQuorum) (cond (has q w.outvoted) (Out Outvoted) (Out Stopped))

-- what node q decides on the votes in the slots `present`, where the members `voting` have voted
unfoldable pub decided_at : List ℕ → List ℕ → List ℕ → List ℕ → Config → Roles → ℕ → ℕ → ℕ → State
decided_at numbers sets bases views C w voting present q =
    cond (has q voting) (member_decides C q (vote_at numbers sets bases views q) (ballots_of numbers sets bases views present))
    (cond (has q w.members) (silent_decides C q (group_at numbers sets bases q) (ballots_of numbers sets bases views present))
    (cond (has q w.joining) (joiner_decides C q (ballots_of numbers sets bases views present))
    (out_at w q)))

-- the group that a state holds, zeros if it holds none; and whether it is out for want of a quorum, or outvoted
abbrev pub held_by : State → Group
held_by = group_bytes

abbrev pub is_no_quorum : State → Bool
is_no_quorum (Out Stopped) = false
is_no_quorum (Out NoQuorum) = true
is_no_quorum (Out Outvoted) = false
is_no_quorum Joining = false
is_no_quorum (Member g a) = false

abbrev pub is_outvoted : State → Bool
is_outvoted (Out Stopped) = false
is_outvoted (Out NoQuorum) = false
is_outvoted (Out Outvoted) = true
is_outvoted Joining = false
is_outvoted (Member g a) = false

-- the masks with the state d of node q added
abbrev pub with_state : Roles → ℕ → State → Roles
with_state w q d =
    record {
      members = cond (sends_member d) (single q ∪ w.members) w.members;
      asking = cond (asks d) (single q ∪ w.asking) w.asking;
      joining = cond (sends_join d) (single q ∪ w.joining) w.joining;
      no_quorum = cond (is_no_quorum d) (single q ∪ w.no_quorum) w.no_quorum;
      outvoted = cond (is_outvoted d) (single q ∪ w.outvoted) w.outvoted;
    }
