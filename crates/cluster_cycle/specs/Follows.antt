-- A member that is kept for those that decide the same, and a cycle in which nobody votes.
-- Assumes nothing.
use Rattle.std.specs.Prelude.{◌≡◌, Bool, true, ◌&&◌, cond, List, ℕ, ◌<◌, eqb, get_or, Option, None, Some}
use Rattle.sets.specs.Sets.{has}
use Rattle.state.specs.declared.State.{State}
use Rattle.state.specs.declared.State.TheVariants.{Member}
use Rattle.rules.specs.declared.Config.{Config}
use Rattle.rules.specs.OneCycle.{sends_member, asks}
use Rattle.cluster_states.specs.declared.Roles.{Roles}
use Rattle.cluster_tallies.specs.declared.Tallied.{Tallied}
use Rattle.cluster_cycle.specs.declared.Followed.{Followed}
use Rattle.cluster_states.specs.Decided.{decided_at, held_by}
use Rattle.cluster_tallies.specs.Grouped.{Within, spread_at, own_tally}

-- whether q cast the vote of the member that is kept and counts the same votes
abbrev pub follows : Followed → ℕ → ℕ → Bool
follows k present q = has q k.votes && eqb (own_tally k.votes k.set present q) k.counted

-- the member that q follows, of the one that is kept
abbrev pub followed_by : Option Followed → ℕ → ℕ → Option Followed
followed_by None present q = None
followed_by (Some k) present q = cond (follows k present q) (Some k) None

-- what node q decides on the grouped votes
abbrev pub decides : Tallied → Roles → ℕ → ℕ → State
decides t w present q = decided_at t.groups.now.numbers t.groups.now.sets t.groups.now.bases t.views.now t.config w t.voting present q

-- what is kept is worth: whoever follows decides the same
abbrev pub Worth : List ℕ → List ℕ → List ℕ → List ℕ → Config → Roles → ℕ → Followed → Type 0
Worth numbers sets bases views C w voting k =
    (q present : ℕ) → q < C.nodes → Within present voting → follows k present q ≡ true → decided_at numbers sets bases views C w voting present q ≡ Member k.group k.request

-- what is kept once node q has decided d: q, if it voted and stays, or what was kept before
abbrev pub kept : ℕ → List ℕ → ℕ → List ℕ → ℕ → ℕ → State → Option Followed → Option Followed
kept q sets lead same voting present d k =
    let votes = spread_at lead same q in
    let set = get_or sets q 0 in
    cond (has q voting && sends_member d)
    (Some (record { votes = votes; set = set; counted = own_tally votes set present q; group = held_by d; request = asks d }))
    k

-- the masks after a cycle in which nobody votes, from those after rule 1
abbrev pub resting_roles : Roles → Roles
resting_roles w = record { members = w.members; asking = 0; joining = w.joining; no_quorum = w.no_quorum; outvoted = w.outvoted }
