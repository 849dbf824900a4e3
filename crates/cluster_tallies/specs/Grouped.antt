-- Votes grouped by their value.
-- Assumes nothing.
use Rattle.std.specs.Prelude.{◌≡◌, true, cond, List, ℕ, ◌<◌, get_or}
use Rattle.sets.specs.Sets.{has, single, ◌∪◌, ◌∩◌, ◌∖◌}
use Rattle.state.specs.declared.State.{State}
use Rattle.state.specs.declared.State.TheVariants.{Member}
use Rattle.rules.specs.declared.Vote.{Vote}
use Rattle.rules.specs.declared.Config.{Config}
use Rattle.rules.specs.OneCycle.{group_with, request_with}
use Rattle.rules.specs.Ballots.{vote_at, equal_to}

-- element j of `same` where m is stored for each of its nodes
abbrev pub spread_at : ℕ → List ℕ → ℕ → ℕ
spread_at m same j = cond (has j m) m (get_or same j 0)

-- m holds the members, of those that vote, whose vote is equal to that of any of its own
abbrev pub Alike : List ℕ → List ℕ → List ℕ → List ℕ → ℕ → ℕ → ℕ → Type 0
Alike numbers sets bases views n voting m =
    (p : ℕ) → has p voting ≡ true → has p m ≡ true → m ≡ equal_to numbers sets bases views n voting (vote_at numbers sets bases views p)

-- `lead` for its own nodes, and `same` for the others, hold for each member that votes the members whose vote is equal to its own
abbrev pub Grouped : List ℕ → List ℕ → List ℕ → List ℕ → ℕ → ℕ → ℕ → List ℕ → Type 0
Grouped numbers sets bases views n voting lead same =
    (p : ℕ) → p < n → has p voting ≡ true → spread_at lead same p ≡ equal_to numbers sets bases views n voting (vote_at numbers sets bases views p)

abbrev pub Within : ℕ → ℕ → Type 0
Within a b = (p : ℕ) → has p a ≡ true → has p b ≡ true

abbrev pub Below : ℕ → ℕ → Type 0
Below n m = (p : ℕ) → has p m ≡ true → p < n

-- of those with the vote of q, the ones that q counts: those in the set whose vote arrived, and its own whatever arrived of it
abbrev pub own_tally : ℕ → ℕ → ℕ → ℕ → ℕ
own_tally votes set present q = votes ∩ (present ∪ single q) ∩ set

-- a member of the group that a vote with these voters gives: one that goes on, and one that enters
abbrev pub member_with : Config → Vote → ℕ → State
member_with C v voters = let S = voters ∪ (v.view ∖ v.group.set) in Member (group_with v S) (request_with C v S)

abbrev pub entrant_with : Config → Vote → ℕ → State
entrant_with C v voters = Member (group_with v (voters ∪ (v.view ∖ v.group.set))) C.quiet
