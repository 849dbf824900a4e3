-- What the grouped votes of a cycle are of.
-- Assumes nothing.
use Rattle.std.specs.Prelude.{◌≡◌, List, ℕ}
use Rattle.rules.specs.declared.Config.{Config}
use Rattle.rules.specs.declared.Groups.{Groups}
use Rattle.rules.specs.declared.Vote.{Vote}
use Rattle.rules.specs.OneCycle.{Ballots}
use Rattle.rules.specs.Ballots.{vote_at, ballots_of}
use Rattle.cluster_tallies.specs.declared.Tallied.{Tallied}

-- they are of the members `voters`, which hold these groups and have these views
pub record AreOf (C : Config) (held : Groups) (seen : List ℕ) (voters : ℕ) (t : Tallied) : Type 0 where
  pub config : t.config ≡ C
  pub groups : t.groups.now ≡ held
  pub views : t.views.now ≡ seen
  pub voting : t.voting ≡ voters

-- the vote of member q
abbrev pub vote_of : Tallied → ℕ → Vote
vote_of t q = vote_at t.groups.now.numbers t.groups.now.sets t.groups.now.bases t.views.now q

-- the votes in the slots `present`
abbrev pub arrived : Tallied → ℕ → Ballots
arrived t present = ballots_of t.groups.now.numbers t.groups.now.sets t.groups.now.bases t.views.now present
