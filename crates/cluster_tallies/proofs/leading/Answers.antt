use mathlib.Core.Bool.{true}
use mathlib.Core.Path.{◌≡◌}
use Prim.Native.Nat.{◌<◌}
use native.Mathlib.Omega.{arith}
use Rattle.sets.specs.Sets.{has}
use Rattle.sets.proofs.Dropping.{lowest_node}
use Rattle.cluster_tallies.proofs.Tallies.{equal-alike, none_alike}
use Rattle.cluster_tallies.proofs.leading.Goals as goal

pub returns-then-voting-eq0 : goal.returns-then-voting-eq0
returns-then-voting-eq0 c =
    let a = c.args in
    none_alike a.groups.now.numbers a.groups.now.sets a.groups.now.bases a.views.now a.n a.voting

pub vote_at-v-requires : goal.vote_at-v-requires
vote_at-v-requires c =
    let found : (c.lowest.result < c.args.n) × (has c.lowest.result c.args.voting ≡ true) = lowest_node c.args.n c.args.voting c.lowest.result c.requires.n_bound c.requires.below c.if-voting-eq0.false c.lowest.ensures in
    omega (arith, (found).0, c.requires.n_bound)

pub returns : goal.returns
returns c =
    let a = c.args in
    equal-alike a.groups.now.numbers a.groups.now.sets a.groups.now.bases a.views.now a.n a.voting c.equal_votes.result c.vote_at-v.result c.equal_votes.ensures
