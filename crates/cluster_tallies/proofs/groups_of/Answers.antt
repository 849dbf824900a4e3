use mathlib.Core.Bool.{true}
use mathlib.Core.Path.{◌≡◌}
use Prim.Native.Nat.{◌<◌}
use native.Mathlib.Omega.{arith}
use lib.Dec.{ltb}
use Rattle.sets.specs.Sets.{has}
use Rattle.sets.proofs.Dropping.{lowest_node}
use Rattle.cluster_tallies.proofs.Tallies.{equal-alike, left_less, split-none, split-next, split-end}
use Rattle.cluster_tallies.proofs.groups_of.Goals as goal

pub loop-left-init : goal.loop-left-init
loop-left-init c = split-none _ _ _ _ _ _ _ _ _ c.leading-lead.ensures c.difference-left.ensures

pub vote_at-v-requires : goal.vote_at-v-requires
vote_at-v-requires c =
    let found = lowest_node c.args.n c.loop-left.left c.lowest-p.result c.requires.n_bound (λ p h. c.requires.below p (c.loop-left.invariant.within p h)) c.loop-left-test.true c.lowest-p.ensures in
    omega (arith, found.0)

pub loop-left-smaller : goal.loop-left-smaller
loop-left-smaller c =
    let a = c.args in
    let p = c.lowest-p.result in
    let found : (p < a.n) × (has p c.loop-left.left ≡ true) = lowest_node a.n c.loop-left.left p c.requires.n_bound (λ p h. c.requires.below p (c.loop-left.invariant.within p h)) c.loop-left-test.true c.lowest-p.ensures in
    left_less a.groups.now.numbers a.groups.now.sets a.groups.now.bases a.views.now a.n a.voting c.loop-left.left p c.equal_votes-m.result c.difference-left-in-loop-left.result c.vote_at-v.result found.0 (c.loop-left.invariant.within p found.1) found.1 c.vote_at-v.ensures c.equal_votes-m.ensures c.difference-left-in-loop-left.ensures

pub loop-left-preserved : goal.loop-left-preserved
loop-left-preserved c =
    let a = c.args in
    split-next a.groups.now.numbers a.groups.now.sets a.groups.now.bases a.views.now a.n a.voting c.loop-left.lead c.loop-left.left c.equal_votes-m.result c.difference-left-in-loop-left.result c.pick.result c.pick-lead.result c.loop-left.same _ c.loop-left.invariant (equal-alike _ _ _ _ _ _ c.equal_votes-m.result c.vote_at-v.result c.equal_votes-m.ensures) (ltb c.size.result c.size-in-loop-left.result) c.pick.ensures c.pick-lead.ensures c.spread.ensures c.difference-left-in-loop-left.ensures

pub returns : goal.returns
returns c =
    let a = c.args in
    split-end a.groups.now.numbers a.groups.now.sets a.groups.now.bases a.views.now a.n a.voting c.loop-left.lead c.loop-left.left c.loop-left.same c.loop-left.invariant c.loop-left-test.false
