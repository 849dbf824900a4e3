use mathlib.Core.Bool.{true, cond}
use mathlib.Core.Path.{◌≡◌, refl, ap, ◌∙◌}
use Prim.Native.Nat.{ℕ, ◌<◌}
use native.Mathlib.Omega.{arith}
use Rattle.sets.specs.Sets.{has, lowest, ◌∪◌}
use Rattle.rules.specs.OneCycle.{fits}
use Rattle.sets.proofs.Dropping.{lowest_node}
use Rattle.cluster_tallies.specs.declared.Tallied.{Tallied}
use Rattle.cluster_tallies.specs.Tallied.{arrived}
use Rattle.cluster_tallies.proofs.Looking.{Looked, looked-none, looked-less, looked-next, looked-end}
use Rattle.cluster_tallies.proofs.Tallied.fitting.Goals as goal

-- the slot that is looked at next is one of those left
slot-next : (t : Tallied) (q present left m p : ℕ) → Looked t.groups.now.numbers t.groups.now.sets t.groups.now.bases t.views.now t.config.nodes present (fits t.config.nodes q (arrived t present)) left m → (left ≡ 0 → ⊥) → p ≡ lowest 64 (λ x. has x left)
    → (p < t.config.nodes) × (has p left ≡ true)
slot-next t q present left m p s more low = lowest_node t.config.nodes left p t.bounded (λ j h. (s.within j h).0) more low

pub loop-left-init : goal.loop-left-init
loop-left-init c =
    let t = c.args.self.now in
    looked-none _ _ _ _ t.config.nodes c.args.present (fits t.config.nodes c.args.q (arrived t c.args.present)) c.below-left.result c.below-left.ensures refl

pub votes_like-votes-requires : goal.votes_like-votes-requires
votes_like-votes-requires c =
    let t = c.args.self.now in
    let next = slot-next t c.args.q c.args.present _ _ _ c.loop-left.invariant c.loop-left-test.true c.lowest-p.ensures in
    omega (arith, next.0, t.bounded)

pub fits_at-yes-requires-clause-are_nodes : goal.fits_at-yes-requires-clause-are_nodes
fits_at-yes-requires-clause-are_nodes c =
    let t = c.args.self.now in
    (c.requires.is_node, (slot-next t c.args.q c.args.present _ _ _ c.loop-left.invariant c.loop-left-test.true c.lowest-p.ensures).0)

pub loop-left-smaller : goal.loop-left-smaller
loop-left-smaller c =
    let t = c.args.self.now in
    let next = slot-next t c.args.q c.args.present _ _ _ c.loop-left.invariant c.loop-left-test.true c.lowest-p.ensures in
    looked-less _ _ _ _ t.config.nodes t.voting c.args.present c.requires.within t.lead t.same t.grouped (fits t.config.nodes c.args.q (arrived t c.args.present)) c.loop-left.left c.lowest-p.result c.votes_like-votes.result c.loop-left.m c.loop-left.invariant next.0 next.1 c.votes_like-votes.ensures c.difference-left.result c.difference-left.ensures

pub loop-left-preserved : goal.loop-left-preserved
loop-left-preserved c =
    let t = c.args.self.now in
    let next = slot-next t c.args.q c.args.present _ _ _ c.loop-left.invariant c.loop-left-test.true c.lowest-p.ensures in
    looked-next _ _ _ _ t.config.nodes t.voting c.args.present c.requires.within t.lead t.same t.grouped (fits t.config.nodes c.args.q (arrived t c.args.present)) c.loop-left.left c.lowest-p.result c.votes_like-votes.result c.loop-left.m c.loop-left.invariant next.0 next.1 c.votes_like-votes.ensures c.difference-left.result c.difference-left.ensures c.union-m.result c.fits_at-yes.result c.fits_at-yes.ensures (c.union-m.ensures ∙ ap (λ (x : ℕ). c.loop-left.m ∪ x) (c.pick.ensures ∙ ap (λ (x : ℕ). cond c.fits_at-yes.result x 0) c.intersection.ensures))

pub returns : goal.returns
returns c =
    let t = c.args.self.now in
    looked-end _ _ _ _ t.config.nodes c.args.present (fits t.config.nodes c.args.q (arrived t c.args.present)) c.loop-left.left c.loop-left.m c.loop-left.invariant c.loop-left-test.false
