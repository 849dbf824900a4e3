use mathlib.Core.Bool.{true}
use mathlib.Core.Path.{◌≡◌, sym, ap, ◌∙◌}
use Prim.Native.Nat.{◌<◌}
use native.Mathlib.Omega.{arith}
use Rattle.sets.specs.Sets.{has}
use Rattle.rules.specs.Ballots.{ballots_of, fits_at}
use Rattle.sets.proofs.Dropping.{lowest_node}
use Rattle.rule_joiner.proofs.Fitting.{dropped-none, fits-slot, dropped-less, dropped-next}
use Rattle.rule_joiner.proofs.from_fit.Goals as goal

pub loop-left-init : goal.loop-left-init
loop-left-init c = let a = c.args in dropped-none a.groups.now.numbers a.groups.now.sets a.groups.now.bases a.views.now a.present a.n a.q a.among

pub vote_at-v-requires : goal.vote_at-v-requires
vote_at-v-requires c =
    let next : (c.lowest-p.result < c.args.n) × (has c.lowest-p.result c.loop-left.left ≡ true) × (has c.lowest-p.result c.args.present ≡ true) = let w = lowest_node c.args.n c.loop-left.left c.lowest-p.result c.requires.n_bound.0 (λ j h. (c.requires.by_index j (c.loop-left.invariant.within j h)).0) c.loop-left-test.true c.lowest-p.ensures in
    (w.0, w.1, (c.requires.by_index c.lowest-p.result (c.loop-left.invariant.within c.lowest-p.result w.1)).1) in
    omega (arith, (next).0, c.requires.n_bound.0)

pub returns-then-fits_node : goal.returns-then-fits_node
returns-then-fits_node c =
    let next : (c.lowest-p.result < c.args.n) × (has c.lowest-p.result c.loop-left.left ≡ true) × (has c.lowest-p.result c.args.present ≡ true) = let w = lowest_node c.args.n c.loop-left.left c.lowest-p.result c.requires.n_bound.0 (λ j h. (c.requires.by_index j (c.loop-left.invariant.within j h)).0) c.loop-left-test.true c.lowest-p.ensures in
    (w.0, w.1, (c.requires.by_index c.lowest-p.result (c.loop-left.invariant.within c.lowest-p.result w.1)).1) in
    let tested : c.fits_node.result
    ≡ fits_at c.args.n c.args.q (ballots_of c.args.groups.now.numbers c.args.groups.now.sets c.args.groups.now.bases c.args.views.now c.args.present) c.lowest-p.result = let a = c.args in
    fits-slot a.groups.now.numbers a.groups.now.sets a.groups.now.bases a.views.now a.present a.n a.q c.lowest-p.result c.equal_votes-m.result c.vote_at-v.result (next).0 (next).2 c.vote_at-v.ensures c.equal_votes-m.ensures c.fits_node.result c.fits_node.ensures in
    let a = c.args in record { within = c.loop-left.invariant.within; unfit = c.loop-left.invariant.unfit; fit = λ h. ap (fits_at a.n a.q (ballots_of a.groups.now.numbers a.groups.now.sets a.groups.now.bases a.views.now a.present)) (sym c.lowest-p.ensures) ∙ sym (tested) ∙ c.if-fits_node.true }

pub loop-left-smaller : goal.loop-left-smaller
loop-left-smaller c =
    let next : (c.lowest-p.result < c.args.n) × (has c.lowest-p.result c.loop-left.left ≡ true) × (has c.lowest-p.result c.args.present ≡ true) = let w = lowest_node c.args.n c.loop-left.left c.lowest-p.result c.requires.n_bound.0 (λ j h. (c.requires.by_index j (c.loop-left.invariant.within j h)).0) c.loop-left-test.true c.lowest-p.ensures in
    (w.0, w.1, (c.requires.by_index c.lowest-p.result (c.loop-left.invariant.within c.lowest-p.result w.1)).1) in
    let a = c.args in
    dropped-less a.groups.now.numbers a.groups.now.sets a.groups.now.bases a.views.now a.present a.n a.q c.lowest-p.result c.equal_votes-m.result c.vote_at-v.result (next).0 (next).2 c.vote_at-v.ensures c.equal_votes-m.ensures a.among c.loop-left.left c.difference-left.result c.loop-left.invariant (next).1 c.difference-left.ensures

pub loop-left-preserved : goal.loop-left-preserved
loop-left-preserved c =
    let next : (c.lowest-p.result < c.args.n) × (has c.lowest-p.result c.loop-left.left ≡ true) × (has c.lowest-p.result c.args.present ≡ true) = let w = lowest_node c.args.n c.loop-left.left c.lowest-p.result c.requires.n_bound.0 (λ j h. (c.requires.by_index j (c.loop-left.invariant.within j h)).0) c.loop-left-test.true c.lowest-p.ensures in
    (w.0, w.1, (c.requires.by_index c.lowest-p.result (c.loop-left.invariant.within c.lowest-p.result w.1)).1) in
    let tested : c.fits_node.result
    ≡ fits_at c.args.n c.args.q (ballots_of c.args.groups.now.numbers c.args.groups.now.sets c.args.groups.now.bases c.args.views.now c.args.present) c.lowest-p.result = let a = c.args in
    fits-slot a.groups.now.numbers a.groups.now.sets a.groups.now.bases a.views.now a.present a.n a.q c.lowest-p.result c.equal_votes-m.result c.vote_at-v.result (next).0 (next).2 c.vote_at-v.ensures c.equal_votes-m.ensures c.fits_node.result c.fits_node.ensures in
    let a = c.args in
    dropped-next a.groups.now.numbers a.groups.now.sets a.groups.now.bases a.views.now a.present a.n a.q c.lowest-p.result c.equal_votes-m.result c.vote_at-v.result (next).0 (next).2 c.vote_at-v.ensures c.equal_votes-m.ensures a.among c.loop-left.left c.difference-left.result c.loop-left.invariant (next).1 c.difference-left.ensures (sym (tested) ∙ c.if-fits_node.false)

pub returns : goal.returns
returns c = record { within = c.loop-left.invariant.within; unfit = c.loop-left.invariant.unfit; fit = λ h. absurd (h c.loop-left-test.false) }
