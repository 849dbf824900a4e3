use mathlib.Core.Path.{refl, sym, ◌∙◌}
use native.Mathlib.Omega.{arith}
use Rattle.rule_tally.proofs.Candidates.{rest-less, left_less, tried-none, tried-next, tried-end, counted_none, counted_next, counted-won, next-candidate, next-voter}
use Rattle.rule_tally.proofs.any_agreed.Goals as goal
use Rattle.rule_tally.proofs.any_agreed.Goals.{else-found-test, then-found-test+then-loop-rest-test+then-completes}

pub found-init : goal.found-init
found-init c =
    let a = c.args in
    let g = a.groups.now in
    tried-none g.numbers g.sets g.bases a.views.now a.n a.present a.group c.intersection.result c.below-left.result c.intersection.ensures c.below-left.ensures

pub offset_bounds-views-k : goal.offset_bounds-views-k
offset_bounds-views-k c =
    let next = next-candidate c.requires.n_bound c.found.invariant _ _ _ c.is_quorum.ensures c.found-test.true c.first_of-k.ensures in
    omega (arith, next.0, c.requires.n_bound)

pub bounds-views-k : goal.bounds-views-k
bounds-views-k c =
    let next = next-candidate c.requires.n_bound c.found.invariant _ _ _ c.is_quorum.ensures c.found-test.true c.first_of-k.ensures in
    omega (arith, next.0, c.requires.n_bound)

pub loop-rest-init : goal.loop-rest-init
loop-rest-init c =
    let a = c.args in
    let g = a.groups.now in
    counted_none g.numbers g.sets g.bases a.views.now a.n a.present a.group _ c.found.left

pub known-requires : goal.known-requires
known-requires c =
    let voter = next-voter c.requires.n_bound c.found.invariant c.loop-rest.invariant c.loop-rest-test.true c.lowest-p.ensures in
    omega (arith, voter.0, c.requires.n_bound)

pub equals_at-counted-requires : goal.equals_at-counted-requires
equals_at-counted-requires c =
    let voter = next-voter c.requires.n_bound c.found.invariant c.loop-rest.invariant c.loop-rest-test.true c.lowest-p.ensures in
    omega (arith, voter.0, c.requires.n_bound)

pub loop-rest-smaller : goal.loop-rest-smaller
loop-rest-smaller c =
    let voter = next-voter c.requires.n_bound c.found.invariant c.loop-rest.invariant c.loop-rest-test.true c.lowest-p.ensures in
    rest-less c.args.lead _ _ c.known.ensures c.loop-rest.rest _ c.difference-rest.result voter.1 c.intersection-these.ensures c.difference-rest.ensures

pub loop-rest-preserved : goal.loop-rest-preserved
loop-rest-preserved c =
    let a = c.args in
    let g = a.groups.now in
    let voter = next-voter c.requires.n_bound c.found.invariant c.loop-rest.invariant c.loop-rest-test.true c.lowest-p.ensures in
    counted_next g.numbers g.sets g.bases a.views.now a.n a.present a.group a.lead c.requires.one_vote _ c.found.left c.loop-rest.m c.loop-rest.rest c.lowest-p.result c.known.result c.intersection-these.result c.equals_at-counted.result c.pick.result c.union-m.result c.found.invariant c.loop-rest.invariant voter.1 c.known.ensures c.intersection-these.ensures c.equals_at-counted.ensures c.pick.ensures c.union-m.ensures c.difference-rest.result c.completes.result c.difference-rest.ensures c.completes.ensures c.if-completes.false

pub known-requires-in-found : goal.known-requires-in-found
known-requires-in-found c =
    let next = next-candidate c.requires.n_bound c.found.invariant _ _ _ c.is_quorum.ensures c.found-test.true c.first_of-k.ensures in
    omega (arith, next.0, c.requires.n_bound)

pub found-smaller : goal.found-smaller
found-smaller c =
    let next = next-candidate c.requires.n_bound c.found.invariant _ _ _ c.is_quorum.ensures c.found-test.true c.first_of-k.ensures in
    left_less c.args.lead _ _ c.known-in-found.ensures c.found.left c.loop-rest.m _ c.difference-left.result next.1 c.union.ensures c.difference-left.ensures

pub found-preserved : goal.found-preserved
found-preserved c =
    let a = c.args in
    let g = a.groups.now in
    let next = next-candidate c.requires.n_bound c.found.invariant _ _ _ c.is_quorum.ensures c.found-test.true c.first_of-k.ensures in
    tried-next g.numbers g.sets g.bases a.views.now a.n a.present a.group a.lead c.requires.one_vote c.found.left c.first_of-k.result c.loop-rest.m c.loop-rest.rest c.known-in-found.result c.union.result c.difference-left.result c.found.invariant next.1 c.loop-rest.invariant c.loop-rest-test.false c.known-in-found.ensures c.union.ensures c.difference-left.ensures

pub returns : goal.returns
returns c =
    let a = c.args in
    let g = a.groups.now in
    c.is_quorum-2.ensures
    ∙ elim c.found-test.branch [
      | else-found-test w ↦
          let few = sym c.is_quorum.ensures ∙ w.found-test.false in
          few ∙ sym (tried-end g.numbers g.sets g.bases a.views.now a.n a.present a.group c.found.left c.found.invariant few)
      | then-found-test+then-loop-rest-test+then-completes w ↦
          let l = w.loop-rest in
          let voter = next-voter c.requires.n_bound c.found.invariant l.invariant w.loop-rest-test.true w.lowest-p.ensures in
          sym c.is_quorum.ensures ∙ w.found-test.true
          ∙ sym (counted-won g.numbers g.sets g.bases a.views.now a.n a.present a.group a.lead c.requires.one_vote _ c.found.left l.m l.rest w.lowest-p.result w.known.result w.intersection-these.result w.equals_at-counted.result w.pick.result w.union-m.result c.found.invariant l.invariant voter.1 w.known.ensures w.intersection-these.ensures w.equals_at-counted.ensures w.pick.ensures w.union-m.ensures refl w.completes.result w.completes.ensures w.if-completes.true)
    ]
