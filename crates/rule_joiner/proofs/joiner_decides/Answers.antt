use mathlib.Core.Bool.{true}
use mathlib.Core.Path.{◌≡◌, sym, ◌∙◌}
use Prim.Native.Nat.{◌<◌}
use native.Mathlib.Omega.{arith}
use Rattle.sets.specs.Sets.{has}
use Rattle.rule_joiner.proofs.Fitting.{Dropped, arrived-in, enters-nowhere, first_in, others-in, enters-only, enters-other}
use Rattle.rule_joiner.proofs.joiner_decides.Goals as goal

pub from_fit-rest-requires : goal.from_fit-rest-requires
from_fit-rest-requires c =
    let a = c.args in record { n_bound = (c.requires.0, omega (arith, c.requires.0, c.requires.1)); by_index = arrived-in a.groups.now.numbers a.groups.now.sets a.groups.now.bases a.views.now a.present a.config a.q c.below-arrived.result c.below-arrived.ensures }

pub returns-then-rest-eq0 : goal.returns-then-rest-eq0
returns-then-rest-eq0 c =
    let rest : Dropped c.args.groups.now.numbers c.args.groups.now.sets c.args.groups.now.bases c.args.views.now c.args.present c.args.config.nodes c.args.q c.below-arrived.result c.from_fit-rest.result = record { within = c.from_fit-rest.ensures.within; unfit = c.from_fit-rest.ensures.unfit } in
    let a = c.args in
    sym (enters-nowhere a.groups.now.numbers a.groups.now.sets a.groups.now.bases a.views.now a.present a.config a.q c.below-arrived.result c.from_fit-rest.result c.below-arrived.ensures (rest) c.if-rest-eq0.true)

pub vote_at-v-requires : goal.vote_at-v-requires
vote_at-v-requires c =
    let rest : Dropped c.args.groups.now.numbers c.args.groups.now.sets c.args.groups.now.bases c.args.views.now c.args.present c.args.config.nodes c.args.q c.below-arrived.result c.from_fit-rest.result = record { within = c.from_fit-rest.ensures.within; unfit = c.from_fit-rest.ensures.unfit } in
    let first : (c.lowest-first.result < c.args.config.nodes) × (has c.lowest-first.result c.from_fit-rest.result ≡ true) × (has c.lowest-first.result c.args.present ≡ true) = let a = c.args in
    first_in a.groups.now.numbers a.groups.now.sets a.groups.now.bases a.views.now a.present a.config a.q c.below-arrived.result c.from_fit-rest.result c.below-arrived.ensures (rest) c.lowest-first.result c.requires.0 c.if-rest-eq0.false c.lowest-first.ensures in
    omega (arith, (first).0, c.requires.0)

-- above what the second search asks: to leave out a vote that fits is wrong here alone
pub returns-then-from_fit-eq0 : goal.returns-then-from_fit-eq0
returns-then-from_fit-eq0 c =
    let rest : Dropped c.args.groups.now.numbers c.args.groups.now.sets c.args.groups.now.bases c.args.views.now c.args.present c.args.config.nodes c.args.q c.below-arrived.result c.from_fit-rest.result = record { within = c.from_fit-rest.ensures.within; unfit = c.from_fit-rest.ensures.unfit } in
    let a = c.args in
    c.enters_with.ensures ∙ enters-only a.groups.now.numbers a.groups.now.sets a.groups.now.bases a.views.now a.present a.config a.q c.below-arrived.result c.from_fit-rest.result c.below-arrived.ensures (rest) c.lowest-first.result c.requires.0 c.if-rest-eq0.false c.lowest-first.ensures c.equal_votes-m.result c.vote_at-v.result (c.from_fit-rest.ensures.fit c.if-rest-eq0.false) c.vote_at-v.ensures c.equal_votes-m.ensures c.difference-others.result c.from_fit.result c.difference-others.ensures (record { within = c.from_fit.ensures.within; unfit = c.from_fit.ensures.unfit }) c.intersection.result c.intersection.ensures c.if-from_fit-eq0.true

pub from_fit-requires : goal.from_fit-requires
from_fit-requires c =
    let rest : Dropped c.args.groups.now.numbers c.args.groups.now.sets c.args.groups.now.bases c.args.views.now c.args.present c.args.config.nodes c.args.q c.below-arrived.result c.from_fit-rest.result = record { within = c.from_fit-rest.ensures.within; unfit = c.from_fit-rest.ensures.unfit } in
    let a = c.args in record { n_bound = (c.requires.0, omega (arith, c.requires.0, c.requires.1)); by_index = others-in a.groups.now.numbers a.groups.now.sets a.groups.now.bases a.views.now a.present a.config a.q c.below-arrived.result c.from_fit-rest.result c.below-arrived.ensures (rest) c.lowest-first.result c.requires.0 c.if-rest-eq0.false c.lowest-first.ensures c.equal_votes-m.result c.difference-others.result c.difference-others.ensures }

pub returns-else-from_fit-eq0 : goal.returns-else-from_fit-eq0
returns-else-from_fit-eq0 c =
    let rest : Dropped c.args.groups.now.numbers c.args.groups.now.sets c.args.groups.now.bases c.args.views.now c.args.present c.args.config.nodes c.args.q c.below-arrived.result c.from_fit-rest.result = record { within = c.from_fit-rest.ensures.within; unfit = c.from_fit-rest.ensures.unfit } in
    let a = c.args in
    enters-other a.groups.now.numbers a.groups.now.sets a.groups.now.bases a.views.now a.present a.config a.q c.below-arrived.result c.from_fit-rest.result c.below-arrived.ensures (rest) c.lowest-first.result c.requires.0 c.if-rest-eq0.false c.lowest-first.ensures c.equal_votes-m.result c.vote_at-v.result (c.from_fit-rest.ensures.fit c.if-rest-eq0.false) c.vote_at-v.ensures c.equal_votes-m.ensures c.difference-others.result c.from_fit.result c.difference-others.ensures (record { within = c.from_fit.ensures.within; unfit = c.from_fit.ensures.unfit }) c.if-from_fit-eq0.false (c.from_fit.ensures.fit c.if-from_fit-eq0.false)
