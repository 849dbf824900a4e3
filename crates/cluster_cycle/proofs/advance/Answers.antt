use mathlib.Core.Path.{refl}
use lib.ListN.{get_or}
use Rattle.sets.specs.Sets.{◌∖◌}
use Rattle.rules.specs.declared.Faults.{Faults}
use Rattle.cluster_states.specs.States.{states_of, faults_of}
use Rattle.cluster_tallies.proofs.Tallies.{inside_less}
use Rattle.cluster_states.proofs.Whole.{members_below, voting-below, run_cycle}
use Rattle.cluster_cycle.proofs.Silent.{rest-decided}
use Rattle.cluster_cycle.proofs.advance.Goals as goal

pub voting_of-voting-requires-clause-below : goal.voting_of-voting-requires-clause-below
voting_of-voting-requires-clause-below c =
    let a = c.args in
    members_below a.config a.states.now (faults_of a.m a.unheard.now a.missed.now) c.rule_one-w.result c.rule_one-w.ensures

pub decide_all-states-requires-clause-below : goal.decide_all-states-requires-clause-below
decide_all-states-requires-clause-below c =
    let a = c.args in
    voting-below a.config a.states.now.groups.sets _ c.rule_one-w.result _ a.unheard.now c.voting_of-voting.result c.voting_of-voting.ensures

pub decide_all-states-requires-clause-within : goal.decide_all-states-requires-clause-within
decide_all-states-requires-clause-within c =
    let d = c.voting_of-voting.result in
    inside_less d _ _ d (λ p h. h) c.difference-out.ensures

-- nobody votes
pub returns-then-voting-eq0 : goal.returns-then-voting-eq0
returns-then-voting-eq0 c =
    let a = c.args in
    let s = a.states.now in
    let faults : Faults = faults_of a.m a.unheard.now a.missed.now in
    let d = c.voting_of-voting.result in
    run_cycle a.config s faults c.rule_one-w.result _ _ _ _ d (d ∖ a.m.vote_lost) _ (states_of c.resting-states.result s.groups.numbers s.groups.sets _) c.rule_one-w.ensures c.difference.ensures c.difference-2.ensures
    c.intersection.ensures c.difference-3.ensures c.voting_of-voting.ensures refl c.views_of.ensures
    (λ q l. rest-decided s.groups.numbers s.groups.sets s.groups.bases _ a.config c.rule_one-w.result _ a.unheard.now d c.voting_of-voting.ensures c.if-voting-eq0.true a.m.vote_lost (get_or a.missed.now q 0) q l c.resting-states.result c.resting-states.ensures)

pub returns : goal.returns
returns c =
    let a = c.args in
    run_cycle a.config a.states.now (faults_of a.m a.unheard.now a.missed.now) c.rule_one-w.result _ _ _ _ _ _ _ _ c.rule_one-w.ensures c.difference.ensures c.difference-2.ensures
    c.intersection.ensures c.difference-3.ensures c.voting_of-voting.ensures c.difference-out.ensures c.views_of.ensures c.decide_all-states.ensures
