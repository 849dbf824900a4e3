use mathlib.Core.Path.{◌≡◌, ap, ◌∙◌}
use Prim.Native.Nat.{ℕ}
use Rattle.sets.specs.Sets.{◌∪◌, those}
use Rattle.rules.specs.declared.Faults.{Faults}
use Rattle.rules.specs.Faults.{disturbed}
use Rattle.cluster_states.specs.States.{faults_of}
use Rattle.cluster_reference.proofs.Watching.{disturbed_are, steady-known, kept-is, first_in, stepped, halted-are, entered-are}
use Rattle.cluster_reference.proofs.step.Goals as goal

pub held_after-requires : goal.held_after-requires
held_after-requires c =
    let a = c.args in
    let f : Faults = faults_of a.m a.unheard.now a.missed.now in
    let now : c.disturbed_nodes-disturbed.result ≡ those a.config.nodes (disturbed f) = disturbed_are a.config.nodes c.union-marked.result c.disturbed_nodes-disturbed.result f
    (c.union-marked.ensures ∙ ap (λ (x : ℕ). x ∪ f.vote_lost) c.union.ensures) c.disturbed_nodes-disturbed.ensures in
    first_in a.config a.states.now a.w f _ (c.steady_quorum-steady.ensures ∙ steady-known a.config a.states.now a.w f _ a.w.group now) c.requires

pub returns : goal.returns
returns c =
    let a = c.args in
    let s = a.states.now in
    let f : Faults = faults_of a.m a.unheard.now a.missed.now in
    let now : c.disturbed_nodes-disturbed.result ≡ those a.config.nodes (disturbed f) = disturbed_are a.config.nodes c.union-marked.result c.disturbed_nodes-disturbed.result f
    (c.union-marked.ensures ∙ ap (λ (x : ℕ). x ∪ f.vote_lost) c.union.ensures) c.disturbed_nodes-disturbed.ensures in
    let steady = c.steady_quorum-steady.ensures ∙ steady-known a.config s a.w f _ a.w.group now in
    let next = c.advance.new.states in record { watch_after = stepped a.config s a.w f _ steady c.requires next c.advance.ensures _ _ now c.held_after.ensures; kept_value = c.is_some.ensures ∙ kept-is a.config s a.w f _ steady; halted_value = halted-are a.config s f c.rule_one-before.result next c.rule_one-before.ensures c.advance.ensures c.difference.result c.difference.ensures; entered_value = entered-are a.config s f c.rule_one-before.result next c.rule_one-before.ensures c.advance.ensures c.intersection.result c.intersection.ensures }
