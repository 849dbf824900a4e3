use Rattle.std.proofs.Common.{rules, ap, sym, ◌∙◌, subst}
use Rattle.table.specs.Records.{faults_at}
use Rattle.cluster_states.specs.States.{row_of}
use Rattle.run_turns.specs.declared.Records.{Records}
use Rattle.run_turns.proofs.Ran.{going_done, states_formed}
use Rattle.run_framed.proofs.Frames.{Showing, showing_begun, showing-done, showing-next}
use Rattle.run_framed.proofs.run_framed.Goals as goal

pub loop-record-init : goal.loop-record-init
loop-record-init c =
    let a = c.args in
    subst (λ (r : Records). Showing a.config (row_of a.config.nodes a.start) a.s.now a.frames.now a.start r.rest.now 0 a.frames.now)
    (sym c.into_iter-record-iterator.ensures.into_iter_gives)
    (showing_begun a.config a.s.now a.frames.now a.start c.requires.by_index c.requires.nodes_bound.1 c.requires.frames_len)

pub cycle-states-requires-clause-by_index : goal.cycle-states-requires-clause-by_index
cycle-states-requires-clause-by_index c = states_formed c.args.config c.loop-record.states c.loop-record.invariant.going.formed

pub loop-record-preserved : goal.loop-record-preserved
loop-record-preserved c =
    let step = c.in-Some.ensures.steps in
    let done = c.cycle-states.ensures in
    showing-next _ _ _ _ _ _ _ _ c.loop-record.invariant c.requires.nodes_bound.0 step.0 _ _ _ _ (c.cycle_faults-faults.ensures ∙ ap faults_at step.1)
    done.result_value done.frames_after step.2 (search rules)

pub returns-clause-result_value : goal.returns-clause-result_value
returns-clause-result_value c =
    let going = c.loop-record.invariant.going in
    going_done _ _ _ _ _ _ going c.in-None.ensures.steps

pub returns-clause-frames_after : goal.returns-clause-frames_after
returns-clause-frames_after c = showing-done _ _ _ _ _ _ _ _ c.loop-record.invariant c.in-None.ensures.steps
