use Rattle.std.proofs.Common.{refl, sym, ap, ◌+◌, subst}
use Rattle.table.specs.Records.{faults_at}
use Rattle.cluster_states.specs.States.{row_of}
use Rattle.run_turns.specs.declared.Records.{Records}
use Rattle.run_turns.proofs.Ran.{Passing, going_begun, going_done, going_next}
use Rattle.run_plain.proofs.run_plain.Goals as goal

pub loop-record-init : goal.loop-record-init
loop-record-init c =
    let a = c.args in
    record {
      passing =
          subst (λ (r : Records). Passing a.config (row_of a.config.nodes a.start) a.s.now a.start r.rest.now)
          (sym c.into_iter-record-iterator.ensures.into_iter_gives)
          (record { number = 1; going = going_begun a.config a.s.now a.start c.requires.by_index c.requires.nodes_bound.1 });
      clear = (refl, refl);
    }

pub loop-record-preserved : goal.loop-record-preserved
loop-record-preserved c =
    let step = c.in-Some.ensures.steps in
    let p = c.loop-record.invariant.passing in
    let f = faults_at c.in-Some.record.bytes.now in
    record {
      passing = record { number = p.number + 1; going = going_next _ _ _ _ _ p.number p.going step.0 _ f _ (ap faults_at step.1) c.plain_cycle.ensures.states_after step.2 };
      clear = c.plain_cycle.ensures.unheard_after;
    }

pub returns : goal.returns
returns c =
    let p = c.loop-record.invariant.passing in
    going_done _ _ _ _ _ p.number p.going c.in-None.ensures.steps
