-- A table that is not refused begins with a whole record, and what follows it is accepted to the end. Assumes nothing.
use mathlib.Core.Path.{◌≡◌}
use mathlib.Core.Bool.{true}
use Rattle.table.specs.Table.{table_of}
use Rattle.run_answer.proofs.Calling.{run_good, run-most, run-good, run-formed, run-leaves}
use Rattle.run_answer.proofs.run_answer.Goals as goal

pub run_plain-requires : goal.run_plain-requires
run_plain-requires c =
    let a = c.args in
    let e = c.in_ok-begun.ensures in
    let b = c.in_ok-begun.begun in
    let z : (table_of true a.len a.s.now).cycles.refusal ≡ 0 = run_good a.mode a.len a.s.now e.refused in
    record {
      nodes_bound = (run-most a.mode a.len a.s.now z b.config b.states e.begun, run-good a.mode a.len a.s.now z b.config b.states e.begun);
      by_index = run-formed a.mode a.len a.s.now z b.config b.states e.begun;
    }

pub returns-clause-left : goal.returns-clause-left
returns-clause-left c =
    let a = c.args in
    let e = c.in_ok-begun.ensures in
    let b = c.in_ok-begun.begun in
    run-leaves a.mode a.len a.s.now (run_good a.mode a.len a.s.now e.refused) b.config b.states e.begun c.run_plain.result c.run_plain.ensures
