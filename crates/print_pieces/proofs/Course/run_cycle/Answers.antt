-- `print_pieces::Course::run_cycle` meets its contract. Assumes nothing.
use mathlib.Core.Path.{refl}
use native.Mathlib.Omega.{arith}
use Rattle.table.proofs.Laws.{accepted}
use Rattle.table.proofs.Missed.{faults_are}
use Rattle.print_pieces.proofs.Giving.{gives-cycle}
use Rattle.print_pieces.proofs.Course.run_cycle.Goals as goal

pub invariant_of-course : goal.invariant_of-course
invariant_of-course c =
    let z = c.args.self in
    let t = accepted z.config.nodes z.cycle c.args.cycle.bytes.now c.requires.accepted in
    record { few = z.few; counted = omega (arith, t.number) }

pub returns : goal.returns
returns c =
    let a = c.args in
    let s = a.cycle.bytes.now in
    gives-cycle a.self a.states.now s c.requires.accepted c.length.result c.length.ensures _
    (faults_are s c.marks.result _ _ c.marks.ensures c.cycle_missed.ensures.heartbeats_after c.cycle_missed.ensures.votes_after)
    _ _ c.step-turn.result.kept c.step-turn.result.halted c.step-turn.result.entered refl refl
    c.step-turn.ensures.watch_after c.step-turn.ensures.kept_value c.step-turn.ensures.halted_value c.step-turn.ensures.entered_value
    a.out.now a.at c.put_line-end.new.out c.put_line-end.result c.put_line-end.ensures
