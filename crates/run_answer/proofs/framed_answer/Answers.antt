-- The same of a run through frames, and of its frames. Assumes nothing.
use mathlib.Core.Path.{◌≡◌, ap, ◌∙◌}
use mathlib.Core.Bool.{true, false}
use Prim.Native.Nat.{ℕ}
use lib.ListN.{length}
use Rattle.rules.specs.OneCycle.{wrong_mode}
use Rattle.bus_units.specs.Run.{frames_length}
use Rattle.table.specs.Table.{table_of}
use Rattle.run_answer.specs.Answered.{ran_status}
use Rattle.run_answer.proofs.Calling.{framed_good, frames_kept, run-most, run-good, run-formed, run-leaves, run-shown}
use Rattle.run_answer.proofs.framed_answer.Goals as goal

pub returns-in_err-begun-clause-shown : goal.returns-in_err-begun-clause-shown
returns-in_err-begun-clause-shown c =
    let a = c.args in
    frames_kept a.mode a.len a.s.now a.frames.now c.in_err-begun.field-0.0 (c.in_err-begun.ensures.refused ∙ ap (λ (k : ℕ). ran_status a.mode k a.s.now) c.lent_entries.ensures)

pub run_framed-requires : goal.run_framed-requires
run_framed-requires c =
    let a = c.args in
    let e = c.in_ok-begun.ensures in
    let b = c.in_ok-begun.begun in
    let good : (wrong_mode a.mode ≡ false) × (length a.frames.now ≡ frames_length) × ((table_of true a.len a.s.now).cycles.refusal ≡ 0) =
    framed_good a.mode (length a.frames.now) a.len a.s.now (e.refused ∙ ap (λ (k : ℕ). ran_status a.mode k a.s.now) c.lent_entries.ensures) in
    record {
      nodes_bound = (run-most a.mode a.len a.s.now good.2 b.config b.states e.begun, run-good a.mode a.len a.s.now good.2 b.config b.states e.begun);
      frames_len = good.1;
      by_index = run-formed a.mode a.len a.s.now good.2 b.config b.states e.begun;
    }

pub returns-clause-left : goal.returns-clause-left
returns-clause-left c =
    let a = c.args in
    let e = c.in_ok-begun.ensures in
    let b = c.in_ok-begun.begun in
    let good = framed_good a.mode (length a.frames.now) a.len a.s.now (e.refused ∙ ap (λ (k : ℕ). ran_status a.mode k a.s.now) c.lent_entries.ensures) in
    run-leaves a.mode a.len a.s.now good.2 b.config b.states e.begun c.run_framed.result c.run_framed.ensures.result_value

pub returns-clause-shown : goal.returns-clause-shown
returns-clause-shown c =
    let a = c.args in
    let e = c.in_ok-begun.ensures in
    let b = c.in_ok-begun.begun in
    let good = framed_good a.mode (length a.frames.now) a.len a.s.now (e.refused ∙ ap (λ (k : ℕ). ran_status a.mode k a.s.now) c.lent_entries.ensures) in
    c.run_framed.ensures.frames_after ∙ run-shown a.mode a.len a.s.now good.2 b.config b.states e.begun good.0 a.frames.now good.1
