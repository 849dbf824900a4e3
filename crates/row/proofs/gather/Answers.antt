-- What is still to gather of a row, entry by entry, is said in `Lists`. Assumes nothing.
use mathlib.Core.Path.{sym, ap, ◌∙◌}
use native.Mathlib.Omega.{arith}
use Rattle.std.specs.Prelude.{Some}
use Rattle.cluster_states.specs.declared.States.{States}
use Rattle.row.specs.Gathered.{nothing_of, gathered}
use Rattle.row.proofs.Lists.{gathered_next, gathered_stop, gathered_all}
use Rattle.row.proofs.gather.Goals as goal

pub loop-q-init : goal.loop-q-init
unfolding nothing_of
loop-q-init g c = λ row h. ap (λ (s : States). gathered c.args.n (Some s) 0 row) (sym c.no_states-states.ensures)

pub returns-then-not-in_place : goal.returns-then-not-in_place
returns-then-not-in_place g c = λ row h.
    let count = h.0 in
    let x = c.entry-x.result in
    sym (c.loop-q.invariant row h
    ∙ gathered_stop c.args.n c.loop-q.q _ row x (omega arith) (omega arith) (h.1 c.loop-q.q x x (omega arith) c.entry-x.ensures) (sym c.in_place.ensures ∙ c.if-not-in_place.true))

pub loop-q-preserved : goal.loop-q-preserved
loop-q-preserved g c = λ row h.
    let count = h.0 in
    let x = c.entry-x.result in
    c.loop-q.invariant row h
    ∙ gathered_next c.args.n c.loop-q.q _ row x (omega arith) (omega arith) (h.1 c.loop-q.q x x (omega arith) c.entry-x.ensures) (sym c.in_place.ensures ∙ c.if-not-in_place.false) _
    c.put_state.ensures

pub returns : goal.returns
returns g c = λ row h.
    let count = h.0 in
    sym (c.loop-q.invariant row h ∙ gathered_all c.args.n (Some c.loop-q.states) c.loop-q.q row (omega arith))
