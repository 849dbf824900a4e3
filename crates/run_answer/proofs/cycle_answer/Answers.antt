-- A refusal of the row, one of the record, or the cycle: each is one of the laws of Calling. Assumes nothing.
use mathlib.Core.Path.{◌≡◌, sym, ap, ◌∙◌, subst}
use mathlib.Core.List.{List}
use Prim.Native.Nat.{ℕ}
use Rattle.std.proofs.Common.{rules}
use Rattle.refusal.specs.Codes.{code_of}
use Rattle.rules.specs.declared.Config.{Config}
use Rattle.rules.specs.Faults.{cycle}
use Rattle.table.specs.Records.{cycle_refusal, faults_at}
use Rattle.cluster_states.specs.States.{row_of}
use Rattle.row_calls.specs.Calls.{cycle_status, cycle_left}
use Rattle.run_answer.specs.Answered.{Leaves}
use Rattle.run_answer.proofs.Calling.{row-refused, record_is, cycle-leaves}
use Rattle.run_answer.proofs.cycle_answer.Goals as goal

pub returns-in_err-row-clause-answered : goal.returns-in_err-row-clause-answered
returns-in_err-row-clause-answered c = λ nodes h.
    let a = c.args in
    let k : code_of c.in_err-row.field-0.0 ≡ cycle_status a.n a.mode nodes a.s.now = row-refused a.n a.mode a.len a.gathered nodes a.s.now h _ c.in_err-row.ensures.refused in
    search rules

pub returns-in_err-cycle-clause-answered : goal.returns-in_err-cycle-clause-answered
returns-in_err-cycle-clause-answered c = λ nodes h.
    let a = c.args in
    let row = c.in_ok-row.ensures in
    let k : code_of c.in_err-cycle.field-0.0 ≡ cycle_status a.n a.mode nodes a.s.now =
    record_is a.n a.mode a.len a.gathered nodes a.s.now h row.refused _ (c.in_err-cycle.ensures.refused ∙ ap (λ (n : ℕ). cycle_refusal n 1 a.s.now) row.row.1) in
    search rules

pub returns-clause-answered : goal.returns-clause-answered
returns-clause-answered c = λ nodes h.
    let a = c.args in
    let row = c.in_ok-row.ensures in
    record_is a.n a.mode a.len a.gathered nodes a.s.now h row.refused _ (c.in_ok-cycle.ensures.refused ∙ ap (λ (n : ℕ). cycle_refusal n 1 a.s.now) row.row.1)

pub returns-clause-left : goal.returns-clause-left
returns-clause-left c = λ nodes h.
    let a = c.args in
    let row = c.in_ok-row.ensures in
    subst (λ (n : ℕ). Leaves n c.cycle.result a.len (cycle_left a.n a.mode nodes a.s.now)) (sym row.row.1)
    (cycle-leaves a.n a.mode a.len a.gathered nodes a.s.now h row.refused (c.in_ok-cycle.ensures.refused ∙ ap (λ (n : ℕ). cycle_refusal n 1 a.s.now) row.row.1)
    _ row.row.3 c.cycle_faults.result c.cycle.result (c.cycle_faults.ensures ∙ ap (λ (x : List ℕ). faults_at x) c.in_ok-cycle.ensures.read)
    (subst (λ (C : Config). row_of C.nodes c.cycle.result ≡ cycle C c.cycle_faults.result (row_of C.nodes c.in_ok-row.row.states)) row.row.0 c.cycle.ensures))
