use mathlib.Core.Path.{◌≡◌, refl, sym, ap, ◌∙◌}
use Rattle.std.proofs.Common.{rules, is_some, unwrap_or}
use Rattle.refusal.specs.Codes.{code_of}
use Rattle.table.specs.Table.{Cycles, table_of}
use Rattle.refusal.proofs.Codes.{numbered}
use Rattle.table.proofs.Cursor.{left, from, table-stops, table-goes-on}
use Rattle.table_records.proofs.check_table.Goals as goal

pub returns-in_err-start-clause-refused : goal.returns-in_err-start-clause-refused
returns-in_err-start-clause-refused c =
    let found : code_of c.in_err-start.field-0.0 ≡ (table_of (is_some c.args.row) (unwrap_or c.args.row 0) c.args.s.now).cycles.refusal =
    sym (ap (λ (x : Cycles). x.refusal) (table-stops _ _ _ _ c.in_err-start.ensures.refused (numbered _))) in
    search rules

pub returns-in_err-check_cycles-clause-refused : goal.returns-in_err-check_cycles-clause-refused
returns-in_err-check_cycles-clause-refused c =
    let start = c.in_ok-start.ensures in
    let rest : (table_of (is_some c.args.row) (unwrap_or c.args.row 0) c.args.s.now).cycles ≡ from c.from.result 1 (left c.args.s.now 12) 0 =
    table-goes-on _ _ _ _ start.refused refl _ (c.from.ensures ∙ start.read.2) in
    let found : code_of c.in_err-check_cycles.field-0.0 ≡ (table_of (is_some c.args.row) (unwrap_or c.args.row 0) c.args.s.now).cycles.refusal =
    c.in_err-check_cycles.ensures ∙ sym (ap (λ (x : Cycles). x.refusal) rest) in
    search rules

pub returns-clause-refused : goal.returns-clause-refused
returns-clause-refused c =
    let start = c.in_ok-start.ensures in
    c.in_ok-check_cycles.ensures ∙ sym (ap (λ (x : Cycles). x.refusal) (table-goes-on _ _ _ _ start.refused refl _ (c.from.ensures ∙ start.read.2)))
