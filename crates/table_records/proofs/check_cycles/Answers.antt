use mathlib.Core.Path.{◌≡◌, sym, ap, ◌∙◌}
use Prim.Native.Nat.{◌<◌}
use lib.ListN.{length}
use Rattle.std.proofs.Common.{rules, arith}
use Rattle.refusal.specs.Codes.{code_of}
use Rattle.table.specs.Records.{cycle_length}
use Rattle.table.specs.Table.{cycles_in}
use Rattle.table.proofs.Cursor.{left, rest-end, rest-refused, rest-shorter, rest-next}
use Rattle.table_records.proofs.check_cycles.Goals as goal

pub returns-in_err-cycle : goal.returns-in_err-cycle
returns-in_err-cycle c =
    let found : code_of c.in_err-cycle.field-0.0 ≡ (cycles_in (length c.args.s.now) c.args.n 1 c.args.s.now).refusal =
    sym (c.loop-rest.invariant.same ∙ rest-refused _ _ _ _ c.loop-rest.invariant.shorter (sym c.is_empty.ensures ∙ c.loop-rest-test.true) _ c.in_err-cycle.ensures.refused) in
    search rules

pub loop-rest-preserved : goal.loop-rest-preserved
loop-rest-preserved c =
    let inv = c.loop-rest.invariant in
    let size : c.length.result ≡ cycle_length c.loop-rest.rest.now = c.length.ensures ∙ ap (λ x. cycle_length x) c.in_ok-cycle.ensures.read in
    let fewer : length (left c.loop-rest.rest.now c.length.result) < length c.loop-rest.rest.now = rest-shorter _ _ _ _ inv.shorter c.in_ok-cycle.ensures.refused _ size in
    record { shorter = omega arith; counted = omega arith; same = inv.same ∙ rest-next _ _ _ _ inv.shorter c.in_ok-cycle.ensures.refused _ size }

pub returns : goal.returns
returns c = sym (c.loop-rest.invariant.same ∙ rest-end _ _ _ _ c.loop-rest.invariant.shorter (sym c.is_empty.ensures ∙ c.loop-rest-test.false))
