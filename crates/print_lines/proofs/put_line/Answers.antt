-- `print_lines::put_line` meets its contract: one append after the other. Assumes nothing.
use native.Mathlib.Omega.{arith}
use Rattle.std.proofs.Common.{rules}
use Rattle.print_text.proofs.Digits.{decimal_length}
use Rattle.print_text.proofs.Putting.{then, leaves}
use Rattle.print_run.specs.Printed.{fields}
use Rattle.print_run.proofs.Lengths.{promise_length, group-length}
use Rattle.print_lines.proofs.put_line.Goals as goal

pub put_promise-requires : goal.put_promise-requires
put_promise-requires c = omega (arith, leaves 20 80 c.put_decimal.ensures (decimal_length _) c.requires)

pub put_group-requires : goal.put_group-requires
put_group-requires c =
    let one = leaves 20 80 c.put_decimal.ensures (decimal_length _) c.requires in
    omega (arith, leaves 8 72 c.put_promise.ensures (promise_length _) one)

pub put_masks-requires : goal.put_masks-requires
put_masks-requires c =
    let one = leaves 20 80 c.put_decimal.ensures (decimal_length _) c.requires in
    let two = leaves 8 72 c.put_promise.ensures (promise_length _) one in
    omega (arith, leaves 37 35 c.put_group.ensures (group-length _) two)

pub returns : goal.returns
unfolding fields
returns c =
    let all = then c.put_decimal.ensures (then c.put_promise.ensures (then c.put_group.ensures c.put_masks.ensures)) in
    search (rules, all.appended, all.same_reference)
