-- `print_answers::put_named` meets its contract. Assumes nothing.
use Prim.Native.Nat.{◌+◌}
use native.Mathlib.Omega.{arith}
use lib.ListN.{length}
use Rattle.print_text.proofs.Putting.{then, leaves}
use Rattle.print_answers.proofs.Lengths.{name_length}
use Rattle.print_answers.proofs.put_named.Goals as goal

pub put_name-requires : goal.put_name-requires
put_name-requires c =
    let a = c.args in
    omega (arith, leaves (length a.before.now) (8 + length a.after.now) c.put.ensures (omega arith) c.requires)

pub put-requires-2 : goal.put-requires-2
put-requires-2 c =
    let a = c.args in
    let one = leaves (length a.before.now) (8 + length a.after.now) c.put.ensures (omega arith) c.requires in
    leaves 8 (length a.after.now) c.put_name.ensures (name_length a.p) one

pub returns : goal.returns
returns c = then c.put.ensures (then c.put_name.ensures c.put-2.ensures)
