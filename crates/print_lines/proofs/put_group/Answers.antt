-- `print_lines::put_group` meets its contract. Assumes nothing.
use mathlib.Core.Path.{sym}
use native.Mathlib.Omega.{arith}
use Rattle.print_text.specs.Text.{ascii}
use Rattle.print_text.proofs.Digits.{decimal_length}
use Rattle.print_text.proofs.Putting.{then, leaves}
use Rattle.print_run.specs.Printed.{group_text}
use Rattle.print_lines.proofs.put_group.Goals as goal

pub put_byte-requires : goal.put_byte-requires
put_byte-requires c = omega (arith, leaves 20 17 c.put_decimal.ensures (decimal_length _) c.requires)

pub put_hex-requires : goal.put_hex-requires
put_hex-requires c = leaves 1 16 c.put_byte.ensures (omega arith) (leaves 20 17 c.put_decimal.ensures (decimal_length _) c.requires)

pub returns-in-Some : goal.returns-in-Some
unfolding group_text ascii
returns-in-Some c = rw (c.in-Some.is, sym c.from.ensures) (then c.put_decimal.ensures (then c.put_byte.ensures c.put_hex.ensures))

pub returns-in-None : goal.returns-in-None
unfolding group_text ascii
returns-in-None c = rw c.in-None.is c.put.ensures
