-- `print_lines::put_masks` meets its contract: one append after the other. Assumes nothing.
use native.Mathlib.Omega.{arith}
use Rattle.print_text.specs.Text.{ascii}
use Rattle.print_text.proofs.Digits.{hex_length}
use Rattle.print_text.proofs.Putting.{then, leaves}
use Rattle.print_run.specs.Printed.{masks_text}
use Rattle.print_lines.proofs.put_masks.Goals as goal

pub put_hex-requires : goal.put_hex-requires
put_hex-requires c = omega (arith, leaves 1 34 c.put_byte.ensures (omega arith) c.requires)

pub put_byte-requires-2 : goal.put_byte-requires-2
put_byte-requires-2 c =
    let one = leaves 1 34 c.put_byte.ensures (omega arith) c.requires in
    omega (arith, leaves 16 18 c.put_hex.ensures (hex_length _) one)

pub put_hex-requires-2 : goal.put_hex-requires-2
put_hex-requires-2 c =
    let one = leaves 1 34 c.put_byte.ensures (omega arith) c.requires in
    let two = leaves 16 18 c.put_hex.ensures (hex_length _) one in
    omega (arith, leaves 1 17 c.put_byte-2.ensures (omega arith) two)

pub put_byte-requires-3 : goal.put_byte-requires-3
put_byte-requires-3 c =
    let one = leaves 1 34 c.put_byte.ensures (omega arith) c.requires in
    let two = leaves 16 18 c.put_hex.ensures (hex_length _) one in
    let three = leaves 1 17 c.put_byte-2.ensures (omega arith) two in
    leaves 16 1 c.put_hex-2.ensures (hex_length _) three

pub returns : goal.returns
unfolding masks_text ascii
returns c = then c.put_byte.ensures (then c.put_hex.ensures (then c.put_byte-2.ensures (then c.put_hex-2.ensures c.put_byte-3.ensures)))
