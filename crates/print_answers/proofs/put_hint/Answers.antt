-- `print_answers::put_hint` meets its contract: the name, and then the rest at once. Assumes nothing.
use native.Mathlib.Omega.{arith}
use Rattle.print_text.specs.Text.{ascii}
use Rattle.print_text.proofs.Putting.{then, leaves}
use Rattle.print_answers.proofs.Lengths.{name_length}
use Rattle.print_answers.specs.Answers.{hint_line}
use Rattle.print_answers.proofs.put_hint.Goals as goal

pub put_named-requires : goal.put_named-requires
put_named-requires c = omega (arith, leaves 8 82 c.put_name.ensures (name_length c.args.p) c.requires)

pub returns : goal.returns
unfolding hint_line ascii
returns c = then c.put_name.ensures c.put_named.ensures
