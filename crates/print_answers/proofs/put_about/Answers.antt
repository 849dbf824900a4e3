-- `print_answers::put_about` meets its contract. Assumes nothing.
use native.Mathlib.Omega.{arith}
use Rattle.print_text.specs.Text.{ascii}
use Rattle.print_text.proofs.Putting.{then, leaves}
use Rattle.print_answers.specs.Answers.{about_text}
use Rattle.print_answers.proofs.put_about.Goals as goal

pub put_mode-requires : goal.put_mode-requires
put_mode-requires c = leaves 154 140 c.put.ensures (omega arith) c.requires

pub returns : goal.returns
unfolding about_text ascii
returns c = then c.put.ensures c.put_mode.ensures
