-- `print_answers::put_mode` meets its contract. Assumes nothing.
use mathlib.Core.Path.{sym, ap}
use native.Mathlib.Omega.{arith}
use Rattle.print_text.specs.Text.{ascii}
use Rattle.print_text.proofs.Putting.{none, same}
use Rattle.print_answers.specs.Answers.{mode_text}
use Rattle.print_answers.proofs.put_mode.Goals as goal

pub returns-in-Group : goal.returns-in-Group
unfolding mode_text
returns-in-Group c = same (sym (ap mode_text c.in-Group.is)) (none c.args.text.now (omega arith))

pub returns-in-Quiet : goal.returns-in-Quiet
unfolding mode_text ascii
returns-in-Quiet c = same (sym (ap mode_text c.in-Quiet.is)) c.put.ensures
