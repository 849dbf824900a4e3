-- `print_answers::put_name` meets its contract. Assumes nothing.
use mathlib.Core.Path.{sym, ap}
use Rattle.print_text.specs.Text.{ascii}
use Rattle.print_text.proofs.Putting.{same}
use Rattle.print_answers.specs.Answers.{name_of}
use Rattle.print_answers.proofs.put_name.Goals as goal

pub returns-in-Group : goal.returns-in-Group
unfolding name_of ascii
returns-in-Group c = same (sym (ap name_of c.in-Group.is)) c.put.ensures

pub returns-in-Quiet : goal.returns-in-Quiet
unfolding name_of ascii
returns-in-Quiet c = same (sym (ap name_of c.in-Quiet.is)) c.put-in-Quiet.ensures
