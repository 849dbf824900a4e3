-- `print_answers::put_failed` meets its contract. Assumes nothing.
use mathlib.Core.Path.{sym, ap}
use Rattle.print_text.specs.Text.{ascii}
use Rattle.print_text.proofs.Putting.{same}
use Rattle.print_answers.specs.Answers.{failure_line}
use Rattle.print_answers.proofs.put_failed.Goals as goal

pub returns-in-Read : goal.returns-in-Read
unfolding failure_line ascii
returns-in-Read c = same (sym (ap (failure_line _) c.in-Read.is)) c.put_named.ensures

pub returns-in-Write : goal.returns-in-Write
unfolding failure_line ascii
returns-in-Write c = same (sym (ap (failure_line _) c.in-Write.is)) c.put_named-in-Write.ensures
