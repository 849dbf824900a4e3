-- `print_answers::put_asked` meets its contract. Assumes nothing.
use mathlib.Core.Path.{sym, ap}
use Rattle.print_text.specs.Text.{ascii}
use Rattle.print_text.proofs.Putting.{same}
use Rattle.print_answers.specs.Answers.{version_line, answer_text}
use Rattle.print_answers.proofs.put_asked.Goals as goal

pub returns-in-Run : goal.returns-in-Run
unfolding answer_text
returns-in-Run c = same (sym (ap (answer_text _) c.in-Run.is)) c.put_hint.ensures

pub returns-in-Help : goal.returns-in-Help
unfolding answer_text
returns-in-Help c = same (sym (ap (answer_text _) c.in-Help.is)) c.put_help.ensures

pub returns-in-Version : goal.returns-in-Version
unfolding answer_text version_line ascii
returns-in-Version c = same (sym (ap (answer_text _) c.in-Version.is)) c.put_named.ensures

pub returns-in-Wrong : goal.returns-in-Wrong
unfolding answer_text
returns-in-Wrong c = same (sym (ap (answer_text _) c.in-Wrong.is)) c.put_usage.ensures
