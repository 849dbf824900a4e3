-- `print_lines::put_promise` meets its contract. Assumes nothing.
use mathlib.Core.Path.{sym, ap}
use Rattle.print_text.specs.Text.{ascii}
use Rattle.print_text.proofs.Putting.{same}
use Rattle.print_run.specs.Printed.{promise_text}
use Rattle.print_lines.proofs.put_promise.Goals as goal

pub returns-then-kept : goal.returns-then-kept
unfolding promise_text ascii
returns-then-kept c = same (sym (ap promise_text c.if-kept.true)) c.put.ensures

pub returns-else-kept : goal.returns-else-kept
unfolding promise_text ascii
returns-else-kept c = same (sym (ap promise_text c.if-kept.false)) c.put-else-kept.ensures
