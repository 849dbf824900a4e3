-- `print_answers::put_usage` meets its contract. Assumes nothing.
use Rattle.print_text.specs.Text.{ascii}
use Rattle.print_answers.specs.Answers.{usage_line}
use Rattle.print_answers.proofs.put_usage.Goals as goal

pub returns : goal.returns
unfolding usage_line ascii
returns c = c.put_named.ensures
