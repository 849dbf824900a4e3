-- `print_answers::put_refusals` meets its contract. Assumes nothing.
use Rattle.print_text.specs.Text.{ascii}
use Rattle.print_answers.specs.Answers.{refusals_text}
use Rattle.print_answers.proofs.put_refusals.Goals as goal

pub returns : goal.returns
unfolding refusals_text ascii
returns c = c.put_named.ensures
