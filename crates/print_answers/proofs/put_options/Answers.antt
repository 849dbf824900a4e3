-- `print_answers::put_options` meets its contract. Assumes nothing.
use Rattle.print_text.specs.Text.{ascii}
use Rattle.print_answers.specs.Answers.{options_text}
use Rattle.print_answers.proofs.put_options.Goals as goal

pub returns : goal.returns
unfolding options_text ascii
returns c = c.put_named.ensures
