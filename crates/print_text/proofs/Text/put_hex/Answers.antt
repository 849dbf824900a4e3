-- `print_text::Text::put_hex` meets its contract. Assumes nothing.
use mathlib.Core.Path.{refl}
use Rattle.print_text.specs.Text.{hex_text}
use Rattle.print_text.proofs.Text.put_hex.Goals as goal

pub returns : goal.returns
unfolding hex_text
returns c = record { appended = c.put_digits-self.ensures; same_reference = refl }
