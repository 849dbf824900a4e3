-- `print_text::Text::put_decimal` meets its contract. Assumes nothing.
use mathlib.Core.Path.{refl, ap}
use Prim.Native.Nat.{ℕ}
use Rattle.print_text.specs.Text.{digits, decimal_text}
use Rattle.print_text.proofs.Appending.{same}
use Rattle.print_text.proofs.Text.put_decimal.Goals as goal

pub returns : goal.returns
unfolding decimal_text
returns c =
    record {
      appended = same (ap (λ (k : ℕ). digits 10 k c.args.x) c.places.ensures.0) c.put_digits-self.ensures;
      same_reference = refl;
    }
