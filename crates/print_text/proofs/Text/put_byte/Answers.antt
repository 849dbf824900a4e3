-- `print_text::Text::put_byte` meets its contract. Assumes nothing.
use mathlib.Core.Path.{refl}
use native.Mathlib.Omega.{arith}
use Rattle.print_text.proofs.Appending.{byte}
use Rattle.print_text.proofs.Text.put_byte.Goals as goal

pub returns : goal.returns
returns c =
    let t = c.args.self.now in
    record { appended = byte t.out.now t.at c.args.b (omega arith); same_reference = refl }
