-- `print_pieces::Session::is_whole` meets its contract. Assumes nothing.
use mathlib.Core.Path.{sym, ap, ◌∙◌}
use Rattle.print_pieces.specs.declared.Session.{Session}
use Rattle.print_pieces.specs.Pieces.{is_begun, whole_in}
use Rattle.print_pieces.proofs.Windows.{whole-there}
use Rattle.print_pieces.proofs.Session.is_whole.Goals as goal

pub returns-in-Fresh : goal.returns-in-Fresh
unfolding whole_in
returns-in-Fresh c = sym (ap (λ (z : Session). whole_in (is_begun z) c.args.left.now) c.in-Fresh.is)

pub returns-in-Begun : goal.returns-in-Begun
returns-in-Begun c =
    let s = c.args.left.now in
    whole-there s _ (λ e. c.read.ensures.there.0 (sym c.is_some.ensures ∙ e)) (λ h. c.is_some.ensures ∙ c.read.ensures.there.1 h)
    ∙ sym (ap (λ (z : Session). whole_in (is_begun z) s) c.in-Begun.is)
