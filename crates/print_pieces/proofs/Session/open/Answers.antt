-- `print_pieces::Session::open` meets its contract. Assumes nothing.
use mathlib.Core.Path.{sym, ◌∙◌}
use native.Mathlib.Omega.{arith}
use Rattle.refusal.proofs.Codes.{numbered}
use Rattle.print_pieces.proofs.Giving.{opens-refused, opens-goes}
use Rattle.print_pieces.proofs.Session.open.Goals as goal

pub returns-in-Err : goal.returns-in-Err
returns-in-Err c =
    let a = c.args in
    opens-refused a.quiet a.states.now a.left.now a.out.now a.at _ _ _ (c.from.ensures ∙ c.in-Err.ensures.refused) (λ z. numbered _ (sym c.from.ensures ∙ z))
    c.put_refusal.ensures

pub returns-in-Ok : goal.returns-in-Ok
returns-in-Ok c =
    let a = c.args in
    opens-goes a.quiet a.states.now a.left.now (sym c.in-Ok.ensures.refused) c.from-nodes.result c.in-Ok.start.founding (c.from-nodes.ensures ∙ c.in-Ok.ensures.read.2)
    c.in-Ok.ensures.read.3 c.begin-course.result _ c.begin-course.ensures a.out.now a.at (omega (arith, c.requires))
