-- `print_pieces::Course::next` meets its contract. Assumes nothing.
use mathlib.Core.Path.{sym, ◌∙◌}
use native.Mathlib.Omega.{arith}
use lib.ListN.{length}
use borrow.Author.Tests.{eqb-true, eqb-false}
use Rattle.refusal.proofs.Codes.{numbered}
use Rattle.print_pieces.proofs.Giving.{gives-end, gives-refused}
use Rattle.print_pieces.proofs.Course.next.Goals as goal

pub returns-then-is_empty : goal.returns-then-is_empty
returns-then-is_empty c =
    let a = c.args in
    gives-end a.self a.states.now a.left.now a.out.now a.at (omega (arith, c.requires)) (eqb-true (length a.left.now) 0 (sym c.is_empty.ensures ∙ c.if-is_empty.true))

pub returns-in-Err : goal.returns-in-Err
returns-in-Err c =
    let a = c.args in
    gives-refused a.self a.states.now a.left.now a.out.now a.at _ _ _ (eqb-false (length a.left.now) 0 (sym c.is_empty.ensures ∙ c.if-is_empty.false))
    (c.from.ensures ∙ c.in-Err.ensures.refused) (λ z. numbered _ (sym c.from.ensures ∙ z)) c.put_refusal-last.ensures
