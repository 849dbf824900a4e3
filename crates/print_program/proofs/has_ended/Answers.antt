-- `print_program::has_ended` meets its contract. Assumes nothing.
use mathlib.Core.Path.{ap, ◌∙◌}
use mathlib.Core.Bool.{not}
use Rattle.print_program.specs.Run.{has_ended}
use Rattle.print_program.proofs.has_ended.Goals as goal

pub returns-then-is_none : goal.returns-then-is_none
unfolding has_ended
returns-then-is_none c = simp (c.if-is_none.true, c.is_none.ensures ∙ ap not c.if-is_none.true)

pub returns-then-r : goal.returns-then-r
unfolding has_ended
returns-then-r c = simp (c.is_none.ensures ∙ ap not c.if-is_none.false, c.if-r.true)

pub returns-then-r-2 : goal.returns-then-r-2
unfolding has_ended
returns-then-r-2 c = simp (c.is_none.ensures ∙ ap not c.if-is_none.false, c.if-r.false, c.if-r-2.true)

pub returns-else-r-2 : goal.returns-else-r-2
unfolding has_ended
returns-else-r-2 c = simp (c.is_none.ensures ∙ ap not c.if-is_none.false, c.if-r.false, c.if-r-2.false)
