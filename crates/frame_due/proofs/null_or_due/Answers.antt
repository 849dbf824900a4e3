-- `frame_due::null_or_due` meets its contract. Assumes nothing.
use mathlib.Core.Path.{sym, ◌∙◌}
use borrow.Author.Tests.{eq-eqb, ne_eqb}
use Rattle.frames.specs.Read.{is_null}
use Rattle.frames.specs.Looked.{due_fault}
use Rattle.frame_due.proofs.null_or_due.Goals as goal

pub returns-then-not-sent : goal.returns-then-not-sent
unfolding is_null due_fault
returns-then-not-sent c = λ s e. simp (e, eq-eqb _ _ c.if-not-sent.true)

pub returns-then-not-is_due : goal.returns-then-not-is_due
unfolding is_null due_fault
returns-then-not-is_due c =
    λ s e. simp (e, ne_eqb _ _ c.if-not-sent.false, sym (c.is_due-is_due.ensures s e) ∙ c.if-not-is_due.true)

pub returns : goal.returns
unfolding is_null due_fault
returns c =
    λ s e. simp (e, ne_eqb _ _ c.if-not-sent.false, sym (c.is_due-is_due.ensures s e) ∙ c.if-not-is_due.false)
