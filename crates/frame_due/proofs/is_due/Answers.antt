-- `frame_due::is_due` meets its contract: each test is one of `is_due`. Assumes nothing.
use mathlib.Core.Path.{sym, ◌∙◌}
use native.Mathlib.Nat.{div-one}
use borrow.Author.Tests.{eq-eqb, ne_eqb}
use Rattle.frames.specs.Read.{is_due}
use Rattle.frame_due.proofs.is_due.Goals as goal

pub returns-then-h-ne0 : goal.returns-then-h-ne0
unfolding is_due
returns-then-h-ne0 c = λ s e. simp (e, ne_eqb _ _ c.if-h-ne0.true)

pub returns-then-h-ne0-2 : goal.returns-then-h-ne0-2
unfolding is_due
returns-then-h-ne0-2 c = λ s e. simp (e, eq-eqb _ _ c.if-h-ne0.false, ne_eqb _ _ c.if-h-ne0-2.true)

pub returns-then-h-from : goal.returns-then-h-from
unfolding is_due
returns-then-h-from c = λ s e. simp (e, eq-eqb _ _ c.if-h-ne0.false, eq-eqb _ _ c.if-h-ne0-2.false, ne_eqb _ _ (λ n. c.if-h-from.true (n ∙ sym c.from.ensures)))

pub returns-then-h-from-2 : goal.returns-then-h-from-2
unfolding is_due
returns-then-h-from-2 c =
    λ s e. simp (e, div-one, eq-eqb _ _ c.if-h-ne0.false, eq-eqb _ _ c.if-h-ne0-2.false, eq-eqb _ _ (c.if-h-from.false ∙ c.from.ensures), ne_eqb _ _ (λ n. c.if-h-from-2.true (n ∙ sym c.from-2.ensures)))

pub returns-else-words_due : goal.returns-else-words_due
unfolding is_due
returns-else-words_due c =
    λ s e. simp (e, div-one, eq-eqb _ _ c.if-h-ne0.false, eq-eqb _ _ c.if-h-ne0-2.false, eq-eqb _ _ (c.if-h-from.false ∙ c.from.ensures), eq-eqb _ _ (c.if-h-from-2.false ∙ c.from-2.ensures), c.if-words_due.false, sym (c.words_due.ensures s e) ∙ c.if-words_due.false)

pub returns-then-words_due : goal.returns-then-words_due
unfolding is_due
returns-then-words_due c =
    λ s e. simp (e, div-one, eq-eqb _ _ c.if-h-ne0.false, eq-eqb _ _ c.if-h-ne0-2.false, eq-eqb _ _ (c.if-h-from.false ∙ c.from.ensures), eq-eqb _ _ (c.if-h-from-2.false ∙ c.from-2.ensures), sym (c.words_due.ensures s e) ∙ c.if-words_due.true, c.indicators.ensures s e)
