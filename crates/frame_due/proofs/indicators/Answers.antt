-- `frame_due::indicators` meets its contract. Assumes nothing.
use borrow.Author.Tests.{eq-eqb, ne_eqb}
use Rattle.frames.specs.Looked.{indicators_of}
use Rattle.frame_due.proofs.indicators.Goals as goal

pub returns-in-Heartbeat : goal.returns-in-Heartbeat
unfolding indicators_of
returns-in-Heartbeat c = λ s e. simp (c.in-Heartbeat.is, e)

pub returns-then-sync-eq0 : goal.returns-then-sync-eq0
unfolding indicators_of
returns-then-sync-eq0 c = λ s e. simp (c.in-Vote.is, e, eq-eqb _ _ c.if-sync-eq0.true)

pub returns-else-sync-eq0 : goal.returns-else-sync-eq0
unfolding indicators_of
returns-else-sync-eq0 c = λ s e. simp (c.in-Vote.is, e, ne_eqb _ _ c.if-sync-eq0.false)
