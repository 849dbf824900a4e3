-- `frame_reading::receive_vote` meets its contract: two votes are equal if all four numbers are. Assumes nothing.
use mathlib.Core.Path.{sym, ◌∙◌}
use Rattle.frames.proofs.Votes.{equal-vote}
use Rattle.frame_reading.proofs.receive_vote.Goals as goal

pub returns-then-eq : goal.returns-then-eq
returns-then-eq c = let e = sym (equal-vote c.in-Ok-Ok.v c.in-Ok-Ok.w) ∙ sym c.eq.ensures ∙ c.if-eq.true in simp (c.in-Ok-Ok.is-0, c.in-Ok-Ok.is-1, e)

pub returns-else-eq : goal.returns-else-eq
returns-else-eq c = let e = sym (equal-vote c.in-Ok-Ok.v c.in-Ok-Ok.w) ∙ sym c.eq.ensures ∙ c.if-eq.false in simp (c.in-Ok-Ok.is-0, c.in-Ok-Ok.is-1, e)
