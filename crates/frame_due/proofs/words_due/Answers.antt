-- `frame_due::words_due` meets its contract. Assumes nothing.
use Rattle.frames.specs.Looked.{words_due}
use Rattle.frame_due.proofs.words_due.Goals as goal

pub returns-in-Heartbeat : goal.returns-in-Heartbeat
unfolding words_due
returns-in-Heartbeat c = λ s e. simp (c.in-Heartbeat.is, e)

pub returns-in-Vote : goal.returns-in-Vote
unfolding words_due
returns-in-Vote c = λ s e. simp (c.in-Vote.is, e)
