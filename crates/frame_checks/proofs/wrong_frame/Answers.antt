-- `frame_checks::wrong_frame` meets its contract. Assumes nothing.
use Rattle.frames.specs.Read.{wrong_frame}
use Rattle.frame_checks.proofs.wrong_frame.Goals as goal

pub returns : goal.returns
unfolding wrong_frame
returns c = simp (c.read.ensures.value, c.from.ensures, c.frame_check-check.ensures.value, c.channel_start.ensures.value)
