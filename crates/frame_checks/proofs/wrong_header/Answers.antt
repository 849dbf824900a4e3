-- `frame_checks::wrong_header` meets its contract. Assumes nothing.
use Rattle.frames.specs.Read.{wrong_header}
use Rattle.frame_checks.proofs.wrong_header.Goals as goal

pub returns : goal.returns
unfolding wrong_header
returns c = λ s e. simp (e, c.header_check.ensures.value)
