-- `frame_writing::wrong_drive` meets its contract. Assumes nothing.
use borrow.Author.Tests.{eq-eqb, ne_eqb}
use Rattle.frames.specs.Written.{wrong_drive}
use Rattle.frame_writing.proofs.wrong_drive.Goals as goal

pub returns-then-drive-eq1 : goal.returns-then-drive-eq1
unfolding wrong_drive
returns-then-drive-eq1 c = simp (eq-eqb _ _ c.if-drive-eq1.true)

pub returns-else-drive-eq1 : goal.returns-else-drive-eq1
unfolding wrong_drive
returns-else-drive-eq1 c = simp (ne_eqb _ _ c.if-drive-eq1.false)
