-- `crc::header_check` meets its contract: the word's twenty bits are those of sync, startup, number and length.
-- Assumes nothing.
use mathlib.Core.Path.{◌∙◌}
use native.Mathlib.Omega.{arith}
use Rattle.crc.proofs.Laws.{header_word}
use Rattle.crc.proofs.header_check.Goals as goal

pub returns-clause-value : goal.returns-clause-value
returns-clause-value c = let a = c.args in c.bits_step.ensures.value ∙ header_word a.sync a.startup a.number a.length (omega arith) (omega arith) (omega arith)
