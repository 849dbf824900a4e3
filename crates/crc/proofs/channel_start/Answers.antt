-- `crc::channel_start` meets its contract. Assumes nothing.
use borrow.Author.Tests.{eq-eqb, ne_eqb}
use Rattle.crc.specs.Crc.{channel_start}
use Rattle.crc.proofs.channel_start.Goals as goal

pub returns-then-channel-eq0-clause-value : goal.returns-then-channel-eq0-clause-value
unfolding channel_start
returns-then-channel-eq0-clause-value c = simp (eq-eqb _ _ c.if-channel-eq0.true)

pub returns-else-channel-eq0-clause-value : goal.returns-else-channel-eq0-clause-value
unfolding channel_start
returns-else-channel-eq0-clause-value c = simp (ne_eqb _ _ c.if-channel-eq0.false)
