use Rattle.std.proofs.Common.{rules}
use Rattle.bus_channels.specs.Channels.{decided_read}
use Rattle.bus_cycle.proofs.decide.Goals as goal

pub returns-then-contains : goal.returns-then-contains
unfolding decided_read
returns-then-contains c = search rules

pub returns-then-contains-2 : goal.returns-then-contains-2
unfolding decided_read
returns-then-contains-2 c = search rules

pub returns-then-contains-3 : goal.returns-then-contains-3
unfolding decided_read
returns-then-contains-3 c = search rules

pub returns-else-contains-3 : goal.returns-else-contains-3
unfolding decided_read
returns-else-contains-3 c = search rules
