use Rattle.std.proofs.Common.{rules}
use Rattle.bus_channels.specs.Channels.{heartbeat_read}
use Rattle.bus_channels.proofs.read_heartbeat.Goals as goal

pub returns : goal.returns
unfolding heartbeat_read
returns c = search rules
