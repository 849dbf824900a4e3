use Rattle.std.proofs.Common.{rules}
use Rattle.bus_channels.specs.Channels.{vote_read}
use Rattle.bus_votes.proofs.read_vote.Goals as goal

pub returns : goal.returns
unfolding vote_read
returns c = search rules
