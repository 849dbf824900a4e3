use Rattle.bus_channels.specs.Channels.{vote_read}
use Rattle.bus_votes.proofs.Filled.{Filled}
use Rattle.bus_votes.proofs.arrive.Given as goal

abbrev pub invariant-loop-p : goal.invariant-loop-p
invariant-loop-p l = Filled (vote_read l.n l.bus.count l.bus.reach l.bus.a.now l.bus.b.now) l.p l.arrived
