use Rattle.bus_channels.proofs.Carried.{channel_none, channel_next}
use Rattle.bus_channels.proofs.filled.Goals as goal

pub loop-q-init : goal.loop-q-init
loop-q-init g c = λ sent e. channel_none sent

pub loop-q-preserved : goal.loop-q-preserved
loop-q-preserved g c = λ sent e. channel_next c.loop-q.q sent c.loop-q.all _ (c.loop-q.invariant sent e) (e _ c.loop-q.q _ c.loop-q-test.true c.put.ensures)
