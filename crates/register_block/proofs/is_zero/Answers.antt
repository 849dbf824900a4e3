use Rattle.register_block.proofs.Zeros.{zero_next}
use Rattle.register_block.proofs.is_zero.Goals as goal

pub loop-i-preserved : goal.loop-i-preserved
loop-i-preserved c = zero_next c.args.s.now c.loop-i.i c.loop-i.bits c.loop-i-test.true c.loop-i.invariant
