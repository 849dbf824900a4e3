use Rattle.sets.proofs.Nodes.{those-none, those-next}
use Rattle.entry_slots.proofs.VoteBuffer.equal_to.Goals as goal

pub loop-p-init : goal.loop-p-init
loop-p-init c = those-none _

pub loop-p-preserved : goal.loop-p-preserved
loop-p-preserved c = those-next _ _ _ _ _ c.loop-p.invariant c.holds.ensures c.include-m.ensures
