use Rattle.sets.proofs.Nodes.{those-none, those-next}
use Rattle.cluster_watched.proofs.disturbed_nodes.Goals as goal

pub loop-q-init : goal.loop-q-init
loop-q-init c = those-none _

pub loop-q-preserved : goal.loop-q-preserved
loop-q-preserved c = those-next _ _ _ _ _ c.loop-q.invariant c.misses_other.ensures c.include-m.ensures
