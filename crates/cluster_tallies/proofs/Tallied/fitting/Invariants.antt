use Rattle.rules.specs.OneCycle.{fits}
use Rattle.cluster_tallies.specs.Tallied.{arrived}
use Rattle.cluster_tallies.proofs.Looking.{Looked}
use Rattle.cluster_tallies.proofs.Tallied.fitting.Given as goal

abbrev pub invariant-loop-left : goal.invariant-loop-left
invariant-loop-left l = Looked l.self.groups.now.numbers l.self.groups.now.sets l.self.groups.now.bases l.self.views.now l.self.config.nodes l.present (fits l.self.config.nodes l.q (arrived l.self l.present)) l.left l.m

abbrev pub decreases-loop-left : goal.decreases-loop-left
decreases-loop-left l = l.left
