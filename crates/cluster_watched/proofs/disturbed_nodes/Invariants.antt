use mathlib.Core.Path.{◌≡◌}
use Rattle.sets.specs.Sets.{those}
use Rattle.cluster_watched.specs.Watched.{misses_at}
use Rattle.cluster_watched.proofs.disturbed_nodes.Given as goal

abbrev pub invariant-loop-q : goal.invariant-loop-q
invariant-loop-q l = l.m ≡ those l.q (misses_at l.heartbeats l.votes)
