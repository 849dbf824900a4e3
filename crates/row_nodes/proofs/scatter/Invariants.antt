-- At the loop's test the first q entries are replaced. Assumes nothing.
use mathlib.Core.Path.{◌≡◌}
use Rattle.row.specs.Gathered.{node_of}
use Rattle.row.proofs.Lists.{upto}
use Rattle.row_nodes.proofs.scatter.Given as goal

abbrev pub invariant-loop-q : goal.invariant-loop-q
invariant-loop-q l = l.row ≡ upto (node_of l.n l.states) 0 l.q l.fn.row
