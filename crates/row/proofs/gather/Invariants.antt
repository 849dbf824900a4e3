-- At the loop's test the entries from place q on are still to gather, of any row of which `entry` gives the entries. Assumes nothing.
use mathlib.Core.Path.{◌≡◌}
use mathlib.Core.List.{List}
use Rattle.std.specs.Prelude.{Some}
use lib.ListN.{drop}
use Rattle.state.specs.declared.Node.{Node}
use Rattle.row.specs.Gathered.{nothing_of, gathered, Gives}
use Rattle.row.proofs.gather.Given as goal

abbrev pub invariant-loop-q : goal.invariant-loop-q
invariant-loop-q g l =
    (row : List Node) → Gives (goal.F-post g l.entry) l.count row → gathered l.n nothing_of 0 row ≡ gathered l.n (Some l.states) l.q (drop l.q row)
