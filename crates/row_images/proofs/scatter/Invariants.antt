use mathlib.Core.Path.{◌≡◌}
use Rattle.row_images.proofs.Walks.{Written, placed}
use Rattle.row_images.proofs.scatter.Given as goal

abbrev pub invariant-loop-q : goal.invariant-loop-q
invariant-loop-q l = l.images ≡ Written l.q (placed l.n l.states) l.initial.images
