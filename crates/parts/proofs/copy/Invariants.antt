-- `parts::copy` meets its contract. The loop's invariant: what was copied so far is put at the front. Assumes nothing.
use mathlib.Core.Path.{◌≡◌}
use lib.ListN.{take}
use Rattle.parts.specs.Parts.{with_part}
use Rattle.parts.proofs.copy.Given as goal

abbrev pub invariant-loop-i : goal.invariant-loop-i
invariant-loop-i l = l.f ≡ with_part 0 (take l.i l.x) l.initial.f
