-- `print_stream::take` meets its contract. The loop's invariant: `Going`. Assumes nothing.
use Prim.Native.Nat.{◌+◌, ◌-◌}
use Rattle.std.specs.Prelude.{is_none}
use Rattle.print_window.proofs.Going.{left, falls, Going}
use Rattle.print_pieces.specs.Pieces.{longest, rate, print_of, due, whole}
use Rattle.print_stream.specs.Stream.{goes_on}
use Rattle.print_stream.proofs.Short.{short}
use Rattle.print_stream.proofs.take.Given as goal

abbrev pub invariant-loop-before : goal.invariant-loop-before
invariant-loop-before l =
    Going due whole longest rate 128 short l.window l.have l.ended (print_of l.initial.session l.initial.states) l.initial.out l.at (print_of l.session l.states) l.out l.used l.end (is_none l.session)
    (goes_on l.session l.ended (left l.window l.have l.used))

abbrev pub decreases-loop-before : goal.decreases-loop-before
decreases-loop-before l =
    (l.have - l.used) + falls (goes_on l.session l.ended (left l.window l.have l.used))
