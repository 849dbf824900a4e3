-- `print_text::put_digits` meets its contract. The loop's invariant: the digits from place i on are stored. Assumes nothing.
use Rattle.print_text.proofs.Digits.{Stored}
use Rattle.print_text.proofs.put_digits.Given as goal

abbrev pub invariant-loop-i : goal.invariant-loop-i
invariant-loop-i l = Stored l.base l.count l.x l.initial.out l.at l.out l.i l.rest
