-- `print_options::asked_by` meets its contract. Assumes nothing.
use mathlib.Core.Path.{sym, ◌∙◌}
use native.Mathlib.Omega.{arith}
use Rattle.print_options.proofs.Asking.{none-given, several_given, one_given}
use Rattle.print_options.proofs.asked_by.Goals as goal

pub returns-in-0 : goal.returns-in-0
returns-in-0 c = let a = c.args in sym (none-given a.count a.first.now (omega arith))

pub returns-in-2 : goal.returns-in-2
returns-in-2 c =
    let a = c.args in
    c.asked_by_one.ensures ∙ sym (one_given a.count a.first.now (omega arith) (omega arith))

pub returns-in_default : goal.returns-in_default
returns-in_default c = let a = c.args in sym (several_given a.count a.first.now (omega arith) (omega arith))
