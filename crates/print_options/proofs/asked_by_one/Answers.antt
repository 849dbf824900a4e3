-- `print_options::asked_by_one` meets its contract. Assumes nothing.
use mathlib.Core.Path.{sym}
use Rattle.print_text.specs.Text.{ascii}
use Rattle.print_options.proofs.Asking.{found, help-given, version-given, other-given}
use Rattle.print_options.proofs.asked_by_one.Goals as goal

pub returns-then-eq : goal.returns-then-eq
unfolding ascii
returns-then-eq c =
    let first = c.args.first.now in
    sym (help-given first (found first (ascii "--help") c.as_slice.ensures c.eq.ensures c.if-eq.true))

pub returns-then-eq-2 : goal.returns-then-eq-2
unfolding ascii
returns-then-eq-2 c =
    let first = c.args.first.now in
    sym (version-given first
    (found first (ascii "--help") c.as_slice.ensures c.eq.ensures c.if-eq.false)
    (found first (ascii "--version") c.as_slice-else-eq.ensures c.eq-else-eq.ensures c.if-eq-2.true))

pub returns-else-eq-2 : goal.returns-else-eq-2
unfolding ascii
returns-else-eq-2 c =
    let first = c.args.first.now in
    sym (other-given first
    (found first (ascii "--help") c.as_slice.ensures c.eq.ensures c.if-eq.false)
    (found first (ascii "--version") c.as_slice-else-eq.ensures c.eq-else-eq.ensures c.if-eq-2.false))
