-- `print_text::places` meets its contract. Assumes nothing.
use mathlib.Core.Path.{◌≡◌, sym}
use native.Mathlib.Omega.{arith}
use Rattle.print_text.proofs.Digits.{places_one, places_by_power}
use Rattle.print_text.proofs.places.Goals as goal

pub returns-in-Some : goal.returns-in-Some
returns-in-Some c =
    let e = c.in-Some.ensures in
    let k = c.in-Some.k in
    (sym (places_by_power 19 k c.args.x (omega (arith, e.bound)) e.power_le e.next_power_gt), omega (arith, e.bound))

pub returns-in-None : goal.returns-in-None
returns-in-None c =
    let none : c.args.x ≡ 0 = c.in-None.ensures.none in
    (sym (places_one 19 c.args.x (omega arith)), omega arith)
