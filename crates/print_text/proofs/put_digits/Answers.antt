use Rattle.print_text.proofs.Digits.{stored-none, stored_more, stored-all}
use Rattle.print_text.proofs.put_digits.Goals as goal

pub loop-i-init : goal.loop-i-init
loop-i-init c = let a = c.args in stored-none a.base a.count a.x a.out.now a.at

pub loop-i-preserved : goal.loop-i-preserved
loop-i-preserved c =
    let a = c.args in
    let l = c.loop-i in
    stored_more a.base a.count a.x a.out.now a.at l.out l.i l.rest c.glyph.result c.requires.count_in_bounds c.loop-i-test.true
    c.glyph.ensures l.invariant

pub returns : goal.returns
returns c =
    let a = c.args in
    let l = c.loop-i in
    stored-all a.base a.count a.x a.out.now a.at l.out l.i l.rest c.requires.count_in_bounds c.loop-i-test.false l.invariant
