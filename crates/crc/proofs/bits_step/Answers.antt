use mathlib.Core.Path.{◌≡◌, ◌∙◌}
use native.Mathlib.Omega.{arith}
use Rattle.crc.specs.Crc.{check, bits_of}
use Rattle.crc.proofs.Laws.{bits_next}
use Rattle.crc.proofs.bits_step.Goals as goal

pub loop-i-preserved : goal.loop-i-preserved
loop-i-preserved g c =
    let k = g.row in
    let l = c.loop-i in record {
      fits = c.bit_step-r.ensures.upper_bound;
      left = rw c.bit_step-r.ensures.value (bits_next k.K k.POLYNOMIAL l.r l.i c.args.word c.loop-i-test.true ∙ l.invariant.left);
    }

pub returns-clause-value : goal.returns-clause-value
unfolding check bits_of
returns-clause-value g c =
    let l = c.loop-i in
    let e : l.i ≡ 0 = omega arith in
    rw e at l.invariant.left
