use mathlib.Core.Path.{sym, ◌∙◌}
use Rattle.crc.proofs.Laws.{bytes_next, bytes_end}
use Rattle.crc.proofs.frame_check.Goals as goal

pub loop-b-preserved : goal.loop-b-preserved
loop-b-preserved c =
    let l = c.loop-b in record {
      fits = c.bits_step-r.ensures.upper_bound;
      left = rw (c.bits_step-r.ensures.value, c.from.ensures) (bytes_next l.r c.args.s.now l.b-index c.loop-b-test.true ∙ l.invariant.left);
    }

pub returns-clause-value : goal.returns-clause-value
returns-clause-value c = let l = c.loop-b in sym (bytes_end l.r c.args.s.now l.b-index c.loop-b-test.false) ∙ l.invariant.left
