use mathlib.Core.Path.{◌∙◌}
use Prim.Native.Nat.{◌-◌, ◌%◌}
use native.Mathlib.Omega.{arith}
use lib.ListN.{length-set}
use Rattle.bigendian.proofs.Laws.{none_written, one_written, one_moved}
use Rattle.bigendian.proofs.write.Goals as goal

pub loop-i-init : goal.loop-i-init
loop-i-init g c =
    let h = none_written g.row.K c.args.x in record { whole = h.0; left = h.1; written = h.2 }

pub loop-i-preserved : goal.loop-i-preserved
loop-i-preserved g c =
    let l = c.loop-i in
    let h = l.invariant in record {
      whole = length-set l.bytes (l.i - 1) (l.rest % 256) ∙ h.whole;
      left = one_moved g.row.K l.i l.rest c.args.x (omega arith) (omega arith) h.left;
      written = one_written g.row.K l.i l.rest c.args.x l.bytes (omega arith) (omega arith) h.whole h.left h.written;
    }
