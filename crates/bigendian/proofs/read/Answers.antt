use Prim.Native.Nat.{◌+◌, ◌<◌}
use native.Mathlib.Omega.{arith}
use Rattle.bigendian.proofs.Laws.{none_read, room_for_byte, byte_fits, byte_before}
use Rattle.bigendian.proofs.read.Goals as goal

pub loop-i-init : goal.loop-i-init
loop-i-init g c =
    let h = none_read c.args.s.now (c.args.at + g.row.K) g.row.K in record { value = h.0; fits = h.1 }

pub overflow_add-number : goal.overflow_add-number
overflow_add-number g c =
    let l = c.loop-i in
    omega (arith, room_for_byte g.row.K l.i c.from.result l.number (omega arith) (omega arith) (omega arith) (omega arith) l.invariant.fits)

pub loop-i-preserved : goal.loop-i-preserved
loop-i-preserved g c =
    let l = c.loop-i in
    let k = g.row.K in
    let b = c.from.result in
    let byte : b < 256 = omega arith in
    let h = l.invariant in record {
      value = byte_before k l.i b l.number (omega arith) (omega arith) (omega arith) byte h.fits c.args.s.now c.args.at h.value c.from.ensures;
      fits = byte_fits k l.i b l.number (omega arith) (omega arith) (omega arith) byte h.fits;
    }
