use Rattle.std.proofs.Common.{◌≡◌, eqb, take}
use Rattle.registers.specs.Block.{all_zero}
use Rattle.register_block.proofs.is_zero.Given as goal

abbrev pub invariant-loop-i : goal.invariant-loop-i
invariant-loop-i l = eqb l.bits 0 ≡ all_zero (take l.i l.s)
