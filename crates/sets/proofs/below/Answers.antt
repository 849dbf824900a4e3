use mathlib.Core.Path.{sym, ap}
use Prim.Native.Nat.{ℕ, ◌%◌}
use native.Mathlib.Nat.{mod-eq_of_lt}
use lib.Pow.{pow_pos}
use Rattle.sets.specs.Sets.{below, single}
use Rattle.sets.proofs.below.Goals as goal

pub nonzero_rem-result : goal.nonzero_rem-result
unfolding single
nonzero_rem-result c = rw c.single.ensures (pow_pos _)

pub returns-then-n-eq64 : goal.returns-then-n-eq64
unfolding below
returns-then-n-eq64 c = rw c.if-n-eq64.true (sym (mod-eq_of_lt c.ranges.m.fits))

pub returns-else-n-eq64 : goal.returns-else-n-eq64
unfolding below single
returns-else-n-eq64 c = ap (λ (x : ℕ). c.args.m % x) c.single.ensures
