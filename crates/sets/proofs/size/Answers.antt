use mathlib.Core.Path.{refl}
use lib.Count.{ones-le}
use Rattle.sets.specs.Sets.{size}
use Rattle.sets.proofs.size.Goals as goal

pub returns : goal.returns
unfolding size
returns c = record { value = refl; upper_bound = ones-le 64 c.args.m c.ranges.m.fits }
