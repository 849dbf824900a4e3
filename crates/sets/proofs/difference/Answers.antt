use Rattle.sets.proofs.Machine.{and-not}
use Rattle.sets.proofs.difference.Goals as goal

pub returns : goal.returns
returns c = and-not 64 c.args.a c.args.b c.ranges.a.fits c.ranges.b.fits
