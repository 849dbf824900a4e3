use Rattle.sets.proofs.Machine.{trailing_lowest}
use Rattle.sets.proofs.lowest.Goals as goal

pub returns : goal.returns
returns c = trailing_lowest 64 c.args.m
