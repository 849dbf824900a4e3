use Rattle.sets.proofs.Machine.{bit_test}
use Rattle.sets.proofs.contains.Goals as goal

pub returns : goal.returns
returns c = bit_test c.args.q c.args.m
