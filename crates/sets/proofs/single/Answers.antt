use Rattle.sets.proofs.Machine.{bit_one}
use Rattle.sets.proofs.single.Goals as goal

pub returns : goal.returns
returns c = bit_one c.args.q c.requires
