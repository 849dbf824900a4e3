use Rattle.register_block.proofs.Flags.{flags_put}
use Rattle.register_block.proofs.put_flags.Goals as goal

pub returns : goal.returns
returns c = flags_put c.args.block.now _ _ _ c.requires c.shares.ensures
