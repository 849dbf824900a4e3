use Rattle.register_block.proofs.Flags.{reads_so_lem}
use Rattle.register_block.proofs.reads_so.Goals as goal

pub returns : goal.returns
returns c = reads_so_lem c.args.block.now _ _ c.shares.ensures c.rest_is_zero.ensures
