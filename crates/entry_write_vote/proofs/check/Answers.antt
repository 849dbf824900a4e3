use Rattle.std.proofs.Common.{[], sym}
use Rattle.entry_write_vote.proofs.Accepted.{accepted, small}
use Rattle.entry_write_vote.proofs.check.Goals as goal

pub formed_vote-requires : goal.formed_vote-requires
formed_vote-requires c = let a = accepted c.args.n c.args.node c.args.cycle c.args.channel _ 36 [] (sym c.in_ok-check_call.ensures) in record { n_bound = a.count; q_bound = small a }
