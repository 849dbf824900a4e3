use Rattle.cluster_tallies.proofs.Tallies.{lead-one}
use Rattle.cluster_tallies.proofs.Tallied.silent_decides.Goals as goal

pub silent_decides-requires-clause-one_vote : goal.silent_decides-requires-clause-one_vote
silent_decides-requires-clause-one_vote c =
    let t = c.args.self.now in
    lead-one _ _ _ _ t.config.nodes t.voting t.lead t.same c.args.present c.requires.within t.grouped
