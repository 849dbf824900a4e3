use mathlib.Core.Path.{sym, ◌∙◌}
use Rattle.cluster_tallies.proofs.Tallies.{lead-one, own-wins, goes_on}
use Rattle.cluster_tallies.proofs.Tallied.member_decides.Goals as goal

pub halts-requires-clause-one_vote : goal.halts-requires-clause-one_vote
halts-requires-clause-one_vote c =
    let t = c.args.self.now in
    lead-one _ _ _ _ t.config.nodes t.voting t.lead t.same c.args.present c.requires.within t.grouped

pub halts-requires-clause-own_value : goal.halts-requires-clause-own_value
halts-requires-clause-own_value c =
    let t = c.args.self.now in
    sym (own-wins _ _ _ _ t.config t.voting c.args.present c.requires.within t.lead t.same t.grouped c.args.q _ _ c.vote_at-own.result c.requires.votes.0 c.requires.votes.1 c.vote_at-own.ensures c.votes_like.ensures c.own_tally-mine.ensures _ c.is_quorum.ensures)
    ∙ c.if-is_quorum.false

pub returns-then-is_quorum : goal.returns-then-is_quorum
returns-then-is_quorum c =
    let t = c.args.self.now in
    c.member_on.ensures
    ∙ goes_on _ _ _ _ t.config t.voting c.args.present c.requires.within t.lead t.same t.grouped c.args.q _ _ c.vote_at-own.result c.requires.votes.0 c.requires.votes.1 c.vote_at-own.ensures c.votes_like.ensures c.own_tally-mine.ensures (sym c.is_quorum.ensures ∙ c.if-is_quorum.true)
