use Rattle.parts.proofs.Laws.{two_put}
use Rattle.bus_cycle.proofs.Counted.{states_read}
use Rattle.bus_cycle.proofs.vote_phase.Goals as goal

pub returns : goal.returns
returns c =
    let a = c.args in
    let r = c.requires in
    let g = a.groups.now in
    record {
      by_index_2 = states_read a.config a.count a.voting a.lost _ a.w g.numbers g.sets g.bases a.views.now a.missed.now _ _ _
          r.nodes_bound.0 r.nodes_bound.1 r.by_index c.votes-a.ensures c.votes-b.ensures c.difference.ensures c.decisions.ensures;
      frames_after = two_put _ _ _ _ _ _ _ 4608 6912 c.put-2.ensures c.put.ensures c.votes-a.ensures c.votes-b.ensures;
    }
