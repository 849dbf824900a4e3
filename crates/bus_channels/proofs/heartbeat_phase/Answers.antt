use Rattle.parts.proofs.Laws.{two_put}
use Rattle.bus_channels.proofs.Hearing.{views-read, voting-read}
use Rattle.bus_channels.proofs.heartbeat_phase.Goals as goal

pub returns : goal.returns
returns c =
    let r = c.requires in
    let seen = c.views_of.ensures in
    record {
      by_index_3 = views-read _ _ c.args.w r.nodes_bound.0 r.nodes_bound.1 r.by_index r.by_index_2 _ _ _ _ _ _ _ c.heartbeats-a.ensures c.heartbeats-b.ensures c.union.ensures c.difference.ensures _ seen.by_index;
      voting_value = voting-read _ _ c.args.w r.nodes_bound.0 r.nodes_bound.1 r.by_index r.by_index_2 _ _ _ _ _ _ _ c.heartbeats-a.ensures c.heartbeats-b.ensures c.union.ensures c.difference.ensures _ _ seen.by_index seen.voting_value;
      frames_after = two_put _ _ _ _ _ _ _ 0 2304 c.put-2.ensures c.put.ensures c.heartbeats-a.ensures c.heartbeats-b.ensures;
    }
