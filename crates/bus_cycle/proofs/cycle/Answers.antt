use mathlib.Core.Path.{refl}
use Rattle.cluster_states.proofs.Whole.{run_cycle}
use Rattle.bus_cycle.proofs.Formed.{apart, requests-allowed, votes-formed}
use Rattle.bus_cycle.proofs.Shown.{cycle-shown, still-sized}
use Rattle.bus_cycle.proofs.cycle.Goals as goal

pub heartbeat_phase-seen-requires : goal.heartbeat_phase-seen-requires
heartbeat_phase-seen-requires c =
    let a = c.args in
    let p = c.requires in record { nodes_bound = p.nodes_bound; frames_len = p.frames_len; by_index = requests-allowed a.config a.s a.f c.rule_one-w.result c.rule_one-w.ensures p.by_index; by_index_2 = apart a.config a.s a.f c.rule_one-w.result c.rule_one-w.ensures }

pub returns : goal.returns
returns c =
    let a = c.args in
    let p = c.requires in
    let seen = c.heartbeat_phase-seen.result in record {
      result_value = run_cycle a.config a.s a.f c.rule_one-w.result _ _ _ _ seen.voting _ seen.views c.vote_phase.result c.rule_one-w.ensures refl refl refl refl c.heartbeat_phase-seen.ensures.voting_value refl c.heartbeat_phase-seen.ensures.by_index_3 c.vote_phase.ensures.by_index_2;
      frames_after = cycle-shown a.config a.count a.s a.f seen.views a.frames.now p.nodes_bound.0 p.nodes_bound.1 p.frames_len p.by_index c.rule_one-w.result seen.voting _ _ c.rule_one-w.ensures c.heartbeat_phase-seen.ensures.by_index_3 c.heartbeat_phase-seen.ensures.voting_value
          c.heartbeat_phase-seen.ensures.frames_after c.vote_phase.ensures.frames_after;
    }

pub vote_phase-requires : goal.vote_phase-requires
vote_phase-requires c =
    let a = c.args in
    let p = c.requires in
    let seen = c.heartbeat_phase-seen.result in record { nodes_bound = p.nodes_bound; frames_len = still-sized a.config a.count a.s a.f seen.views a.frames.now p.nodes_bound.0 p.nodes_bound.1 p.frames_len p.by_index c.rule_one-w.result _ c.rule_one-w.ensures c.heartbeat_phase-seen.ensures.frames_after; by_index = votes-formed a.config a.s a.f c.rule_one-w.result c.rule_one-w.ensures p.by_index _ _ _ seen.voting a.f.heartbeat_missed seen.views c.heartbeat_phase-seen.ensures.voting_value c.heartbeat_phase-seen.ensures.by_index_3 }
