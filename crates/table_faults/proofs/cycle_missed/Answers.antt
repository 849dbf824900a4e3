use mathlib.Core.Path.{◌∙◌}
use Prim.Native.Nat.{◌+◌}
use native.Mathlib.Omega.{arith}
use Rattle.table.proofs.Missed.{row_none, heartbeat_turn, vote-turn, missed_end}
use Rattle.table_faults.proofs.cycle_missed.Goals as goal

pub loop-i-init : goal.loop-i-init
loop-i-init c = record {
  heartbeats = c.requires.0 ∙ row_none (λ q. q) _;
  votes = c.requires.1 ∙ row_none (λ q. 128 + q) _;
}

pub loop-i-preserved : goal.loop-i-preserved
loop-i-preserved c =
    let turn = c.loop-i in
    let entry = c.entry-entry in record {
      heartbeats = heartbeat_turn _ _ _ turn.i _ _ turn.invariant.heartbeats entry.ensures.0 entry.ensures.1 c.note.ensures;
      votes = vote-turn _ _ _ turn.i _ _ turn.invariant.votes entry.ensures.0 entry.ensures.1 c.note-in-loop-i.ensures;
    }

pub returns : goal.returns
returns c =
    let told = missed_end _ c.loop-i.i _ _ (omega arith) c.loop-i.invariant.heartbeats c.loop-i.invariant.votes in
    record { heartbeats_after = told.0; votes_after = told.1 }
