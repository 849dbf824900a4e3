-- The entries for C as they are compiled: they meet their contracts, and so a refused call leaves everything as it came. Assumes nothing.
use mathlib.Core.Path.{◌≡◌, sym, ◌∙◌}
use Prim.Native.Nat.{ℕ}
use Rattle.refusal.proofs.Laws.{unless-refused}
use Rattle.row_calls.specs.declared.Task.TheVariants.{Cycle, Run, FramedRun}
use Rattle.entry_row.specs.OnImages.{images_status, images_left}
use Rattle.entry_row.proofs.Accepted.{images_kept, frames_kept}
use Rattle.entry_begin.specs.Begin.{begin_left}
use Rattle.entry_stop_start.proofs.Answers as ruled
use Rattle.entry_state.proofs.Whole as apart
use Rattle.entry_write_heartbeat.specs.Heartbeats.{write_heartbeat_left}
use Rattle.entry_send_heartbeat.specs.Beating.{send_heartbeat_left, send_heartbeat_sent}
use Rattle.entry_receive_heartbeat.specs.Hearing.{read_heartbeat_drive, read_heartbeat_join, read_heartbeat_request, read_heartbeat_drive_bytes, receive_heartbeat_drive, receive_heartbeat_heard, receive_heartbeat_drive_bytes}
use Rattle.entry_write_vote.specs.Votes.{write_vote_left}
use Rattle.entry_send_vote.specs.Voting.{send_vote_left, send_vote_sent}
use Rattle.entry_send_vote.proofs.Kept as viewed
use Rattle.entry_receive_vote.specs.Arrivals.{receive_vote_left, receive_vote_arrived}
use Rattle.entry_receive_vote.proofs.Kept as vote
use Rattle.entry_decide.specs.Decide.{decide_left}
use Rattle.registers.proofs.Found as register
use Rattle.gm.proofs.gm_state.Statement as gm-state-says
use Rattle.gm.proofs.gm_state.Met as gm-state-met
use Rattle.gm.proofs.gm_write_heartbeat.Statement as gm-write-heartbeat-says
use Rattle.gm.proofs.gm_write_heartbeat.Met as gm-write-heartbeat-met
use Rattle.gm.proofs.gm_read_heartbeat.Statement as gm-read-heartbeat-says
use Rattle.gm.proofs.gm_read_heartbeat.Met as gm-read-heartbeat-met
use Rattle.gm.proofs.gm_view.Statement as gm-view-says
use Rattle.gm.proofs.gm_view.Met as gm-view-met
use Rattle.gm.proofs.gm_write_vote.Statement as gm-write-vote-says
use Rattle.gm.proofs.gm_write_vote.Met as gm-write-vote-met
use Rattle.gm.proofs.gm_read_vote.Statement as gm-read-vote-says
use Rattle.gm.proofs.gm_read_vote.Met as gm-read-vote-met
use Rattle.theorem_refused.specs.Kept.{Refused, RefusedKept}

-- ---- the compiled entries meet the contracts that their callers read; of the other fifteen `theorem_entries`, `theorem_units` and `theorem_registers` say so

pub state_code : {M : Type 1} → gm-state-says.statement M
state_code {M} = gm-state-met.met

pub write_heartbeat_code : {M : Type 1} → gm-write-heartbeat-says.statement M
write_heartbeat_code {M} = gm-write-heartbeat-met.met

pub read_heartbeat_code : {M : Type 1} → gm-read-heartbeat-says.statement M
read_heartbeat_code {M} = gm-read-heartbeat-met.met

pub view_code : {M : Type 1} → gm-view-says.statement M
view_code {M} = gm-view-met.met

pub write_vote_code : {M : Type 1} → gm-write-vote-says.statement M
write_vote_code {M} = gm-write-vote-met.met

pub read_vote_code : {M : Type 1} → gm-read-vote-says.statement M
read_vote_code {M} = gm-read-vote-met.met

-- ---- what each leaves

-- by what a contract tells: the status is k, and what is left at the end is `left`
told : {A : Type 0} {r k : ℕ} {after left before : A} → r ≡ k → after ≡ left → ((k ≡ 0 → ⊥) → left ≡ before) → Refused r → after ≡ before
told e l law h = l ∙ law (λ z. h (e ∙ z))

pub refused_kept : RefusedKept
unfolding begin_left write_heartbeat_left send_heartbeat_left send_heartbeat_sent read_heartbeat_drive read_heartbeat_join read_heartbeat_request read_heartbeat_drive_bytes receive_heartbeat_drive receive_heartbeat_heard receive_heartbeat_drive_bytes write_vote_left send_vote_left send_vote_sent receive_vote_left receive_vote_arrived decide_left images_status images_left
refused_kept =
    record {
      begin = λ κs a r s l. told l.0 l.1 (unless-refused _ _ _);
      stop = λ κs a r s l. told l.0 l.1 (λ h. (ruled.refused_kept _ _ h).0);
      start = λ κs a r s l. told l.0 l.1 (λ h. (ruled.refused_kept _ _ h).1);
      state = λ κs a r s l h.
          let k = apart.refused_kept a.0 a.1.0.now a.1.1.0.now a.1.1.1.0.now a.1.1.1.1.0.now a.1.1.1.1.1.0.now
          a.1.1.1.1.1.1.0.now a.1.1.1.1.1.1.1.0.now a.1.1.1.1.1.1.1.1.0.now (λ z. h (l.0 ∙ z)) in
          (l.1.0 ∙ k.0, l.1.1.0 ∙ k.1, l.1.1.1.0 ∙ k.2, l.1.1.1.1.0 ∙ k.3, l.1.1.1.1.1.0 ∙ k.4, l.1.1.1.1.1.1.0 ∙ k.5, l.1.1.1.1.1.1.1 ∙ k.6);
      write_heartbeat = λ κs a r s l. told l.0 l.1 (unless-refused _ _ _);
      send_heartbeat = λ κs a r s l h. (told l.0 l.1.0 (unless-refused _ _ _) h, told l.0 l.1.1 (unless-refused _ _ _) h);
      read_heartbeat = λ κs a r s l h. (
        told l.0 l.1.0 (unless-refused _ _ _) h,
        told l.0 l.1.1.0 (unless-refused _ _ _) h,
        told l.0 l.1.1.1.0 (unless-refused _ _ _) h,
        told l.0 l.1.1.1.1 (unless-refused _ _ _) h,
      );
      receive_heartbeat = λ κs a r s l h. (
        told l.0 l.1.0 (unless-refused _ _ _) h,
        told l.0 l.1.1.0 (unless-refused _ _ _) h,
        told l.0 l.1.1.1 (unless-refused _ _ _) h,
      );
      view = λ κs a r s l. told l.0 l.1 (viewed.refused_kept _ _ _ _ _);
      write_vote = λ κs a r s l. told l.0 l.1 (unless-refused _ _ _);
      send_vote = λ κs a r s l h. (told l.0 l.1.0 (unless-refused _ _ _) h, told l.0 l.1.1 (unless-refused _ _ _) h);
      read_vote = λ κs a r s l. told l.0 l.1 (vote.refused_kept _ _ _ _ _ _);
      receive_vote = λ κs a r s l h. (told l.0 l.1.0 (unless-refused _ _ _) h, told l.0 l.1.1 (unless-refused _ _ _) h);
      decide = λ κs a r s l. told l.0 l.1 (unless-refused _ _ _);
      register_read = λ κs a r s l. told l.0 l.1 (register.refused-value _ _ _);
      register_write = λ κs a r s l. told l.0 l.1 (register.refused_left _ _);
      register_cycle = λ κs a r s l. told l.0 l.1 (register.refused_left _ _);
      register_write_cycle = λ κs a r s l. told l.0 l.1 (register.refused_left _ _);
      cycle = λ κs a r s l. told l.0 l.1 (λ h. sym (images_kept Cycle _ _ _ _ _ h));
      run = λ κs a r s l. told l.0 l.1 (λ h. sym (images_kept Run _ _ _ _ _ h));
      run_frames = λ κs a r s l h. (
        told l.0 l.1.0 (λ h. sym (images_kept FramedRun _ _ _ _ _ h)) h,
        told l.0 l.1.1 (frames_kept FramedRun _ _ _ _ _) h,
      );
    }
