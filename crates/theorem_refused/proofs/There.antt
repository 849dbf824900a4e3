-- The premises of `RefusedKept` can be met: every entry refuses a call with zeros and empty buffers. Assumes nothing.
use mathlib.Core.Path.{refl}
use mathlib.Core.List.{List, []}
use Prim.Native.Nat.{ℕ, suc}
use native.Mathlib.Omega.{arith}
use denote.Ref.{Bor}
use denote.MutBor.{MutBor}
use Rattle.refusal.specs.Refusal.{first, unless}
use Rattle.state.specs.Image.{decoded}
use Rattle.table.specs.Records.{start_refusal}
use Rattle.table.specs.Table.{table_of}
use Rattle.row_calls.specs.Calls.{row_status, cycle_status, run_status, framed_status, frames_left}
use Rattle.entry_lent.specs.Refusals.{wrong_count, wrong_indicators}
use Rattle.entry_lent.specs.Found.{lent_state, image_status}
use Rattle.entry_row.specs.OnImages.{lent_status, lent_left, lent_frames, images_status, images_left}
use Rattle.entry_begin.specs.Begin.{begin_status, begin_left}
use Rattle.entry_stop_start.specs.StopStart.{stop_left, start_left}
use Rattle.entry_state.specs.Apart.{kind_left, reason_left, node_left, count_left, number_left, set_left, base_left}
use Rattle.entry_write_heartbeat.specs.Heartbeats.{write_heartbeat_status, write_heartbeat_left}
use Rattle.entry_send_heartbeat.specs.Beating.{send_heartbeat_status, send_heartbeat_left, send_heartbeat_sent}
use Rattle.frames.specs.Written.{wrong_drive}
use Rattle.entry_receive_heartbeat.specs.Hearing.{read_status, read_heartbeat_status, read_heartbeat_drive, read_heartbeat_join, read_heartbeat_request, read_heartbeat_drive_bytes}
use Rattle.entry_receive_heartbeat.specs.Hearing.{receive_heartbeat_status, receive_heartbeat_drive, receive_heartbeat_heard, receive_heartbeat_drive_bytes}
use Rattle.entry_write_vote.specs.Votes.{write_vote_status, write_vote_left}
use Rattle.entry_send_vote.specs.Voting.{send_vote_status, send_vote_left, send_vote_sent}
use Rattle.entry_receive_vote.specs.Arrivals.{read_vote_numbers, read_vote_status, read_vote_left, receive_vote_status, receive_vote_left, receive_vote_arrived}
use Rattle.entry_decide.specs.Decide.{decide_status, decide_left}
use Rattle.registers.specs.Steps.{step_status, step_left, step_read, step_value}
use Rattle.gm.proofs.gm_begin.Reads as gm-begin
use Rattle.gm.proofs.gm_stop.Reads as gm-stop
use Rattle.gm.proofs.gm_start.Reads as gm-start
use Rattle.gm.proofs.gm_state.Reads as gm-state
use Rattle.gm.proofs.gm_write_heartbeat.Reads as gm-write-heartbeat
use Rattle.gm.proofs.gm_send_heartbeat.Reads as gm-send-heartbeat
use Rattle.gm.proofs.gm_read_heartbeat.Reads as gm-read-heartbeat
use Rattle.gm.proofs.gm_receive_heartbeat.Reads as gm-receive-heartbeat
use Rattle.gm.proofs.gm_view.Reads as gm-view
use Rattle.gm.proofs.gm_write_vote.Reads as gm-write-vote
use Rattle.gm.proofs.gm_send_vote.Reads as gm-send-vote
use Rattle.gm.proofs.gm_read_vote.Reads as gm-read-vote
use Rattle.gm.proofs.gm_receive_vote.Reads as gm-receive-vote
use Rattle.gm.proofs.gm_decide.Reads as gm-decide
use Rattle.gm.proofs.gm_register_read.Reads as gm-register-read
use Rattle.gm.proofs.gm_register_write.Reads as gm-register-write
use Rattle.gm.proofs.gm_register_cycle.Reads as gm-register-cycle
use Rattle.gm.proofs.gm_register_write_cycle.Reads as gm-register-write-cycle
use Rattle.gm.proofs.gm_cycle.Reads as gm-cycle
use Rattle.gm.proofs.gm_run.Reads as gm-run
use Rattle.gm.proofs.gm_run_frames.Reads as gm-run-frames
use Rattle.theorem_refused.specs.Kept.{Refused}

-- an empty buffer that is lent to be read, one that is lent to be written, and a result that is 0, at any place
abbrev read : Bor (List ℕ)
read = record { ref_ptr = (0, 0); now = [] }

abbrev empty : MutBor (List ℕ)
empty = record { ref_ptr = (0, 0); ghost_name = 0; now = [] }

abbrev nought : MutBor ℕ
nought = record { ref_ptr = (0, 0); ghost_name = 0; now = 0 }

some : (k : ℕ) → Refused (suc k)
some k z = omega arith

pub begin_there : (κs : _) × (a : _) × (r : _) × gm-begin.Learnt κs a r a × Refused r
unfolding first unless wrong_count begin_status begin_left
begin_there = (([], tt), (0, (0, (0, (empty, tt)))), 1, (refl, refl), some 0)

pub stop_there : (κs : _) × (a : _) × (r : _) × gm-stop.Learnt κs a r a × Refused r
unfolding decoded lent_state image_status stop_left
stop_there = (([], tt), (0, (empty, tt)), 3, (refl, refl), some 2)

pub start_there : (κs : _) × (a : _) × (r : _) × gm-start.Learnt κs a r a × Refused r
unfolding decoded lent_state image_status start_left
start_there = (([], tt), (0, (empty, tt)), 3, (refl, refl), some 2)

pub state_there : (κs : _) × (a : _) × (r : _) × gm-state.Learnt κs a r a × Refused r
unfolding decoded lent_state image_status kind_left reason_left node_left count_left number_left set_left base_left
state_there = (
  ([], ([], ([], ([], ([], ([], ([], ([], tt)))))))),
  (0, (read, (nought, (nought, (nought, (nought, (nought, (nought, (nought, tt))))))))),
  3,
  (refl, (refl, (refl, (refl, (refl, (refl, (refl, refl))))))),
  some 2,
)

pub write_heartbeat_there : (κs : _) × (a : _) × (r : _) × gm-write-heartbeat.Learnt κs a r a × Refused r
unfolding first unless wrong_count write_heartbeat_status write_heartbeat_left
write_heartbeat_there = (([], ([], tt)), (0, (0, (0, (0, (0, (0, (0, (0, (0, (read, (empty, tt))))))))))), 1, (refl, refl), some 0)

pub send_heartbeat_there : (κs : _) × (a : _) × (r : _) × gm-send-heartbeat.Learnt κs a r a × Refused r
unfolding first unless wrong_indicators wrong_drive send_heartbeat_status send_heartbeat_left send_heartbeat_sent
send_heartbeat_there = (([], ([], ([], ([], tt)))), (0, (read, (0, (0, (0, (0, (read, (empty, (nought, tt))))))))), 3, (refl, (refl, refl)), some 2)

pub read_heartbeat_there : (κs : _) × (a : _) × (r : _) × gm-read-heartbeat.Learnt κs a r a × Refused r
unfolding first unless wrong_count read_status read_heartbeat_status read_heartbeat_drive read_heartbeat_join read_heartbeat_request read_heartbeat_drive_bytes
read_heartbeat_there = (
  ([], ([], ([], ([], ([], tt))))),
  (0, (0, (0, (0, (0, (read, (empty, (nought, (nought, (nought, tt)))))))))),
  1,
  (refl, (refl, (refl, (refl, refl)))),
  some 0,
)

pub receive_heartbeat_there : (κs : _) × (a : _) × (r : _) × gm-receive-heartbeat.Learnt κs a r a × Refused r
unfolding first unless wrong_count receive_heartbeat_status receive_heartbeat_drive receive_heartbeat_heard receive_heartbeat_drive_bytes
receive_heartbeat_there = (([], ([], ([], ([], ([], tt))))), (0, (0, (0, (0, (read, (read, (empty, (nought, (nought, tt))))))))), 1, (refl, (refl, (refl, refl))), some 0)

pub view_there : (κs : _) × (a : _) × (r : _) × gm-view.Learnt κs a r a × Refused r
unfolding decoded lent_state image_status
view_there = (([], ([], tt)), (0, (read, (0, (0, (nought, tt))))), 3, (refl, refl), some 2)

pub write_vote_there : (κs : _) × (a : _) × (r : _) × gm-write-vote.Learnt κs a r a × Refused r
unfolding first unless wrong_count write_vote_status write_vote_left
write_vote_there = (([], tt), (0, (0, (0, (0, (0, (0, (0, (0, (empty, tt))))))))), 1, (refl, refl), some 0)

pub send_vote_there : (κs : _) × (a : _) × (r : _) × gm-send-vote.Learnt κs a r a × Refused r
unfolding first unless send_vote_status send_vote_left send_vote_sent
send_vote_there = (([], ([], ([], tt))), (0, (read, (0, (0, (0, (0, (0, (empty, (nought, tt))))))))), 3, (refl, (refl, refl)), some 2)

pub read_vote_there : (κs : _) × (a : _) × (r : _) × gm-read-vote.Learnt κs a r a × Refused r
unfolding first unless wrong_count read_vote_numbers read_vote_status read_vote_left
read_vote_there = (([], ([], tt)), (0, (0, (0, (0, (read, (empty, tt)))))), 1, (refl, refl), some 0)

pub receive_vote_there : (κs : _) × (a : _) × (r : _) × gm-receive-vote.Learnt κs a r a × Refused r
unfolding first unless wrong_count receive_vote_status receive_vote_left receive_vote_arrived
receive_vote_there = (([], ([], ([], ([], tt)))), (0, (0, (0, (read, (read, (empty, (nought, tt))))))), 1, (refl, (refl, refl)), some 0)

pub decide_there : (κs : _) × (a : _) × (r : _) × gm-decide.Learnt κs a r a × Refused r
unfolding first unless decide_status decide_left
decide_there = (([], ([], tt)), (0, (empty, (0, (0, (0, (read, (0, tt))))))), 3, (refl, refl), some 2)

pub register_read_there : (κs : _) × (a : _) × (r : _) × gm-register-read.Learnt κs a r a × Refused r
unfolding first unless step_status step_read step_value
register_read_there = (([], ([], tt)), (0, (read, (0, (nought, tt)))), 3, (refl, refl), some 2)

pub register_write_there : (κs : _) × (a : _) × (r : _) × gm-register-write.Learnt κs a r a × Refused r
unfolding first unless step_status step_left
register_write_there = (([], tt), (0, (empty, (0, (0, tt)))), 3, (refl, refl), some 2)

pub register_cycle_there : (κs : _) × (a : _) × (r : _) × gm-register-cycle.Learnt κs a r a × Refused r
unfolding first unless step_status step_left
register_cycle_there = (([], ([], tt)), (0, (empty, (0, (0, (0, (read, (0, tt))))))), 3, (refl, refl), some 2)

pub register_write_cycle_there : (κs : _) × (a : _) × (r : _) × gm-register-write-cycle.Learnt κs a r a × Refused r
unfolding first unless step_status step_left
register_write_cycle_there = (([], ([], tt)), (0, (empty, (0, (0, (0, (0, (0, (read, (0, tt))))))))), 3, (refl, refl), some 2)

pub cycle_there : (κs : _) × (a : _) × (r : _) × gm-cycle.Learnt κs a r a × Refused r
unfolding first unless row_status cycle_status lent_status lent_left images_status images_left
cycle_there = (([], ([], tt)), (0, (0, (empty, (read, tt)))), 1, (refl, refl), some 0)

pub run_there : (κs : _) × (a : _) × (r : _) × gm-run.Learnt κs a r a × Refused r
unfolding first unless start_refusal table_of run_status lent_status lent_left images_status images_left
run_there = (([], ([], tt)), (0, (empty, (read, tt))), 11, (refl, refl), some 10)

pub run_frames_there : (κs : _) × (a : _) × (r : _) × gm-run-frames.Learnt κs a r a × Refused r
unfolding first unless start_refusal table_of framed_status frames_left lent_status lent_left lent_frames
run_frames_there = (([], ([], ([], tt))), (0, (empty, (read, (empty, tt)))), 11, (refl, (refl, refl)), some 10)
