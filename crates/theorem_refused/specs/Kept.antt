-- Demand 1 of every entry for C, "and on a refusal leaves state and buffers as they came": one field for each entry.
-- Paper 01, "Who can be refused, and for what": "A refusal returns only its number; states and buffers do not change."
-- A call is any of which the contract of the compiled entry tells its caller, `Learnt`, with these arguments a, this status r and these arguments at the end s.
-- `a.0` is its first argument, `a.1.0` its second, and so on; the comment above a field names them all, and after the colon what it may write.
-- What is lent only to be read is not said to be kept: no code can write it.
-- Assumes nothing.
use Rattle.std.specs.Prelude.{◌≡◌, ℕ}
use Rattle.std.specs.Borrow.{MutBor}
use Rattle.gm.proofs.gm_begin.Reads as gm-begin
use Rattle.gm.proofs.gm_stop.Reads as gm-stop
use Rattle.gm.proofs.gm_start.Reads as gm-start
use Rattle.gm.proofs.gm_state.Reads as gm-state
use Rattle.gm.proofs.gm_write_heartbeat.Reads as gm-write-heartbeat
use Rattle.gm.proofs.gm_send_heartbeat.Reads as gm-send-heartbeat
use Rattle.gm.proofs.gm_read_heartbeat.Reads as gm-read-heartbeat
use Rattle.gm.proofs.gm_receive_heartbeat.Reads as gm-receive-heartbeat
use Rattle.gm.proofs.gm_view.Reads as gm-view
use Rattle.gm.proofs.gm_write_vote.Reads as gm-write-vote
use Rattle.gm.proofs.gm_send_vote.Reads as gm-send-vote
use Rattle.gm.proofs.gm_read_vote.Reads as gm-read-vote
use Rattle.gm.proofs.gm_receive_vote.Reads as gm-receive-vote
use Rattle.gm.proofs.gm_decide.Reads as gm-decide
use Rattle.gm.proofs.gm_register_read.Reads as gm-register-read
use Rattle.gm.proofs.gm_register_write.Reads as gm-register-write
use Rattle.gm.proofs.gm_register_cycle.Reads as gm-register-cycle
use Rattle.gm.proofs.gm_register_write_cycle.Reads as gm-register-write-cycle
use Rattle.gm.proofs.gm_cycle.Reads as gm-cycle
use Rattle.gm.proofs.gm_run.Reads as gm-run
use Rattle.gm.proofs.gm_run_frames.Reads as gm-run-frames

-- every status but 0 is the number of a refusal
abbrev pub Refused : ℕ → Type 0
Refused r = r ≡ 0 → ⊥

-- a lent argument holds at the end what it held when the call began: of a buffer every byte, and its length
abbrev pub Kept : {X : Type 0} → MutBor X → MutBor X → Type 0
Kept before after = after.now ≡ before.now

pub record RefusedKept : Type 1 where
  -- gm_begin(n, node, founding, state): the state
  pub begin : (κs : _) (a : _) (r : _) (s : _) → gm-begin.Learnt κs a r s → Refused r → Kept a.1.1.1.0 s.1.1.1.0
  -- gm_stop(mode, state), gm_start(mode, state): the state
  pub stop : (κs : _) (a : _) (r : _) (s : _) → gm-stop.Learnt κs a r s → Refused r → Kept a.1.0 s.1.0
  pub start : (κs : _) (a : _) (r : _) (s : _) → gm-start.Learnt κs a r s → Refused r → Kept a.1.0 s.1.0
  -- gm_state(mode, state, kind, reason, node, n, number, set, base): the seven numbers
  pub state : (κs : _) (a : _) (r : _) (s : _) → gm-state.Learnt κs a r s → Refused r
      → Kept a.1.1.0 s.1.1.0
      × Kept a.1.1.1.0 s.1.1.1.0
      × Kept a.1.1.1.1.0 s.1.1.1.1.0
      × Kept a.1.1.1.1.1.0 s.1.1.1.1.1.0
      × Kept a.1.1.1.1.1.1.0 s.1.1.1.1.1.1.0
      × Kept a.1.1.1.1.1.1.1.0 s.1.1.1.1.1.1.1.0
      × Kept a.1.1.1.1.1.1.1.1.0 s.1.1.1.1.1.1.1.1.0
  -- gm_write_heartbeat(n, mode, node, join, request, sync, startup, cycle, channel, drive, frame): the frame
  pub write_heartbeat : (κs : _) (a : _) (r : _) (s : _) → gm-write-heartbeat.Learnt κs a r s → Refused r
      → Kept a.1.1.1.1.1.1.1.1.1.1.0 s.1.1.1.1.1.1.1.1.1.1.0
  -- gm_send_heartbeat(mode, state, sync, startup, cycle, channel, drive, frame, sent): the frame, and whether it is sent
  pub send_heartbeat : (κs : _) (a : _) (r : _) (s : _) → gm-send-heartbeat.Learnt κs a r s → Refused r
      → Kept a.1.1.1.1.1.1.1.0 s.1.1.1.1.1.1.1.0 × Kept a.1.1.1.1.1.1.1.1.0 s.1.1.1.1.1.1.1.1.0
  -- gm_read_heartbeat(n, mode, node, cycle, channel, frame, drive, join, request, drive_bytes): the drive bytes, the join bit, the request and the number
  pub read_heartbeat : (κs : _) (a : _) (r : _) (s : _) → gm-read-heartbeat.Learnt κs a r s → Refused r
      → Kept a.1.1.1.1.1.1.0 s.1.1.1.1.1.1.0
      × Kept a.1.1.1.1.1.1.1.0 s.1.1.1.1.1.1.1.0
      × Kept a.1.1.1.1.1.1.1.1.0 s.1.1.1.1.1.1.1.1.0
      × Kept a.1.1.1.1.1.1.1.1.1.0 s.1.1.1.1.1.1.1.1.1.0
  -- gm_receive_heartbeat(n, mode, node, cycle, a, b, drive, heard, drive_bytes): the drive bytes, what was heard and the number
  pub receive_heartbeat : (κs : _) (a : _) (r : _) (s : _) → gm-receive-heartbeat.Learnt κs a r s → Refused r
      → Kept a.1.1.1.1.1.1.0 s.1.1.1.1.1.1.0
      × Kept a.1.1.1.1.1.1.1.0 s.1.1.1.1.1.1.1.0
      × Kept a.1.1.1.1.1.1.1.1.0 s.1.1.1.1.1.1.1.1.0
  -- gm_view(mode, state, heard0, heard1, view): the view
  pub view : (κs : _) (a : _) (r : _) (s : _) → gm-view.Learnt κs a r s → Refused r → Kept a.1.1.1.1.0 s.1.1.1.1.0
  -- gm_write_vote(n, node, number, set, base, view, cycle, channel, frame): the frame
  pub write_vote : (κs : _) (a : _) (r : _) (s : _) → gm-write-vote.Learnt κs a r s → Refused r
      → Kept a.1.1.1.1.1.1.1.1.0 s.1.1.1.1.1.1.1.1.0
  -- gm_send_vote(mode, state, heard0, heard1, requests, cycle, channel, frame, sent): the frame, and whether it is sent
  pub send_vote : (κs : _) (a : _) (r : _) (s : _) → gm-send-vote.Learnt κs a r s → Refused r
      → Kept a.1.1.1.1.1.1.1.0 s.1.1.1.1.1.1.1.0 × Kept a.1.1.1.1.1.1.1.1.0 s.1.1.1.1.1.1.1.1.0
  -- gm_read_vote(n, node, cycle, channel, frame, vote): the vote
  pub read_vote : (κs : _) (a : _) (r : _) (s : _) → gm-read-vote.Learnt κs a r s → Refused r → Kept a.1.1.1.1.1.0 s.1.1.1.1.1.0
  -- gm_receive_vote(n, node, cycle, a, b, votes, arrived): the vote buffer, and the mask of those that arrived
  pub receive_vote : (κs : _) (a : _) (r : _) (s : _) → gm-receive-vote.Learnt κs a r s → Refused r
      → Kept a.1.1.1.1.1.0 s.1.1.1.1.1.0 × Kept a.1.1.1.1.1.1.0 s.1.1.1.1.1.1.0
  -- gm_decide(mode, state, heard0, heard1, requests, votes, arrived): the state
  pub decide : (κs : _) (a : _) (r : _) (s : _) → gm-decide.Learnt κs a r s → Refused r → Kept a.1.0 s.1.0
  -- gm_register_read(mode, block, address, value): the value
  pub register_read : (κs : _) (a : _) (r : _) (s : _) → gm-register-read.Learnt κs a r s → Refused r → Kept a.1.1.1.0 s.1.1.1.0
  -- gm_register_write(mode, block, address, value): the block
  pub register_write : (κs : _) (a : _) (r : _) (s : _) → gm-register-write.Learnt κs a r s → Refused r → Kept a.1.0 s.1.0
  -- gm_register_cycle(mode, block, heard0, heard1, requests, votes, arrived): the block
  pub register_cycle : (κs : _) (a : _) (r : _) (s : _) → gm-register-cycle.Learnt κs a r s → Refused r → Kept a.1.0 s.1.0
  -- gm_register_write_cycle(mode, block, address, value, heard0, heard1, requests, votes, arrived): the block
  pub register_write_cycle : (κs : _) (a : _) (r : _) (s : _) → gm-register-write-cycle.Learnt κs a r s → Refused r → Kept a.1.0 s.1.0
  -- gm_cycle(n, mode, row, cycle), gm_run(mode, row, table): the row
  pub cycle : (κs : _) (a : _) (r : _) (s : _) → gm-cycle.Learnt κs a r s → Refused r → Kept a.1.1.0 s.1.1.0
  pub run : (κs : _) (a : _) (r : _) (s : _) → gm-run.Learnt κs a r s → Refused r → Kept a.1.0 s.1.0
  -- gm_run_frames(mode, row, table, frames): the row, and the frames
  pub run_frames : (κs : _) (a : _) (r : _) (s : _) → gm-run-frames.Learnt κs a r s → Refused r → Kept a.1.0 s.1.0 × Kept a.1.1.1.0 s.1.1.1.0
