-- The entries for one node as they are compiled: a call is known by what the entry's contract tells its caller, `Learnt`, of the arguments a, the status r
-- and the arguments at the end s. One that was refused is none.
-- Assumes nothing.
use Rattle.std.specs.Prelude.{◌≡◌, List, ℕ}
use Rattle.theorem_unit_calls.specs.Entries.{Frame, Entries}
use Rattle.gm.proofs.gm_begin.Reads as gm-begin
use Rattle.gm.proofs.gm_stop.Reads as gm-stop
use Rattle.gm.proofs.gm_start.Reads as gm-start
use Rattle.gm.proofs.gm_send_heartbeat.Reads as gm-send-heartbeat
use Rattle.gm.proofs.gm_receive_heartbeat.Reads as gm-receive-heartbeat
use Rattle.gm.proofs.gm_send_vote.Reads as gm-send-vote
use Rattle.gm.proofs.gm_receive_vote.Reads as gm-receive-vote
use Rattle.gm.proofs.gm_decide.Reads as gm-decide

-- gm_begin(n, node, founding, state)
pub data Begin : (n q F : ℕ) (y : List ℕ) → Type 1 where
  begin : (κs : _) (a : _) (r : _) (s : _) → gm-begin.Learnt κs a r s → r ≡ 0 → Begin a.0 a.1.0 a.1.1.0 s.1.1.1.0.now

-- gm_stop(mode, state), gm_start(mode, state)
pub data Stop : (mode : ℕ) (x y : List ℕ) → Type 1 where
  stop : (κs : _) (a : _) (r : _) (s : _) → gm-stop.Learnt κs a r s → r ≡ 0 → Stop a.0 a.1.0.now s.1.0.now

pub data Start : (mode : ℕ) (x y : List ℕ) → Type 1 where
  start : (κs : _) (a : _) (r : _) (s : _) → gm-start.Learnt κs a r s → r ≡ 0 → Start a.0 a.1.0.now s.1.0.now

-- gm_send_heartbeat(mode, state, sync, startup, cycle, channel, drive, frame, sent)
pub data SendHeartbeat : (mode : ℕ) (x : List ℕ) (sync startup count channel : ℕ) (drive : List ℕ) (g : Frame) → Type 1 where
  send_heartbeat : (κs : _) (a : _) (r : _) (s : _) → gm-send-heartbeat.Learnt κs a r s → r ≡ 0
      → SendHeartbeat a.0 a.1.0.now a.1.1.0 a.1.1.1.0 a.1.1.1.1.0 a.1.1.1.1.1.0 a.1.1.1.1.1.1.0.now
      (record { bytes = s.1.1.1.1.1.1.1.0.now; sent = s.1.1.1.1.1.1.1.1.0.now })

-- gm_receive_heartbeat(n, mode, node, cycle, a, b, drive, heard, drive_bytes)
pub data ReceiveHeartbeat : (n mode p count : ℕ) (x y : List ℕ) (heard : ℕ) → Type 1 where
  receive_heartbeat : (κs : _) (a : _) (r : _) (s : _) → gm-receive-heartbeat.Learnt κs a r s → r ≡ 0
      → ReceiveHeartbeat a.0 a.1.0 a.1.1.0 a.1.1.1.0 a.1.1.1.1.0.now a.1.1.1.1.1.0.now s.1.1.1.1.1.1.1.0.now

-- gm_send_vote(mode, state, heard0, heard1, requests, cycle, channel, frame, sent)
pub data SendVote : (mode : ℕ) (x : List ℕ) (heard0 heard1 requests count channel : ℕ) (g : Frame) → Type 1 where
  send_vote : (κs : _) (a : _) (r : _) (s : _) → gm-send-vote.Learnt κs a r s → r ≡ 0
      → SendVote a.0 a.1.0.now a.1.1.0 a.1.1.1.0 a.1.1.1.1.0 a.1.1.1.1.1.0 a.1.1.1.1.1.1.0
      (record { bytes = s.1.1.1.1.1.1.1.0.now; sent = s.1.1.1.1.1.1.1.1.0.now })

-- gm_receive_vote(n, node, cycle, a, b, votes, arrived)
pub data ReceiveVote : (n p count : ℕ) (x y t : List ℕ) (m : ℕ) (u : List ℕ) (k : ℕ) → Type 1 where
  receive_vote : (κs : _) (a : _) (r : _) (s : _) → gm-receive-vote.Learnt κs a r s → r ≡ 0
      → ReceiveVote a.0 a.1.0 a.1.1.0 a.1.1.1.0.now a.1.1.1.1.0.now a.1.1.1.1.1.0.now a.1.1.1.1.1.1.0.now
      s.1.1.1.1.1.0.now s.1.1.1.1.1.1.0.now

-- gm_decide(mode, state, heard0, heard1, requests, votes, arrived)
pub data Decide : (mode : ℕ) (x : List ℕ) (heard0 heard1 requests : ℕ) (votes : List ℕ) (arrived : ℕ) (y : List ℕ) → Type 1 where
  decide : (κs : _) (a : _) (r : _) (s : _) → gm-decide.Learnt κs a r s → r ≡ 0
      → Decide a.0 a.1.0.now a.1.1.0 a.1.1.1.0 a.1.1.1.1.0 a.1.1.1.1.1.0.now a.1.1.1.1.1.1.0 s.1.0.now

abbrev pub compiled : Entries
compiled =
    record {
      begin = Begin;
      stop = Stop;
      start = Start;
      send_heartbeat = SendHeartbeat;
      receive_heartbeat = ReceiveHeartbeat;
      send_vote = SendVote;
      receive_vote = ReceiveVote;
      decide = Decide;
    }
