-- What is known of calls of the entries for one node: `gm_begin`, `gm_stop`, `gm_start`, `gm_send_heartbeat`, `gm_receive_heartbeat`, `gm_send_vote`,
-- `gm_receive_vote` and `gm_decide`.
-- Assumes nothing.
use Rattle.std.specs.Prelude.{◌≡◌, List, ℕ}
use Rattle.std.proofs.Math.Logic.{Lift}
use Rattle.entry_lent.specs.Found.{image_status}
use Rattle.entry_begin.specs.Begin.{begin_status, begin_left}
use Rattle.entry_stop_start.specs.StopStart.{stop_left, start_left}
use Rattle.entry_send_heartbeat.specs.Beating.{send_heartbeat_status, send_heartbeat_left, send_heartbeat_sent}
use Rattle.entry_receive_heartbeat.specs.Hearing.{receive_heartbeat_status, receive_heartbeat_heard}
use Rattle.entry_send_vote.specs.Voting.{send_vote_status, send_vote_left, send_vote_sent}
use Rattle.entry_receive_vote.specs.Arrivals.{receive_vote_status, receive_vote_left, receive_vote_arrived}
use Rattle.entry_decide.specs.Decide.{decide_status, decide_left}

-- what a call that sends gave: `sent` is 1 if there is a frame, and the frame
pub record Frame : Type 0 where
  pub sent : ℕ
  pub bytes : List ℕ

-- Each says that a call of the entry with these arguments answered 0, and left this; what else it was lent may have been anything.
pub record Entries : Type 2 where
  pub begin : (n q founding : ℕ) (after : List ℕ) → Type 1
  pub stop : (mode : ℕ) (before after : List ℕ) → Type 1
  pub start : (mode : ℕ) (before after : List ℕ) → Type 1
  pub send_heartbeat : (mode : ℕ) (image : List ℕ) (sync startup count channel : ℕ) (drive : List ℕ) (frame : Frame) → Type 1
  pub receive_heartbeat : (n mode p count : ℕ) (a b : List ℕ) (heard : ℕ) → Type 1
  pub send_vote : (mode : ℕ) (image : List ℕ) (heard0 heard1 requests count channel : ℕ) (frame : Frame) → Type 1
  pub receive_vote : (n p count : ℕ) (a b votes : List ℕ) (arrived : ℕ) (votes-after : List ℕ) (arrived-after : ℕ) → Type 1
  pub decide : (mode : ℕ) (before : List ℕ) (heard0 heard1 requests : ℕ) (votes : List ℕ) (arrived : ℕ) (after : List ℕ) → Type 1

-- every call of E is one of D
pub record Within (E D : Entries) : Type 1 where
  pub begin : (n q F : ℕ) (y : List ℕ) → E.begin n q F y → D.begin n q F y
  pub stop : (mode : ℕ) (x y : List ℕ) → E.stop mode x y → D.stop mode x y
  pub start : (mode : ℕ) (x y : List ℕ) → E.start mode x y → D.start mode x y
  pub send_heartbeat : (mode : ℕ) (x : List ℕ) (sync startup count channel : ℕ) (drive : List ℕ) (g : Frame)
      → E.send_heartbeat mode x sync startup count channel drive g → D.send_heartbeat mode x sync startup count channel drive g
  pub receive_heartbeat : (n mode p count : ℕ) (a b : List ℕ) (heard : ℕ) → E.receive_heartbeat n mode p count a b heard
      → D.receive_heartbeat n mode p count a b heard
  pub send_vote : (mode : ℕ) (x : List ℕ) (heard0 heard1 requests count channel : ℕ) (g : Frame)
      → E.send_vote mode x heard0 heard1 requests count channel g → D.send_vote mode x heard0 heard1 requests count channel g
  pub receive_vote : (n p count : ℕ) (a b s : List ℕ) (m : ℕ) (t : List ℕ) (k : ℕ) → E.receive_vote n p count a b s m t k
      → D.receive_vote n p count a b s m t k
  pub decide : (mode : ℕ) (x : List ℕ) (heard0 heard1 requests : ℕ) (votes : List ℕ) (arrived : ℕ) (y : List ℕ)
      → E.decide mode x heard0 heard1 requests votes arrived y → D.decide mode x heard0 heard1 requests votes arrived y

-- What the entries' definitions say of calls: the status is 0, and what is left is what the definition gives. x, f and j are an image, a frame or a buffer for drive
-- bytes, and a number that were lent, and are written over.
abbrev pub by_definition : Entries
by_definition =
    record {
      begin = λ n q F y. Lift {0, 1} ((x : List ℕ) × (0 ≡ begin_status n q F x) × (y ≡ begin_left n q F x));
      stop = λ mode x y. Lift {0, 1} ((0 ≡ image_status mode x) × (y ≡ stop_left mode x));
      start = λ mode x y. Lift {0, 1} ((0 ≡ image_status mode x) × (y ≡ start_left mode x));
      send_heartbeat = λ mode x sync startup count channel drive g. Lift {0, 1} (
          (f : List ℕ) × (j : ℕ) × (0 ≡ send_heartbeat_status mode x sync startup count channel drive f)
          × (g.bytes ≡ send_heartbeat_left mode x sync startup count channel drive f) × (g.sent ≡ send_heartbeat_sent mode x sync startup count channel drive f j));
      receive_heartbeat = λ n mode p count a b heard. Lift {0, 1} (
          (f : List ℕ) × (j : ℕ) × (0 ≡ receive_heartbeat_status n mode p count f) × (heard ≡ receive_heartbeat_heard n mode p count a b f j));
      send_vote = λ mode x heard0 heard1 requests count channel g. Lift {0, 1} (
          (f : List ℕ) × (j : ℕ) × (0 ≡ send_vote_status mode x count channel f)
          × (g.bytes ≡ send_vote_left mode x heard0 heard1 requests count channel f)
          × (g.sent ≡ send_vote_sent mode x heard0 heard1 requests count channel f j));
      receive_vote = λ n p count a b s m t k. Lift {0, 1} (
          (0 ≡ receive_vote_status n p count s) × (t ≡ receive_vote_left n p count a b s) × (k ≡ receive_vote_arrived n p count a b s m));
      decide = λ mode x heard0 heard1 requests votes arrived y. Lift {0, 1} (
          (0 ≡ decide_status mode x votes) × (y ≡ decide_left mode x heard0 heard1 requests votes arrived));
    }
