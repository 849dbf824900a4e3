-- Which buses carry a fault record, and conditions for it that can be checked on a bus.
-- Assumes nothing.
use Rattle.std.specs.Prelude as std
use Rattle.std.specs.Prelude.{◌≡◌, Bool, true, false, None, Some, Err, ◌&&◌, ◌||◌, cond, List, ℕ, ◌≤◌, ◌<◌, eqb}
use Rattle.std.proofs.Math.Option.{Option, none, some}
use Rattle.state.specs.declared.State.{State}
use Rattle.state.specs.declared.State.TheVariants.{Out, Joining, Member}
use Rattle.rules.specs.declared.Faults.{Faults}
use Rattle.rules.specs.declared.Config.{Config}
use Rattle.rules.specs.OneCycle.{sends_member, sends_join}
use Rattle.rules.specs.Faults.{Row, at, heartbeat_reaches, vote_reaches, arrive_if}
use Rattle.frames.specs.declared.Fault.{Fault}
use Rattle.frames.specs.declared.Heartbeat.{Heartbeat}
use Rattle.frames.specs.declared.Heartbeat.TheVariants.{Alive, Join, Request}
use Rattle.frames.specs.Written.{wrong_drive}
use Rattle.frames.specs.Read.{read_heartbeat, read_vote}
use Rattle.bus_units.specs.Units.{Copies, Bus, heartbeat_sent, heartbeat_got, vote_cast, vote_sent, vote_got, received}

-- ---- a bus that carries a record, drive bytes left out: what a unit makes of the two copies of another's frame is what was sent if it reaches, and missed if not. r is the row after rule 1

abbrev pub heartbeat_kind : State → std.Option Heartbeat
heartbeat_kind (Out r) = None
heartbeat_kind Joining = Some Join
heartbeat_kind (Member g a) = cond a (Some Request) (Some Alive)

pub record Carries (C : Config) (count : ℕ) (bus : Bus) (c : Faults) (r : Row) : Type 0 where
  pub beats : (p q : ℕ) → p < C.nodes → q < C.nodes → eqb p q ≡ false
      → heartbeat_got C.quiet count bus.heartbeats q p ≡ cond (heartbeat_reaches c p q) (heartbeat_kind (at r p)) None
  pub ballots : (p q : ℕ) → p < C.nodes → q < C.nodes → eqb p q ≡ false
      → received (vote_got C.nodes count bus.votes q p) ≡ arrive_if (vote_reaches c p q) (vote_cast C count bus.heartbeats p (at r p))

-- ---- what came of one frame in its copies a and b: each is the frame as sent on that channel, or bytes that reading refuses (none, cut, damaged, a null frame, a
-- frame of another cycle or unit); it came if one at least is as sent

pub data Came (Sent Refused : (channel : ℕ) → List ℕ → Type 0) (a b : List ℕ) : Bool → Type 0 where
  on_both : Sent 0 a → Sent 1 b → Came Sent Refused a b true
  on_a : Sent 0 a → Refused 1 b → Came Sent Refused a b true
  on_b : Refused 0 a → Sent 1 b → Came Sent Refused a b true
  on_none : Refused 0 a → Refused 1 b → Came Sent Refused a b false

-- the heartbeat of unit p in state s with these drive bytes, and with any indicators that are allowed
abbrev pub HeartbeatSent : (count p : ℕ) → (drive : List ℕ) → State → (channel : ℕ) → List ℕ → Type 0
HeartbeatSent count p drive s channel x =
    (sync : ℕ) × (startup : ℕ) × (sync < 2) × (startup ≤ sync) × (wrong_drive drive ≡ false) × (heartbeat_sent sync startup drive count p s channel ≡ some x)

abbrev pub HeartbeatRefused : (quiet : Bool) → (count p channel : ℕ) → List ℕ → Type 0
HeartbeatRefused quiet count p channel x = (f : Fault) × (read_heartbeat quiet p count channel x ≡ Err f)

abbrev pub VoteSent : Config → (count : ℕ) → Copies → (p : ℕ) → State → (channel : ℕ) → List ℕ → Type 0
VoteSent C count h p s channel x = vote_sent C count h p s channel ≡ some x

abbrev pub VoteRefused : (N count p channel : ℕ) → List ℕ → Type 0
VoteRefused N count p channel x = (f : Fault) × (read_vote N p count channel x ≡ Err f)

abbrev pub sends_heartbeat : State → Bool
sends_heartbeat s = sends_member s || sends_join s

abbrev pub is_some : {A : Type 0} → Option A → Bool
is_some none = false
is_some (some v) = true

-- by the heartbeats h that came to it
abbrev pub sends_vote : Config → (count : ℕ) → Copies → (p : ℕ) → State → Bool
sends_vote C count h p s = is_some (vote_cast C count h p s)

-- a frame comes to another unit exactly where one was sent and the record lets it reach; a heartbeat with the drive bytes that its sender has in this cycle
pub record Delivers (C : Config) (count : ℕ) (bus : Bus) (c : Faults) (r : Row) : Type 0 where
  pub drive : (p : ℕ) → p < C.nodes → List ℕ
  pub beats : (p q : ℕ) (l : p < C.nodes) → q < C.nodes → eqb p q ≡ false
      → Came (HeartbeatSent count p (drive p l) (at r p)) (HeartbeatRefused C.quiet count p) (bus.heartbeats p q 0) (bus.heartbeats p q 1) (sends_heartbeat (at r p) && heartbeat_reaches c p q)
  pub ballots : (p q : ℕ) → p < C.nodes → q < C.nodes → eqb p q ≡ false
      → Came (VoteSent C count bus.heartbeats p (at r p)) (VoteRefused C.nodes count p) (bus.votes p q 0) (bus.votes p q 1)
      (sends_vote C count bus.heartbeats p (at r p) && vote_reaches c p q)
