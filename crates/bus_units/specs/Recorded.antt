-- Nobody on a press knows the fault record: the record that says what came, computed from what came; and the buses of which it says all.
-- Assumes nothing.
use Rattle.std.specs.Prelude.{◌≡◌, ◌⊎◌, Option, None, Some, Bool, true, false, not, ◌&&◌, List, ℕ, ◌<◌, eqb}
use Rattle.sets.specs.Sets.{has, those, any}
use Rattle.state.specs.declared.State.{State}
use Rattle.rules.specs.declared.Faults.{Faults}
use Rattle.rules.specs.declared.Config.{Config}
use Rattle.rules.specs.OneCycle.{stop_and_start}
use Rattle.rules.specs.Faults.{Row, at, tabulate}
use Rattle.frames.specs.declared.Heartbeat.{Heartbeat}
use Rattle.bus_units.specs.Units.{Bus, heartbeat_got, vote_got, received}
use Rattle.bus_units.specs.Carried.{HeartbeatSent, HeartbeatRefused, VoteSent, VoteRefused, sends_heartbeat, is_some, sends_vote}

-- ---- a bus on which every copy is the frame as sent on that channel, or is refused by reading; r is the row after rule 1

pub record Sound (C : Config) (count : ℕ) (bus : Bus) (r : Row) : Type 0 where
  -- the drive bytes that each unit has in this cycle
  pub drive : (p : ℕ) → p < C.nodes → List ℕ
  pub beats : (p q channel : ℕ) (l : p < C.nodes) → q < C.nodes → eqb p q ≡ false → channel < 2
      → HeartbeatSent count p (drive p l) (at r p) channel (bus.heartbeats p q channel) ⊎ HeartbeatRefused C.quiet count p channel (bus.heartbeats p q channel)
  pub ballots : (p q channel : ℕ) → p < C.nodes → q < C.nodes → eqb p q ≡ false → channel < 2
      → VoteSent C count bus.heartbeats p (at r p) channel (bus.votes p q channel) ⊎ VoteRefused C.nodes count p channel (bus.votes p q channel)

-- ---- the marks of one phase: `sent p` says whether unit p sent a frame, `got q p` whether unit q made anything of it

-- what came to no other unit was lost in sending
unfoldable pub lost_of : (N : ℕ) → (sent : ℕ → Bool) → (got : ℕ → ℕ → Bool) → ℕ
lost_of N sent got = those N (λ p. sent p && not (any N (λ q. not (eqb p q) && got q p)))

-- what came to another unit and not to q is what q missed. What was never sent is not marked, since "Marks count even if no frame was sent."
unfoldable pub missed_of : (N : ℕ) → (sent : ℕ → Bool) → (got : ℕ → ℕ → Bool) → (q : ℕ) → ℕ
missed_of N sent got q = those N (λ p. not (eqb p q) && sent p && not (got q p) && not (has p (lost_of N sent got)))

-- ---- the record that says what came: who sent is by the states after rule 1, who voted also by what it heard; `stop` and `start` are who is stopped and who is started

abbrev pub is_heard : Option Heartbeat → Bool
is_heard None = false
is_heard (Some h) = true

abbrev pub beat_heard : (quiet : Bool) → (count : ℕ) → Bus → (q p : ℕ) → Bool
beat_heard quiet count bus q p = is_heard (heartbeat_got quiet count bus.heartbeats q p)

abbrev pub vote_taken : (N count : ℕ) → Bus → (q p : ℕ) → Bool
vote_taken N count bus q p = is_some (received (vote_got N count bus.votes q p))

-- the state of unit p after rule 1
abbrev pub ruled_at : (stop start : ℕ) → Row → (p : ℕ) → State
ruled_at stop start row p = stop_and_start (has p stop) (has p start) (at row p)

unfoldable pub record_of : Config → (count : ℕ) → Bus → (stop start : ℕ) → Row → Faults
record_of C count bus stop start row =
    let N = C.nodes in
    let beats : ℕ → Bool = λ p. sends_heartbeat (ruled_at stop start row p) in
    let votes : ℕ → Bool = λ p. sends_vote C count bus.heartbeats p (ruled_at stop start row p) in
    record {
      stop = stop;
      start = start;
      heartbeat_lost = lost_of N beats (beat_heard C.quiet count bus);
      vote_lost = lost_of N votes (vote_taken N count bus);
      heartbeat_missed = tabulate N (missed_of N beats (beat_heard C.quiet count bus));
      vote_missed = tabulate N (missed_of N votes (vote_taken N count bus));
    }

-- ---- whom it leaves untouched

-- in one phase: the frame of q, if it sent one, came to another unit, and to q came what came to another
pub record Served (N : ℕ) (sent : ℕ → Bool) (got : ℕ → ℕ → Bool) (q : ℕ) : Type 0 where
  pub heard : sent q ≡ true → any N (λ x. not (eqb q x) && got x q) ≡ true
  pub hears : (p : ℕ) → p < N → eqb p q ≡ false → sent p ≡ true → any N (λ x. not (eqb p x) && got x p) ≡ true → got q p ≡ true

-- in the cycle: it is not stopped either
pub record Untouched (C : Config) (count : ℕ) (bus : Bus) (stop start : ℕ) (row : Row) (q : ℕ) : Type 0 where
  pub runs : has q stop ≡ false
  pub beats : Served C.nodes (λ p. sends_heartbeat (ruled_at stop start row p)) (beat_heard C.quiet count bus) q
  pub votes : Served C.nodes (λ p. sends_vote C count bus.heartbeats p (ruled_at stop start row p)) (vote_taken C.nodes count bus) q
