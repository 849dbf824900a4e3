-- A press under fault records is one of which nobody knows the records, so that the premises of the theorem on any bus can be met too. Assumes nothing.
use mathlib.Core.Path.{◌≡◌, refl, ap}
use mathlib.Core.Logic.{◌⊎◌, inl, inr}
use mathlib.Core.Bool.{Bool, true, false, ◌&&◌}
use mathlib.Core.List.{List, [], ◌∷◌, map}
use Prim.Native.Nat.{ℕ, zero, suc, ◌<◌}
use native.Mathlib.Omega.{arith}
use Rattle.rules.specs.declared.Faults.{Faults}
use Rattle.rules.specs.OneCycle.{quiet_in, in_mode}
use Rattle.rules.specs.Faults.{Row, heartbeat_reaches, vote_reaches, cycle}
use Rattle.bus_units.specs.Units.{Bus}
use Rattle.bus_units.specs.Carried.{Came, on_both, on_a, on_b, on_none, HeartbeatRefused, VoteRefused}
use Rattle.bus_units.specs.Recorded.{record_of}
use Rattle.theorem_unit_calls.specs.Entries.{Entries}
use Rattle.theorem_unit_calls.specs.Cycle.{beats_written, votes_written, Wrote, sends, CycleDone, Pressed, none, next, SoundDone, SoundPressed}

-- what came of a frame says of each copy that it is as sent or refused
came_copies : (Sent Refused : ℕ → List ℕ → Type 0) (copies : ℕ → List ℕ) (t : Bool) → Came Sent Refused (copies 0) (copies 1) t
    → (channel : ℕ) → channel < 2 → Sent channel (copies channel) ⊎ Refused channel (copies channel)
came_copies Sent Refused copies true (on_both a b) zero l = inl a
came_copies Sent Refused copies true (on_both a b) (suc zero) l = inl b
came_copies Sent Refused copies true (on_a a b) zero l = inl a
came_copies Sent Refused copies true (on_a a b) (suc zero) l = inr b
came_copies Sent Refused copies true (on_b a b) zero l = inr a
came_copies Sent Refused copies true (on_b a b) (suc zero) l = inl b
came_copies Sent Refused copies false (on_none a b) zero l = inr a
came_copies Sent Refused copies false (on_none a b) (suc zero) l = inr b
came_copies Sent Refused copies t k (suc (suc channel)) l = absurd (omega arith)

cycle_sound : (E : Entries) (mode n count : ℕ) (c : Faults) (bus : Bus) (x z : ℕ → List ℕ) → CycleDone E mode n count c bus x z → SoundDone E mode n count c.stop c.start bus x z
cycle_sound E mode n count c bus x z d =
    record {
      counted = d.counted;
      parts = d.parts;
      beats = λ p q channel lp lq o.
          came_copies (Wrote (beats_written (d.parts p lp))) (HeartbeatRefused (quiet_in mode) count p) (bus.heartbeats p q) (sends (beats_written (d.parts p lp)) && heartbeat_reaches c p q) (d.beats p q lp lq o) channel;
      ballots = λ p q channel lp lq o.
          came_copies (Wrote (votes_written (d.parts p lp))) (VoteRefused n count p) (bus.votes p q) (sends (votes_written (d.parts p lp)) && vote_reaches c p q) (d.ballots p q lp lq o) channel;
    }

-- as many cycles, and in each the same units stopped and started
abbrev pub SameRuleOne : List Faults → List Faults → Type 0
SameRuleOne cs ds = (map (λ (c : Faults). c.stop) ds ≡ map (λ (c : Faults). c.stop) cs) × (map (λ (c : Faults). c.start) ds ≡ map (λ (c : Faults). c.start) cs)

pub pressed_sound : (E : Entries) (mode n : ℕ) (row : Row) (cs : List Faults) (x z : ℕ → List ℕ) → Pressed E mode n cs x z
    → (ds : List Faults) × SameRuleOne cs ds × SoundPressed E mode n row ds x z
unfolding record_of
pressed_sound E mode n row [] x z none = ([], (refl, refl), none)
pressed_sound E mode n row (c ∷ cs) x z (next {y = y} count bus d rest) =
    let e = record_of (in_mode mode n) count bus c.stop c.start row in
    let more = pressed_sound E mode n (cycle (in_mode mode n) e row) cs y z rest in (
      e ∷ more.0,
      (ap (λ (masks : List ℕ). c.stop ∷ masks) more.1.0, ap (λ (masks : List ℕ). c.start ∷ masks) more.1.1),
      next count c.stop c.start bus (cycle_sound E mode n count c bus x y d) more.2,
    )
