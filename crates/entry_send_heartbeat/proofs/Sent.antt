-- What a node that sends a heartbeat leaves may be read, and what a call answers, by what it finds in the lent state. Assumes nothing.
use Rattle.std.proofs.Common.{◌≡◌, ℕ, ◌<◌, ◌≤◌, ◌+◌, Bool, true, false, ◌||◌, cond, List, length, refl, sym, ◌∙◌, arith, Ok, Err}
use mathlib.Core.Bool.{false≢true}
use Rattle.sets.proofs.Booleans.{and_r, or_f_r}
use Rattle.bigendian.proofs.Laws.{Bytes}
use Rattle.state.specs.declared.State.{State}
use Rattle.state.specs.declared.State.TheVariants.{Out, Joining, Member}
use Rattle.state.specs.declared.Node.{Node}
use Rattle.state.specs.State.{formed_place, formed_state, formed}
use Rattle.rules.specs.OneCycle.{wrong_mode, quiet_in}
use Rattle.frames.specs.Written.{wrong_drive, wrong_request}
use Rattle.refusal.specs.declared.Refusal.{Refusal}
use Rattle.refusal.specs.Codes.{code_of}
use Rattle.refusal.specs.Refusal.{first}
use Rattle.refusal.proofs.Codes.{refused, passed}
use Rattle.entry_lent.specs.Refusals.{wrong_cycle, wrong_channel, wrong_indicators}
use Rattle.entry_lent.specs.Found.{lent_node}
use Rattle.entry_lent.proofs.Bounds.{sending_bounds}
use Rattle.entry_lent.proofs.Sending.{send_status, none_status, Found, found}
use Rattle.entry_send_heartbeat.specs.Beating.{wrong_sending, join_bit, request_bit, send_heartbeat_status}

-- what is sent may be written and read in that press, so that 10 has no place here: no joining node requests, and in a press that votes in every cycle no member
pub sent_allowed : (quiet : Bool) (n : Node) → formed quiet n ≡ true → wrong_request quiet (join_bit n.state) (request_bit n.state) ≡ false
unfolding formed wrong_request
sent_allowed quiet n f = go quiet n.state (and_r (formed_place n.id n.nodes) (formed_state quiet n.id n.nodes n.state) f)
  where
    go : (quiet : Bool) (s : State) → formed_state quiet n.id n.nodes s ≡ true → wrong_request quiet (join_bit s) (request_bit s) ≡ false
    go quiet (Out r) e = refl
    go quiet Joining e = refl
    go quiet (Member g false) e = refl
    go true (Member g true) e = refl
    go false (Member g true) e = absurd (false≢true e)

module _ (mode : ℕ) (s : List ℕ) (sync startup cycle channel : ℕ) (d f : List ℕ) where
  pub by_numbers : (r : Refusal) → code_of r ≡ cond (wrong_sending mode sync startup cycle channel) 2 0 → code_of r ≡ send_heartbeat_status mode s sync startup cycle channel d f
  unfolding send_heartbeat_status first
  by_numbers r e = let h = refused r _ 2 e in simp h.0 h.1

  module _ (h : ◌≡◌ {A = ℕ} 0 (cond (wrong_sending mode sync startup cycle channel) 2 0)) where
    fine : wrong_sending mode sync startup cycle channel ≡ false
    fine = passed _ 2 refl h

    pub bounds : (sync ≤ 1) × (startup ≤ sync) × (cycle ≤ 63)
    bounds = sending_bounds sync startup cycle channel (or_f_r (wrong_mode mode) (wrong_indicators sync startup || wrong_cycle cycle || wrong_channel channel) fine)

    pub by_drive : wrong_drive d ≡ true → 3 ≡ send_heartbeat_status mode s sync startup cycle channel d f
    unfolding send_heartbeat_status first
    by_drive w = simp (fine, w)

    module _ (w : wrong_drive d ≡ false) (q : Bool) (m : q ≡ quiet_in mode) where
      -- then the lent state and the frame decide
      pub by_state : send_heartbeat_status mode s sync startup cycle channel d f ≡ send_status (quiet_in mode) false s (10 + length d) f
      unfolding send_heartbeat_status first
      by_state = simp (fine, w)

      pub by_node : (r : Refusal) → Err r ≡ lent_node q false s (length f) (10 + length d) → code_of r ≡ send_heartbeat_status mode s sync startup cycle channel d f
      by_node r e = none_status (quiet_in mode) false s (10 + length d) f q false r m refl e ∙ sym by_state

      pub there : (n : Node) → Ok n ≡ lent_node q false s (length f) (10 + length d) → Found (quiet_in mode) false s (10 + length d) f n
      there n = found (quiet_in mode) false s (10 + length d) f q false n m refl
