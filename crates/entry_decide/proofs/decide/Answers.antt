-- `entry_decide::decide` meets its contract: what is found in the lent state decides. Assumes nothing.
use Rattle.std.proofs.Common.{◌≡◌, ℕ, ◌≤◌, ◌<◌, Bool, false, cond, List, length, get_or, sym, ap, ap₂, ◌∙◌, arith, Result, Ok, Err}
use Rattle.bigendian.proofs.Laws.{Bytes}
use Rattle.state.specs.declared.State.{State}
use Rattle.state.specs.declared.Node.{Node}
use Rattle.state.specs.Image.{image_of, node_at}
use Rattle.refusal.specs.declared.Refusal.{Refusal}
use Rattle.refusal.specs.Codes.{code_of}
use Rattle.refusal.proofs.Codes.{exit_status, unless_err}
use Rattle.rules.specs.OneCycle.{wrong_mode, quiet_in}
use Rattle.entry_lent.specs.Found.{lent_node}
use Rattle.entry_lent.proofs.Images.{good_length, good_node, good_place, mode_wrong}
use Rattle.entry_lent.proofs.Sending.{none_status, Found, found, left_found}
use Rattle.entry_decide.specs.Decide.{decide_status, decision, decided_from, decide_left}
use Rattle.entry_decide.proofs.decide.Goals as goal

module _ (mode : ℕ) (s votes : List ℕ) where
  module _ (q w : Bool) (m : q ≡ quiet_in mode) (e : w ≡ wrong_mode mode) where
    by_node : (r : Refusal) → Err r ≡ lent_node q w s (length votes) 1792 → code_of r ≡ decide_status mode s votes
    unfolding decide_status
    by_node r = none_status (quiet_in mode) (wrong_mode mode) s 1792 votes q w r m e

    -- a node that was found, and the bytes that it was found in
    there : (n : Node) → Ok n ≡ lent_node q w s (length votes) 1792 → Found (quiet_in mode) (wrong_mode mode) s 1792 votes n
    there n = found (quiet_in mode) (wrong_mode mode) s 1792 votes q w n m e

  module _ (n : Node) (h : Found (quiet_in mode) (wrong_mode mode) s 1792 votes n) where
    of_bytes : node_at s ≡ n
    of_bytes = good_node (quiet_in mode) s n h.image

    bounds : Bytes s → (length s ≡ 24) × ((n.nodes ≤ 64) × (n.id < n.nodes))
    bounds b = (good_length (quiet_in mode) s n h.image, good_place (quiet_in mode) s n b h.image)

    module _ (heard0 heard1 requests arrived : ℕ) where
      decided : (q : Bool) (t : State) {left : List ℕ} → q ≡ quiet_in mode → decision q n n.state heard0 heard1 requests votes arrived ≡ t
          → left ≡ image_of (record { state = t; id = get_or s 2 0; nodes = get_or s 3 0 }) → left ≡ decide_left mode s heard0 heard1 requests votes arrived
      unfolding decide_status decide_left
      decided q t e k i =
          left_found (quiet_in mode) (wrong_mode mode) s 1792 votes (λ (b : Bool) (d : Result Node Refusal). decided_from b d heard0 heard1 requests votes arrived s) s _ q n
          e h
          (i ∙ ap₂ (λ (x : State) (m : Node). image_of (record { state = x; id = m.id; nodes = m.nodes })) (sym k) of_bytes)

pub returns-in_err-n-clause-value : goal.returns-in_err-n-clause-value
returns-in_err-n-clause-value c = exit_status _ _ c.from_residual.ensures.1 ∙ (by_node c.args.mode c.args.state.now c.args.votes.now _ _ c.is_quiet-quiet.ensures (mode_wrong c.args.mode _ c.check_mode.result c.is_err-wrong.ensures.value c.check_mode.ensures) _ c.in_err-n.ensures)

pub returns-in_err-n-clause-state_after : goal.returns-in_err-n-clause-state_after
unfolding decide_left
returns-in_err-n-clause-state_after c = unless_err _ _ _ _ (by_node c.args.mode c.args.state.now c.args.votes.now _ _ c.is_quiet-quiet.ensures (mode_wrong c.args.mode _ c.check_mode.result c.is_err-wrong.ensures.value c.check_mode.ensures) _ c.in_err-n.ensures)

pub goes_on-requires-clause-s_len : goal.goes_on-requires-clause-s_len
goes_on-requires-clause-s_len c = ((bounds c.args.mode c.args.state.now c.args.votes.now _ (there c.args.mode c.args.state.now c.args.votes.now _ _ c.is_quiet-quiet.ensures (mode_wrong c.args.mode _ c.check_mode.result c.is_err-wrong.ensures.value c.check_mode.ensures) _ c.in_ok-n.ensures) (λ i. (c.slice_known-1.given i).fits)).0, (there c.args.mode c.args.state.now c.args.votes.now _ _ c.is_quiet-quiet.ensures (mode_wrong _ _ _ c.is_err-wrong.ensures.value c.check_mode.ensures) _ c.in_ok-n.ensures).sized)

pub goes_on-requires-clause-s_bound : goal.goes_on-requires-clause-s_bound
goes_on-requires-clause-s_bound c =
    let e = (of_bytes c.args.mode c.args.state.now c.args.votes.now _ (there c.args.mode c.args.state.now c.args.votes.now _ _ c.is_quiet-quiet.ensures (mode_wrong c.args.mode _ c.check_mode.result c.is_err-wrong.ensures.value c.check_mode.ensures) _ c.in_ok-n.ensures)) in
    let z = (bounds c.args.mode c.args.state.now c.args.votes.now _ (there c.args.mode c.args.state.now c.args.votes.now _ _ c.is_quiet-quiet.ensures (mode_wrong c.args.mode _ c.check_mode.result c.is_err-wrong.ensures.value c.check_mode.ensures) _ c.in_ok-n.ensures) (λ i. (c.slice_known-1.given i).fits)) in
    (omega (arith, ap (λ (x : Node). x.nodes) e, z.1.0), omega (arith, ap (λ (x : Node). x.nodes) e, ap (λ (x : Node). x.id) e, z.1.1))

pub put_state-requires : goal.put_state-requires
put_state-requires c = (bounds c.args.mode c.args.state.now c.args.votes.now _ (there c.args.mode c.args.state.now c.args.votes.now _ _ c.is_quiet-quiet.ensures (mode_wrong c.args.mode _ c.check_mode.result c.is_err-wrong.ensures.value c.check_mode.ensures) _ c.in_ok-n.ensures) (λ i. (c.slice_known-1.given i).fits)).0

pub put_state-requires-in_default : goal.put_state-requires-in_default
put_state-requires-in_default c = (bounds c.args.mode c.args.state.now c.args.votes.now _ (there c.args.mode c.args.state.now c.args.votes.now _ _ c.is_quiet-quiet.ensures (mode_wrong c.args.mode _ c.check_mode.result c.is_err-wrong.ensures.value c.check_mode.ensures) _ c.in_ok-n.ensures) (λ i. (c.slice_known-1.given i).fits)).0

pub next_state-requires : goal.next_state-requires
next_state-requires c = let z = (bounds c.args.mode c.args.state.now c.args.votes.now _ (there c.args.mode c.args.state.now c.args.votes.now _ _ c.is_quiet-quiet.ensures (mode_wrong c.args.mode _ c.check_mode.result c.is_err-wrong.ensures.value c.check_mode.ensures) _ c.in_ok-n.ensures) (λ i. (c.slice_known-1.given i).fits)) in (z.1.0, z.1.1, (there c.args.mode c.args.state.now c.args.votes.now _ _ c.is_quiet-quiet.ensures (mode_wrong _ _ _ c.is_err-wrong.ensures.value c.check_mode.ensures) _ c.in_ok-n.ensures).sized)

pub returns-in-Some-clause-value : goal.returns-in-Some-clause-value
unfolding decide_status
returns-in-Some-clause-value c = (there c.args.mode c.args.state.now c.args.votes.now _ _ c.is_quiet-quiet.ensures (mode_wrong c.args.mode _ c.check_mode.result c.is_err-wrong.ensures.value c.check_mode.ensures) _ c.in_ok-n.ensures).accepted

pub returns-in_default-clause-value : goal.returns-in_default-clause-value
unfolding decide_status
returns-in_default-clause-value c = (there c.args.mode c.args.state.now c.args.votes.now _ _ c.is_quiet-quiet.ensures (mode_wrong c.args.mode _ c.check_mode.result c.is_err-wrong.ensures.value c.check_mode.ensures) _ c.in_ok-n.ensures).accepted

pub returns-in-Some-clause-state_after : goal.returns-in-Some-clause-state_after
returns-in-Some-clause-state_after c =
    let a = c.args in
    decided c.args.mode c.args.state.now c.args.votes.now _ (there c.args.mode c.args.state.now c.args.votes.now _ _ c.is_quiet-quiet.ensures (mode_wrong c.args.mode _ c.check_mode.result c.is_err-wrong.ensures.value c.check_mode.ensures) _ c.in_ok-n.ensures) c.args.heard.members c.args.heard.joining c.args.heard.requests c.args.arrived _ _ c.is_quiet-quiet.ensures
    (ap (λ (m : Node). decision c.is_quiet-quiet.result m m.state a.heard.members a.heard.joining a.heard.requests a.votes.now a.arrived) (sym (of_bytes c.args.mode c.args.state.now c.args.votes.now _ (there c.args.mode c.args.state.now c.args.votes.now _ _ c.is_quiet-quiet.ensures (mode_wrong c.args.mode _ c.check_mode.result c.is_err-wrong.ensures.value c.check_mode.ensures) _ c.in_ok-n.ensures))) ∙ c.in-Some.ensures.0) c.put_state.ensures

pub returns-in_default-clause-state_after : goal.returns-in_default-clause-state_after
returns-in_default-clause-state_after c = decided c.args.mode c.args.state.now c.args.votes.now _ (there c.args.mode c.args.state.now c.args.votes.now _ _ c.is_quiet-quiet.ensures (mode_wrong c.args.mode _ c.check_mode.result c.is_err-wrong.ensures.value c.check_mode.ensures) _ c.in_ok-n.ensures) c.args.heard.members c.args.heard.joining c.args.heard.requests c.args.arrived _ _ c.is_quiet-quiet.ensures (sym c.next_state.ensures) c.put_state-in_default.ensures
