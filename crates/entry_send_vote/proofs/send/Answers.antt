-- `entry_send_vote::send` meets its contract: what is found in the lent state decides. Assumes nothing.
use Rattle.std.specs.Result.{is_err}
use Rattle.std.proofs.Common.{◌≡◌, ℕ, Bool, ◌||◌, cond, List, length, refl, ap₂, ◌∙◌, arith, Result, Ok, Err}
use borrow.Author.Tests.{ltb-false}
use Rattle.sets.proofs.Booleans.{or_f_l, or_f_r}
use Rattle.state.specs.declared.Node.{Node}
use Rattle.state.specs.Image.{decoded}
use Rattle.refusal.specs.declared.Refusal.{Refusal}
use Rattle.refusal.specs.declared.Refusal.TheVariants.{Number}
use Rattle.refusal.specs.Codes.{code_of, status_of}
use Rattle.refusal.proofs.Codes.{exit_status, unless_err}
use Rattle.rules.specs.OneCycle.{wrong_mode, quiet_in}
use Rattle.entry_lent.specs.Refusals.{wrong_cycle, wrong_channel}
use Rattle.entry_lent.specs.Found.{lent_node}
use Rattle.entry_lent.proofs.Images.{good_place, mode_wrong, number_wrong}
use Rattle.entry_lent.proofs.Sending.{none_status, Found, found, left_found}
use Rattle.entry_send_vote.specs.Voting.{voted_of, vote_from, send_vote_status, send_vote_left, send_vote_sent}
use Rattle.entry_send_vote.proofs.send.Goals as goal

abbrev wrongs : ℕ → ℕ → ℕ → Bool
wrongs mode cycle channel = wrong_mode mode || (wrong_cycle cycle || wrong_channel channel)

module _ (mode : ℕ) (s : List ℕ) (cycle channel : ℕ) (f : List ℕ) where
  module _ (q w : Bool) (m : q ≡ quiet_in mode) (e : w ≡ wrongs mode cycle channel) where
    by_node : (r : Refusal) → Err r ≡ lent_node q w s (length f) 36 → code_of r ≡ send_vote_status mode s cycle channel f
    unfolding send_vote_status
    by_node r = none_status (quiet_in mode) (wrongs mode cycle channel) s 36 f q w r m e

    there : (n : Node) → Ok n ≡ lent_node q w s (length f) 36 → Found (quiet_in mode) (wrongs mode cycle channel) s 36 f n
    there n = found (quiet_in mode) (wrongs mode cycle channel) s 36 f q w n m e

-- whether a number is wrong, by looking at the mode and at the cycle and the channel
looked : (mode cycle channel : ℕ) {w a b : Bool} (r : Result Bool Refusal) (t : Result Unit Refusal) → w ≡ (a || b) → a ≡ is_err r → r ≡ cond (wrong_mode mode) (Err Number) (Ok (quiet_in mode))
    → b ≡ is_err t → status_of t ≡ cond (wrong_cycle cycle || wrong_channel channel) 2 0 → w ≡ wrongs mode cycle channel
looked mode cycle channel r t e ea er eb et = e ∙ ap₂ (λ (x y : Bool). x || y) (mode_wrong mode _ r ea er) (number_wrong _ _ t eb et)

pub returns-in_err-n-clause-value : goal.returns-in_err-n-clause-value
returns-in_err-n-clause-value c =
    exit_status _ _ c.from_residual.ensures.1 ∙ by_node c.args.mode c.args.state.now c.args.cycle c.args.channel c.args.frame.now _ _ c.is_quiet-quiet.ensures (looked c.args.mode c.args.cycle c.args.channel c.check_mode.result c.check_cycle.result refl c.is_err.ensures.value c.check_mode.ensures c.is_err-2.ensures.value c.check_cycle.ensures) _ c.in_err-n.ensures

pub returns-in_err-n-clause-frame_after : goal.returns-in_err-n-clause-frame_after
unfolding send_vote_left
returns-in_err-n-clause-frame_after c =
    unless_err _ _ _ _ (by_node c.args.mode c.args.state.now c.args.cycle c.args.channel c.args.frame.now _ _ c.is_quiet-quiet.ensures (looked c.args.mode c.args.cycle c.args.channel c.check_mode.result c.check_cycle.result refl c.is_err.ensures.value c.check_mode.ensures c.is_err-2.ensures.value c.check_cycle.ensures) _ c.in_err-n.ensures)

pub returns-in_err-n-clause-sent_after : goal.returns-in_err-n-clause-sent_after
unfolding send_vote_sent
returns-in_err-n-clause-sent_after c =
    unless_err _ _ _ _ (by_node c.args.mode c.args.state.now c.args.cycle c.args.channel c.args.frame.now _ _ c.is_quiet-quiet.ensures (looked c.args.mode c.args.cycle c.args.channel c.check_mode.result c.check_cycle.result refl c.is_err.ensures.value c.check_mode.ensures c.is_err-2.ensures.value c.check_cycle.ensures) _ c.in_err-n.ensures)

pub send_of-requires-clause-nodes_bound : goal.send_of-requires-clause-nodes_bound
send_of-requires-clause-nodes_bound c =
    let t = there c.args.mode c.args.state.now c.args.cycle c.args.channel c.args.frame.now _ _ c.is_quiet-quiet.ensures (looked c.args.mode c.args.cycle c.args.channel c.check_mode.result c.check_cycle.result refl c.is_err.ensures.value c.check_mode.ensures c.is_err-2.ensures.value c.check_cycle.ensures) _ c.in_ok-n.ensures in
    good_place _ c.args.state.now _ (λ i. (c.type_inv.state i).fits) t.image

pub send_of-requires-clause-cycle_bound : goal.send_of-requires-clause-cycle_bound
send_of-requires-clause-cycle_bound c =
    let t = there c.args.mode c.args.state.now c.args.cycle c.args.channel c.args.frame.now _ _ c.is_quiet-quiet.ensures (looked c.args.mode c.args.cycle c.args.channel c.check_mode.result c.check_cycle.result refl c.is_err.ensures.value c.check_mode.ensures c.is_err-2.ensures.value c.check_cycle.ensures) _ c.in_ok-n.ensures in
    let a = c.args in
    let h = or_f_r (wrong_mode a.mode) (wrong_cycle a.cycle || wrong_channel a.channel) t.right in
    let small = ltb-false 63 a.cycle (or_f_l (wrong_cycle a.cycle) (wrong_channel a.channel) h) in
    omega arith

pub send_of-requires-clause-frame_len : goal.send_of-requires-clause-frame_len
send_of-requires-clause-frame_len c = (there c.args.mode c.args.state.now c.args.cycle c.args.channel c.args.frame.now _ _ c.is_quiet-quiet.ensures (looked c.args.mode c.args.cycle c.args.channel c.check_mode.result c.check_cycle.result refl c.is_err.ensures.value c.check_mode.ensures c.is_err-2.ensures.value c.check_cycle.ensures) _ c.in_ok-n.ensures).sized

pub returns-clause-value : goal.returns-clause-value
unfolding send_vote_status
returns-clause-value c = (there c.args.mode c.args.state.now c.args.cycle c.args.channel c.args.frame.now _ _ c.is_quiet-quiet.ensures (looked c.args.mode c.args.cycle c.args.channel c.check_mode.result c.check_cycle.result refl c.is_err.ensures.value c.check_mode.ensures c.is_err-2.ensures.value c.check_cycle.ensures) _ c.in_ok-n.ensures).accepted

pub returns-clause-frame_after : goal.returns-clause-frame_after
unfolding send_vote_left send_vote_status
returns-clause-frame_after c =
    let a = c.args in
    let t = there a.mode a.state.now a.cycle a.channel a.frame.now _ _ c.is_quiet-quiet.ensures (looked c.args.mode c.args.cycle c.args.channel c.check_mode.result c.check_cycle.result refl c.is_err.ensures.value c.check_mode.ensures c.is_err-2.ensures.value c.check_cycle.ensures) _ c.in_ok-n.ensures in
    left_found _ _ _ _ _ (λ (q : Bool) (d : Result Node Refusal). vote_from q d a.heard.members a.heard.joining a.heard.requests a.cycle a.channel a.frame.now) _ _ _ _
    c.is_quiet-quiet.ensures t c.send_of.ensures.frame_after

pub returns-clause-sent_after : goal.returns-clause-sent_after
unfolding send_vote_sent send_vote_status
returns-clause-sent_after c =
    let a = c.args in
    let t = there a.mode a.state.now a.cycle a.channel a.frame.now _ _ c.is_quiet-quiet.ensures (looked c.args.mode c.args.cycle c.args.channel c.check_mode.result c.check_cycle.result refl c.is_err.ensures.value c.check_mode.ensures c.is_err-2.ensures.value c.check_cycle.ensures) _ c.in_ok-n.ensures in
    left_found _ _ _ _ _ (λ (q : Bool) (d : Result Node Refusal). voted_of q d a.heard.members a.heard.joining a.heard.requests) _ _ _ _
    c.is_quiet-quiet.ensures t c.send_of.ensures.value
