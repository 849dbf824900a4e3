-- `entry_send_heartbeat::send` meets its contract: numbers and drive bytes that are not refused, what is found in the lent state decides. Assumes nothing.
use Rattle.std.proofs.Common.{◌≡◌, ℕ, ◌<◌, ◌≤◌, Bool, eqb, List, sym, ap, ap₂, ◌∙◌, arith, Result}
use Rattle.state.specs.declared.Node.{Node}
use Rattle.state.specs.Image.{decoded}
use Rattle.rules.specs.OneCycle.{quiet_in}
use Rattle.frames.specs.Written.{bit}
use Rattle.frames.proofs.Converted.{bit-number}
use Rattle.refusal.specs.declared.Refusal.{Refusal}
use Rattle.refusal.specs.declared.Refusal.TheVariants.{Length}
use Rattle.refusal.specs.Refusal.{unless}
use Rattle.refusal.proofs.Codes.{exit_status, unless_err}
use Rattle.entry_lent.proofs.Images.{good_place}
use Rattle.entry_lent.proofs.Sending.{left_found}
use Rattle.entry_send_heartbeat.specs.Beating.{sent_of, heartbeat_of, heartbeat_from, send_heartbeat_left, send_heartbeat_sent}
use Rattle.entry_send_heartbeat.proofs.Sent.{by_numbers, by_drive, by_node, by_state, there, bounds}
use Rattle.entry_send_heartbeat.proofs.send.Goals as goal

pub returns-in_err-quiet-clause-value : goal.returns-in_err-quiet-clause-value
returns-in_err-quiet-clause-value c = exit_status _ _ c.from_residual.ensures.1 ∙ (by_numbers c.args.mode c.args.state.now c.args.sync c.args.startup c.args.cycle c.args.channel c.args.drive.now c.args.frame.now _ c.in_err-quiet.ensures.value)

pub returns-in_err-quiet-clause-frame_after : goal.returns-in_err-quiet-clause-frame_after
unfolding send_heartbeat_left
returns-in_err-quiet-clause-frame_after c = unless_err _ _ _ _ (by_numbers c.args.mode c.args.state.now c.args.sync c.args.startup c.args.cycle c.args.channel c.args.drive.now c.args.frame.now _ c.in_err-quiet.ensures.value)

pub returns-in_err-quiet-clause-sent_after : goal.returns-in_err-quiet-clause-sent_after
unfolding send_heartbeat_sent
returns-in_err-quiet-clause-sent_after c = unless_err _ _ _ _ (by_numbers c.args.mode c.args.state.now c.args.sync c.args.startup c.args.cycle c.args.channel c.args.drive.now c.args.frame.now _ c.in_err-quiet.ensures.value)

pub returns-in_err-n-clause-value : goal.returns-in_err-n-clause-value
returns-in_err-n-clause-value c = exit_status _ _ c.from_residual-in_err-n.ensures.1 ∙ (by_node c.args.mode c.args.state.now c.args.sync c.args.startup c.args.cycle c.args.channel c.args.drive.now c.args.frame.now c.in_ok-quiet.ensures.value (sym c.wrong_drive.ensures ∙ c.if-wrong_drive.false) _ c.in_ok-quiet.ensures.quiet _ c.in_err-n.ensures)

pub returns-in_err-n-clause-frame_after : goal.returns-in_err-n-clause-frame_after
unfolding send_heartbeat_left
returns-in_err-n-clause-frame_after c = unless_err _ _ _ _ (by_node c.args.mode c.args.state.now c.args.sync c.args.startup c.args.cycle c.args.channel c.args.drive.now c.args.frame.now c.in_ok-quiet.ensures.value (sym c.wrong_drive.ensures ∙ c.if-wrong_drive.false) _ c.in_ok-quiet.ensures.quiet _ c.in_err-n.ensures)

pub returns-in_err-n-clause-sent_after : goal.returns-in_err-n-clause-sent_after
unfolding send_heartbeat_sent
returns-in_err-n-clause-sent_after c = unless_err _ _ _ _ (by_node c.args.mode c.args.state.now c.args.sync c.args.startup c.args.cycle c.args.channel c.args.drive.now c.args.frame.now c.in_ok-quiet.ensures.value (sym c.wrong_drive.ensures ∙ c.if-wrong_drive.false) _ c.in_ok-quiet.ensures.quiet _ c.in_err-n.ensures)

pub returns-then-wrong_drive-clause-value : goal.returns-then-wrong_drive-clause-value
returns-then-wrong_drive-clause-value c = (by_drive c.args.mode c.args.state.now c.args.sync c.args.startup c.args.cycle c.args.channel c.args.drive.now c.args.frame.now c.in_ok-quiet.ensures.value (sym c.wrong_drive.ensures ∙ c.if-wrong_drive.true))

pub returns-then-wrong_drive-clause-frame_after : goal.returns-then-wrong_drive-clause-frame_after
unfolding send_heartbeat_left
returns-then-wrong_drive-clause-frame_after c = unless_err Length _ _ _ (by_drive c.args.mode c.args.state.now c.args.sync c.args.startup c.args.cycle c.args.channel c.args.drive.now c.args.frame.now c.in_ok-quiet.ensures.value (sym c.wrong_drive.ensures ∙ c.if-wrong_drive.true))

pub returns-then-wrong_drive-clause-sent_after : goal.returns-then-wrong_drive-clause-sent_after
unfolding send_heartbeat_sent
returns-then-wrong_drive-clause-sent_after c = unless_err Length _ _ _ (by_drive c.args.mode c.args.state.now c.args.sync c.args.startup c.args.cycle c.args.channel c.args.drive.now c.args.frame.now c.in_ok-quiet.ensures.value (sym c.wrong_drive.ensures ∙ c.if-wrong_drive.true))

pub send_of-requires-clause-id_bound : goal.send_of-requires-clause-id_bound
send_of-requires-clause-id_bound c = let p = good_place _ c.args.state.now _ (λ i. (c.type_inv.state i).fits) (there c.args.mode c.args.state.now c.args.sync c.args.startup c.args.cycle c.args.channel c.args.drive.now c.args.frame.now c.in_ok-quiet.ensures.value (sym c.wrong_drive.ensures ∙ c.if-wrong_drive.false) _ c.in_ok-quiet.ensures.quiet _ c.in_ok-n.ensures).image in omega arith

pub send_of-requires-clause-frame_len : goal.send_of-requires-clause-frame_len
send_of-requires-clause-frame_len c = (there c.args.mode c.args.state.now c.args.sync c.args.startup c.args.cycle c.args.channel c.args.drive.now c.args.frame.now c.in_ok-quiet.ensures.value (sym c.wrong_drive.ensures ∙ c.if-wrong_drive.false) _ c.in_ok-quiet.ensures.quiet _ c.in_ok-n.ensures).sized

pub returns-clause-value : goal.returns-clause-value
returns-clause-value c = (there c.args.mode c.args.state.now c.args.sync c.args.startup c.args.cycle c.args.channel c.args.drive.now c.args.frame.now c.in_ok-quiet.ensures.value (sym c.wrong_drive.ensures ∙ c.if-wrong_drive.false) _ c.in_ok-quiet.ensures.quiet _ c.in_ok-n.ensures).accepted ∙ sym (by_state c.args.mode c.args.state.now c.args.sync c.args.startup c.args.cycle c.args.channel c.args.drive.now c.args.frame.now c.in_ok-quiet.ensures.value (sym c.wrong_drive.ensures ∙ c.if-wrong_drive.false) _ c.in_ok-quiet.ensures.quiet)

pub returns-clause-frame_after : goal.returns-clause-frame_after
unfolding send_heartbeat_left
returns-clause-frame_after c =
    let a = c.args in
    let b = (bounds c.args.mode c.args.state.now c.args.sync c.args.startup c.args.cycle c.args.channel c.args.drive.now c.args.frame.now c.in_ok-quiet.ensures.value) in
    let same : heartbeat_of c.in_ok-n.n (bit (eqb a.sync 1)) (bit (eqb a.startup 1)) a.cycle a.channel a.drive.now a.frame.now
    ≡ heartbeat_of c.in_ok-n.n a.sync a.startup a.cycle a.channel a.drive.now a.frame.now
    = ap₂ (λ (x y : ℕ). heartbeat_of c.in_ok-n.n x y a.cycle a.channel a.drive.now a.frame.now) (bit-number a.sync (omega arith)) (bit-number a.startup (omega arith)) in
    left_found _ _ _ _ _ (λ (q : Bool) (d : Result Node Refusal). heartbeat_from d a.sync a.startup a.cycle a.channel a.drive.now a.frame.now) _ _ _ _
    c.in_ok-quiet.ensures.quiet (there c.args.mode c.args.state.now c.args.sync c.args.startup c.args.cycle c.args.channel c.args.drive.now c.args.frame.now c.in_ok-quiet.ensures.value (sym c.wrong_drive.ensures ∙ c.if-wrong_drive.false) _ c.in_ok-quiet.ensures.quiet _ c.in_ok-n.ensures) (c.send_of.ensures.frame_after ∙ same)
    ∙ ap (λ (k : ℕ). unless k (heartbeat_from (decoded (quiet_in a.mode) a.state.now) a.sync a.startup a.cycle a.channel a.drive.now a.frame.now) a.frame.now) (sym (by_state c.args.mode c.args.state.now c.args.sync c.args.startup c.args.cycle c.args.channel c.args.drive.now c.args.frame.now c.in_ok-quiet.ensures.value (sym c.wrong_drive.ensures ∙ c.if-wrong_drive.false) _ c.in_ok-quiet.ensures.quiet))

pub returns-clause-sent_after : goal.returns-clause-sent_after
unfolding send_heartbeat_sent
returns-clause-sent_after c =
    let a = c.args in
    left_found _ _ _ _ _ (λ (q : Bool) (d : Result Node Refusal). sent_of d) _ _ _ _ c.in_ok-quiet.ensures.quiet (there c.args.mode c.args.state.now c.args.sync c.args.startup c.args.cycle c.args.channel c.args.drive.now c.args.frame.now c.in_ok-quiet.ensures.value (sym c.wrong_drive.ensures ∙ c.if-wrong_drive.false) _ c.in_ok-quiet.ensures.quiet _ c.in_ok-n.ensures) c.send_of.ensures.value
    ∙ ap (λ (k : ℕ). unless k (sent_of (decoded (quiet_in a.mode) a.state.now)) a.sent.now) (sym (by_state c.args.mode c.args.state.now c.args.sync c.args.startup c.args.cycle c.args.channel c.args.drive.now c.args.frame.now c.in_ok-quiet.ensures.value (sym c.wrong_drive.ensures ∙ c.if-wrong_drive.false) _ c.in_ok-quiet.ensures.quiet))
