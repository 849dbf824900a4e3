use mathlib.Core.Path.{sym, ◌∙◌}
use Rattle.refusal.proofs.Codes.{numbered, exit_status}
use Rattle.frames.proofs.Refused.{code-refused}
use Rattle.entry_receive_heartbeat.proofs.Heard.{read-bounds, room, read-refused, read-faulty, read-good}
use Rattle.entry_receive_heartbeat.proofs.read.Goals as goal

pub returns-in_err-quiet : goal.returns-in_err-quiet
returns-in_err-quiet c =
    let a = c.args in
    let told = read-refused a.n a.mode a.node a.cycle a.channel a.drive.now a.frame.now a.join.now a.request.now a.drive_bytes.now _ c.in_err-quiet.ensures.value (numbered _) in
    record { value = exit_status _ _ c.from_residual.ensures.1 ∙ told.0; drive_after = told.1.0; join_after = told.1.1.0; request_after = told.1.1.1.0; drive_bytes_after = told.1.1.1.1 }

pub read_heartbeat-requires : goal.read_heartbeat-requires
read_heartbeat-requires c = (read-bounds _ _ _ _ _ _ (sym c.in_ok-quiet.ensures.value)).0

pub returns-in_err-beat : goal.returns-in_err-beat
returns-in_err-beat c =
    let a = c.args in
    let told =
    read-faulty a.n a.mode a.node a.cycle a.channel a.drive.now a.frame.now a.join.now a.request.now a.drive_bytes.now (sym c.in_ok-quiet.ensures.value) _ c.in_ok-quiet.ensures.quiet _ c.read_heartbeat.ensures
    _ c.in_err-beat.was _ (code-refused _) in
    record { value = exit_status _ _ c.from_residual-in_err-beat.ensures.1 ∙ told.0; drive_after = told.1.0; join_after = told.1.1.0; request_after = told.1.1.1.0; drive_bytes_after = told.1.1.1.1 }

-- above what the copying asks: what is read on another channel is wrong here too
pub returns : goal.returns
returns c =
    let a = c.args in
    let z =
    read-good a.n a.mode a.node a.cycle a.channel a.drive.now a.frame.now a.join.now a.request.now a.drive_bytes.now (sym c.in_ok-quiet.ensures.value) _ c.in_ok-quiet.ensures.quiet _ c.read_heartbeat.ensures
    _ c.in_ok-beat.was _ _ c.put_drive.ensures.buffer_after c.put_drive.ensures.value in
    record { value = z.0; drive_after = z.1.0; join_after = c.join_of.ensures ∙ z.1.1.0; request_after = c.request_of.ensures ∙ z.1.1.1.0; drive_bytes_after = z.1.1.1.1 }

pub put_drive-requires : goal.put_drive-requires
put_drive-requires c =
    let told = room _ _ _ _ _ _ _ 0 0 0 (sym c.in_ok-quiet.ensures.value) _ c.in_ok-quiet.ensures.quiet _ c.read_heartbeat.ensures _ c.in_ok-beat.was in
    record { in_bounds = told.0; s_len_bound = told.1.0; buffer_len = told.1.1 }
