use mathlib.Core.Path.{refl, sym, ◌∙◌}
use Rattle.std.specs.Prelude.{None}
use Rattle.refusal.proofs.Codes.{numbered, exit_status}
use Rattle.frames.specs.declared.Channel.TheVariants.{A, B}
use Rattle.entry_receive_heartbeat.proofs.Heard.{read-bounds, room_of, receive-refused, receive-copies, receive-on}
use Rattle.entry_receive_heartbeat.proofs.receive.Goals as goal

pub returns-in_err-quiet : goal.returns-in_err-quiet
returns-in_err-quiet c =
    let a = c.args in
    let told = receive-refused a.n a.mode a.node a.cycle a.a.now a.b.now a.drive.now a.heard.now a.drive_bytes.now _ c.in_err-quiet.ensures.value (numbered _) in
    record { value = exit_status _ _ c.from_residual.ensures.1 ∙ told.0; drive_after = told.1.0; heard_after = told.1.1.0; drive_bytes_after = told.1.1.1 }

pub receive_heartbeat-requires : goal.receive_heartbeat-requires
receive_heartbeat-requires c = (read-bounds _ _ _ _ _ _ (sym c.in_ok-quiet.ensures.value)).0

-- above what the copying asks: the drive bytes of another copy are wrong here too
pub returns-in_default : goal.returns-in_default
returns-in_default c =
    let a = c.args in
    let told = receive-copies a.n a.mode a.node a.cycle a.a.now a.b.now a.drive.now a.heard.now a.drive_bytes.now (sym c.in_ok-quiet.ensures.value) _ c.in_ok-quiet.ensures.quiet _ c.receive_heartbeat.ensures
    None c.in_default.is _ _ _ refl refl refl in
    record { value = told.0; drive_after = told.1.0; heard_after = told.1.1.0; drive_bytes_after = told.1.1.1 }

pub returns-in-A : goal.returns-in-A
returns-in-A c =
    let a = c.args in
    let told = receive-on a.n a.mode a.node a.cycle a.a.now a.b.now a.drive.now a.heard.now a.drive_bytes.now (sym c.in_ok-quiet.ensures.value) _ c.in_ok-quiet.ensures.quiet _ c.receive_heartbeat.ensures
    _ c.in-Some.is A c.in-A.is _ _ _ c.heard_code.ensures c.put_drive.ensures.buffer_after c.put_drive.ensures.value in
    record { value = told.0; drive_after = told.1.0; heard_after = told.1.1.0; drive_bytes_after = told.1.1.1 }

pub returns-in-B : goal.returns-in-B
returns-in-B c =
    let a = c.args in
    let told = receive-on a.n a.mode a.node a.cycle a.a.now a.b.now a.drive.now a.heard.now a.drive_bytes.now (sym c.in_ok-quiet.ensures.value) _ c.in_ok-quiet.ensures.quiet _ c.receive_heartbeat.ensures
    _ c.in-Some.is B c.in-B.is _ _ _ c.heard_code.ensures c.put_drive-in-B.ensures.buffer_after c.put_drive-in-B.ensures.value in
    record { value = told.0; drive_after = told.1.0; heard_after = told.1.1.0; drive_bytes_after = told.1.1.1 }

pub put_drive-requires : goal.put_drive-requires
put_drive-requires c =
    let told = room_of _ _ _ _ _ _ _ 0 0 (sym c.in_ok-quiet.ensures.value) _ c.in_ok-quiet.ensures.quiet _ c.receive_heartbeat.ensures _ c.in-Some.is A c.in-A.is in
    record { in_bounds = told.0; s_len_bound = told.1.0; buffer_len = told.1.1 }

pub put_drive-requires-in-B : goal.put_drive-requires-in-B
put_drive-requires-in-B c =
    let told = room_of _ _ _ _ _ _ _ 0 0 (sym c.in_ok-quiet.ensures.value) _ c.in_ok-quiet.ensures.quiet _ c.receive_heartbeat.ensures _ c.in-Some.is B c.in-B.is in
    record { in_bounds = told.0; s_len_bound = told.1.0; buffer_len = told.1.1 }
