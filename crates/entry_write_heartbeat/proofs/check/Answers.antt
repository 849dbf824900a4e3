use Rattle.std.proofs.Common.{refl, ◌∙◌}
use Rattle.refusal.specs.Refusal.{first}
use Rattle.refusal.proofs.Codes.{exit_status, refused, passed}
use Rattle.entry_write_heartbeat.specs.Heartbeats.{write_heartbeat_status}
use Rattle.entry_write_heartbeat.proofs.check.Goals as goal

pub returns-in_err-quiet : goal.returns-in_err-quiet
unfolding write_heartbeat_status first
returns-in_err-quiet c =
    let h = refused _ _ 2 c.in_err-quiet.ensures.value in
    exit_status _ _ c.from_residual-in_err-quiet.ensures.1 ∙ simp (passed _ 1 refl c.in_ok-check_count.ensures, h.0) h.1
