-- `frame_reading::put_drive` meets its contract: what is copied is the drive's part. Assumes nothing.
use mathlib.Core.Path.{ap, ◌∙◌}
use lib.ListN.{length}
use Rattle.parts.proofs.Copies.{at_front_lem}
use Rattle.frames.proofs.Payloads.{drive_part}
use Rattle.frame_reading.proofs.put_drive.Goals as goal

-- above what the call asks: bytes from another place are wrong here too
pub returns : goal.returns
returns c =
    let a = c.args in
    let e = drive_part a.s.now in record { value = c.copy.ensures.count ∙ ap length e; buffer_after = at_front_lem _ _ _ _ e c.copy.ensures.after }
