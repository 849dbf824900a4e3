-- The same on any row, at its images. Assumes nothing.
use mathlib.Core.Path.{ap, ◌∙◌}
use Prim.Native.Nat.{ℕ}
use Rattle.row_calls.specs.Calls.{call_frames}
use Rattle.row_images.proofs.Walks.{nodes_length}
use Rattle.entry_row.specs.OnImages.{lent_status, lent_left, lent_frames}
use Rattle.entry_row.proofs.call_with.Goals as goal

pub returns : goal.returns
unfolding lent_status lent_left lent_frames
returns c =
    let a = c.args in
    let e = c.call_with.ensures in
    record {
      value = e.value;
      images_after = e.row_after;
      frames_after = e.frames_after ∙ ap (λ (k : ℕ). call_frames a.task a.mode k a.bytes.now a.frames.now) (nodes_length a.images.now);
    }
