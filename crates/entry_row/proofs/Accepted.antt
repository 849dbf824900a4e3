-- What a refused call leaves on a row of images and of its frames. Assumes nothing.
use mathlib.Core.Path.{◌≡◌, refl, sym, ap, ◌∙◌}
use mathlib.Core.List.{List}
use Prim.Native.Nat.{ℕ}
use lib.ListN.{length}
use Rattle.refusal.proofs.Laws.{unless-refused}
use Rattle.row_calls.specs.declared.Task.{Task}
use Rattle.row_calls.specs.declared.Task.TheVariants.{Cycle, Run, FramedRun}
use Rattle.row_calls.specs.Calls.{framed_status, frames_left, call_left}
use Rattle.row_images.specs.Images.{entries_in, nodes_in, images_of}
use Rattle.row_images.proofs.Walks.{nodes_length}
use Rattle.entry_row.specs.OnImages.{lent_status, lent_left, lent_frames}

pub images_kept : (t : Task) (n mode : ℕ) (row : List ℕ) (room : ℕ) (s : List ℕ) → (lent_status t n mode row room s ≡ 0 → ⊥) → row ≡ lent_left t n mode row room s
unfolding lent_left
images_kept t n mode row room s o = sym (unless-refused (lent_status t n mode row room s) (images_of (call_left t n mode (nodes_in row) room s)) row o)

-- the frames are left too
pub frames_kept : (t : Task) (n mode : ℕ) (row s frames : List ℕ) → (lent_status t n mode row (length frames) s ≡ 0 → ⊥) → lent_frames t mode row s frames ≡ frames
unfolding lent_status lent_frames frames_left
frames_kept Cycle n mode row s frames o = refl
frames_kept Run n mode row s frames o = refl
frames_kept FramedRun n mode row s frames o =
    unless-refused (framed_status mode (entries_in row) (length frames) s) _ frames (λ z. o (ap (λ (k : ℕ). framed_status mode k (length frames) s) (nodes_length row) ∙ z))
