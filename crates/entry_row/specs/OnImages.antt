-- What a call on a row of images answers and leaves: what the call on the nodes gives, through the image.
-- Assumes nothing.
use Rattle.std.specs.Prelude.{List, ℕ}
use Rattle.refusal.specs.Refusal.{unless}
use Rattle.row_calls.specs.declared.Task.{Task}
use Rattle.row_calls.specs.Calls.{call_status, call_left, call_frames}
use Rattle.row_images.specs.Images.{entries_in, nodes_in, images_of}

-- ---- a call that is lent `room` bytes for frames

unfoldable pub lent_status : Task → (n mode : ℕ) → List ℕ → (room : ℕ) → List ℕ → ℕ
lent_status task n mode row room s = call_status task n mode (nodes_in row) room s

-- "A refusal returns only its number; states and buffers do not change."
unfoldable pub lent_left : Task → (n mode : ℕ) → List ℕ → (room : ℕ) → List ℕ → List ℕ
lent_left task n mode row room s = unless (lent_status task n mode row room s) (images_of (call_left task n mode (nodes_in row) room s)) row

-- what is left of the frames
unfoldable pub lent_frames : Task → (mode : ℕ) → List ℕ → List ℕ → List ℕ → List ℕ
lent_frames task mode row s frames = call_frames task mode (entries_in row) s frames

-- ---- one that is lent none

unfoldable pub images_status : Task → (n mode : ℕ) → List ℕ → List ℕ → ℕ
images_status task n mode row s = lent_status task n mode row 0 s

unfoldable pub images_left : Task → (n mode : ℕ) → List ℕ → List ℕ → List ℕ
images_left task n mode row s = lent_left task n mode row 0 s
