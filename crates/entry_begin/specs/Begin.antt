-- What the entry begin answers and leaves.
-- Assumes nothing.
use Rattle.std.specs.Prelude.{List, [], ◌∷◌, ℕ}
use Rattle.state.specs.State.{initial}
use Rattle.state.specs.Image.{image_of}
use Rattle.refusal.specs.Refusal.{when, first, unless}
use Rattle.entry_lent.specs.Refusals.{wrong_count, wrong_node, wrong_length, wrong_founding}

-- begin: "At the beginning the nodes of the founding set are members with G 0 and M and B the founding set; the others are out with reason 0."
unfoldable pub begin_status : ℕ → ℕ → ℕ → List ℕ → ℕ
begin_status n q F s = first (when (wrong_count n) 1 ∷ when (wrong_node n q) 2 ∷ when (wrong_length 24 s) 3 ∷ when (wrong_founding n F) 13 ∷ [])

unfoldable pub begin_left : ℕ → ℕ → ℕ → List ℕ → List ℕ
begin_left n q F s = unless (begin_status n q F s) (image_of (record { state = initial 0 F q; id = q; nodes = n })) s
