-- What the entry for a vote from numbers answers and leaves.
-- Assumes nothing.
use Rattle.std.specs.Prelude.{not, ◌||◌, List, [], ◌∷◌, ℕ}
use Rattle.rules.specs.declared.Vote.{Vote}
use Rattle.frames.specs.Written.{vote_frame, formed_vote}
use Rattle.refusal.specs.Refusal.{when, first, unless}
use Rattle.entry_lent.specs.Refusals.{wrong_count, wrong_node, wrong_cycle, wrong_channel, wrong_length}

abbrev pub vote_of : ℕ → ℕ → ℕ → ℕ → Vote
vote_of G M B V· = record { group = record { number = G; set = M; base = B }; view = V· }

unfoldable pub write_vote_status : ℕ → ℕ → Vote → ℕ → ℕ → List ℕ → ℕ
write_vote_status n q v cycle channel f =
    first
    (when (wrong_count n) 1
    ∷ when (wrong_node n q || wrong_cycle cycle || wrong_channel channel) 2
    ∷ when (wrong_length 36 f) 3
    ∷ when (not (formed_vote n q v)) 10
    ∷ [])

unfoldable pub write_vote_left : ℕ → ℕ → Vote → ℕ → ℕ → List ℕ → List ℕ
write_vote_left n q v cycle channel f = unless (write_vote_status n q v cycle channel f) (vote_frame q v cycle channel) f
