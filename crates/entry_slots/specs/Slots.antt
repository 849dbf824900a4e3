-- The vote buffer that a host lends: a slot of 28 bytes for each node, and a mask of those that hold a vote.
-- Assumes nothing.
use Rattle.std.specs.Prelude.{Bool, not, ◌&&◌, cond, List, ℕ, ◌+◌, ◌*◌, eqb}
use Rattle.std.proofs.Math.Option.{none, some}
use Rattle.parts.specs.Parts.{with_part}
use Rattle.sets.specs.Sets.{has, those}
use Rattle.bigendian.specs.BigEndian.{number_at}
use Rattle.rules.specs.declared.Vote.{Vote}
use Rattle.rules.specs.OneCycle.{Ballots}
use Rattle.frames.specs.Written.{formed_vote}

-- the vote in slot p of the buffer
unfoldable pub slot_vote : List ℕ → ℕ → Vote
slot_vote votes p =
    record {
      group = record { number = number_at votes (28 * p) 4; set = number_at votes (28 * p + 4) 8; base = number_at votes (28 * p + 12) 8 };
      view = number_at votes (28 * p + 20) 8;
    }

-- slot p of the buffer replaced by the 28 bytes of a vote
abbrev pub with_slot : ℕ → List ℕ → List ℕ → List ℕ
with_slot p payload votes = with_part (28 * p) payload votes

-- "a slot that meets condition 10 below, or a bit at N or above, counts as not arrived. The own bit is not looked at."
unfoldable pub arrived_in : ℕ → ℕ → List ℕ → ℕ → ℕ
arrived_in n q votes arrived = those n (λ p. not (eqb p q) && has p arrived && formed_vote n p (slot_vote votes p))

-- the votes that count, and zeros for the others, as they are read
abbrev pub vote_if : Bool → Vote → Vote
vote_if t v = cond t v (record { group = record { number = 0; set = 0; base = 0 }; view = 0 })

unfoldable pub counted_vote : ℕ → ℕ → List ℕ → ℕ → ℕ → Vote
counted_vote n q votes arrived p = vote_if (not (eqb p q) && has p arrived && formed_vote n p (slot_vote votes p)) (slot_vote votes p)

unfoldable pub buffer_ballots : ℕ → ℕ → List ℕ → ℕ → Ballots
buffer_ballots n q votes arrived p = cond (has p (arrived_in n q votes arrived)) (some (slot_vote votes p)) none
