-- Request 3 at the node end: what a founder of a quiet press does that hears the other founders and nothing new. Its image is the one that `begin_left` gives (`begins_so`).
-- Assumes nothing.
use Rattle.std.specs.Prelude.{◌≡◌, Bool, true, ◌&&◌, List, ℕ, eqb}
use Rattle.sets.specs.Sets.{has, single, subset, below, ◌∩◌, ◌∖◌}
use Rattle.state.specs.declared.Node.{Node}
use Rattle.state.specs.State.{formed, initial}
use Rattle.state.specs.Image.{image_of}
use Rattle.refusal.specs.Refusal.{unless}
use Rattle.entry_send_vote.specs.Voting.{send_vote_status, send_vote_sent, send_vote_left}
use Rattle.entry_decide.specs.Decide.{decide_left}

-- node q of n at the beginning, and its image
abbrev pub founder : ℕ → ℕ → ℕ → ℕ → Node
founder n q G F = record { state = initial G F q; id = q; nodes = n }

abbrev pub begun : ℕ → ℕ → ℕ → ℕ → List ℕ
begun n q G F = image_of (founder n q G F)

-- it heard all the others of the founding set with join 0, nobody outside it with join 1, and none of it requests
unfoldable pub hears_founders : ℕ → ℕ → ℕ → ℕ → ℕ → ℕ → Bool
hears_founders n q F heard0 heard1 requests = subset (F ∖ single q) heard0 && (subset (below n heard1) F && eqb ((F ∩ requests) ∖ single q) 0)

pub record FounderRests (n q G F heard0 heard1 requests : ℕ) : Type 0 where
  -- "sends no vote at all": not refused, `sent` is 0; and the frame is as it came
  pub silent : (cycle channel sent : ℕ) (f : List ℕ) → send_vote_sent 1 (begun n q G F) heard0 heard1 requests cycle channel f sent ≡ unless (send_vote_status 1 (begun n q G F) cycle channel f) 0 sent
  pub unwritten : (cycle channel : ℕ) (f : List ℕ) → send_vote_left 1 (begun n q G F) heard0 heard1 requests cycle channel f ≡ f
  -- where no vote arrived, its image stays
  pub unchanged : (votes : List ℕ) → decide_left 1 (begun n q G F) heard0 heard1 requests votes 0 ≡ begun n q G F

-- for every founder whose image is well formed: 2 to 64 nodes, the node below them and in the founding set, which has no node at N or above
abbrev pub FoundersRest : Type 0
FoundersRest =
    (n q G F heard0 heard1 requests : ℕ) → formed true (founder n q G F) ≡ true → has q F ≡ true → hears_founders n q F heard0 heard1 requests ≡ true
    → FounderRests n q G F heard0 heard1 requests
