-- What the entries that vote from a state answer and leave: its view, and its vote.
-- Assumes nothing.
use Rattle.std.specs.Prelude.{Bool, ◌||◌, cond, List, ◌∷◌, ℕ, Result, Ok, Err}
use Rattle.sets.specs.Sets.{single, ◌∩◌, ◌∖◌}
use Rattle.state.specs.declared.Group.{Group}
use Rattle.state.specs.declared.State.{State}
use Rattle.state.specs.declared.State.TheVariants.{Out, Joining, Member}
use Rattle.state.specs.declared.Node.{Node}
use Rattle.state.specs.Image.{decoded}
use Rattle.rules.specs.declared.Config.{Config}
use Rattle.rules.specs.OneCycle.{config_of, wrong_mode, quiet_in, view_of, called, will_vote}
use Rattle.frames.specs.Written.{vote_frame}
use Rattle.refusal.specs.declared.Refusal.{Refusal}
use Rattle.refusal.specs.Refusal.{when, first, unless}
use Rattle.entry_lent.specs.Refusals.{wrong_cycle, wrong_channel, lent_conditions}

-- ---- the view of a node: only a member has one, and it holds the member itself; 0 for others

abbrev pub own_view : Node → ℕ → ℕ → Group → ℕ
own_view n heard0 heard1 g = view_of n.nodes n.id g.set heard0 heard1

abbrev pub view_in : Node → State → ℕ → ℕ → ℕ
view_in n (Out r) heard0 heard1 = 0
view_in n Joining heard0 heard1 = 0
view_in n (Member g a) heard0 heard1 = own_view n heard0 heard1 g

abbrev pub view_from : Result Node Refusal → ℕ → ℕ → ℕ → ℕ
view_from (Ok n) heard0 heard1 view = view_in n n.state heard0 heard1
view_from (Err r) heard0 heard1 view = view

-- ---- whether it votes

-- the press that a node is one of
abbrev pub press_of : Bool → Node → Config
press_of quiet n = config_of quiet n.nodes

-- request 3: "a member of M heard, or it itself, requests". A node that requests was heard, and is another; M has no node at N or above.
abbrev pub requests_heard : Node → ℕ → ℕ → ℕ
requests_heard n heard0 requests = (heard0 ∩ requests) ∖ single n.id

abbrev pub votes_with : Bool → Node → Group → Bool → ℕ → ℕ → ℕ → Bool
votes_with quiet n g a view heard0 requests = will_vote (press_of quiet n) g.set view (called g.set a (requests_heard n heard0 requests))

abbrev pub votes_on : Bool → Node → Group → Bool → ℕ → ℕ → ℕ → Bool
votes_on quiet n g a heard0 heard1 requests = votes_with quiet n g a (own_view n heard0 heard1 g) heard0 requests

-- ---- a vote from a state: "A member's vote is G, M, B and V. Joining nodes do not vote."

unfoldable pub send_vote_status : ℕ → List ℕ → ℕ → ℕ → List ℕ → ℕ
send_vote_status mode s cycle channel f =
    first (when (wrong_mode mode || (wrong_cycle cycle || wrong_channel channel)) 2 ∷ lent_conditions (quiet_in mode) s 36 f)

abbrev pub votes_byte : Bool → Node → State → ℕ → ℕ → ℕ → ℕ
votes_byte quiet n (Out r) heard0 heard1 requests = 0
votes_byte quiet n Joining heard0 heard1 requests = 0
votes_byte quiet n (Member g a) heard0 heard1 requests = cond (votes_on quiet n g a heard0 heard1 requests) 1 0

abbrev pub voted_of : Bool → Result Node Refusal → ℕ → ℕ → ℕ → ℕ
voted_of quiet (Ok n) heard0 heard1 requests = votes_byte quiet n n.state heard0 heard1 requests
voted_of quiet (Err r) heard0 heard1 requests = 0

-- a member that does not vote leaves the frame as it came in, and so do all others
abbrev pub vote_in : Bool → Node → State → ℕ → ℕ → ℕ → ℕ → ℕ → List ℕ → List ℕ
vote_in quiet n (Out r) heard0 heard1 requests cycle channel f = f
vote_in quiet n Joining heard0 heard1 requests cycle channel f = f
vote_in quiet n (Member g a) heard0 heard1 requests cycle channel f =
    cond (votes_on quiet n g a heard0 heard1 requests) (vote_frame n.id (record { group = g; view = own_view n heard0 heard1 g }) cycle channel) f

abbrev pub vote_from : Bool → Result Node Refusal → ℕ → ℕ → ℕ → ℕ → ℕ → List ℕ → List ℕ
vote_from quiet (Ok n) heard0 heard1 requests cycle channel f = vote_in quiet n n.state heard0 heard1 requests cycle channel f
vote_from quiet (Err r) heard0 heard1 requests cycle channel f = f

unfoldable pub send_vote_left : ℕ → List ℕ → ℕ → ℕ → ℕ → ℕ → ℕ → List ℕ → List ℕ
send_vote_left mode s heard0 heard1 requests cycle channel f =
    unless (send_vote_status mode s cycle channel f) (vote_from (quiet_in mode) (decoded (quiet_in mode) s) heard0 heard1 requests cycle channel f) f

unfoldable pub send_vote_sent : ℕ → List ℕ → ℕ → ℕ → ℕ → ℕ → ℕ → List ℕ → ℕ → ℕ
send_vote_sent mode s heard0 heard1 requests cycle channel f sent =
    unless (send_vote_status mode s cycle channel f) (voted_of (quiet_in mode) (decoded (quiet_in mode) s) heard0 heard1 requests) sent
