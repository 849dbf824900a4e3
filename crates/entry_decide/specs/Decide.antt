-- What the entry decide answers and leaves: rules 3 to 6 of one node, from what it heard and the votes that arrived.
-- Assumes nothing.
use Rattle.std.specs.Prelude.{◌≡◌, Bool, true, cond, List, ◌∷◌, ℕ, Option, IfSome, Result, Ok, Err}
use Rattle.state.specs.declared.Group.{Group}
use Rattle.state.specs.declared.State.{State}
use Rattle.state.specs.declared.State.TheVariants.{Out, Joining, Member}
use Rattle.state.specs.declared.Node.{Node}
use Rattle.state.specs.Image.{image_of, decoded}
use Rattle.rules.specs.OneCycle.{wrong_mode, quiet_in, sends_member, Ballots, member_decides, silent_decides, joiner_decides}
use Rattle.refusal.specs.declared.Refusal.{Refusal}
use Rattle.refusal.specs.Refusal.{when, first, unless}
use Rattle.entry_lent.specs.Refusals.{lent_conditions}
use Rattle.entry_send_vote.specs.Voting.{own_view, press_of, votes_on}
use Rattle.entry_slots.specs.Slots.{buffer_ballots}

unfoldable pub decide_status : ℕ → List ℕ → List ℕ → ℕ
decide_status mode s votes = first (when (wrong_mode mode) 2 ∷ lent_conditions (quiet_in mode) s 1792 votes)

-- a member that voted goes by rule 5
abbrev pub member_decision : Bool → Node → Group → Bool → ℕ → ℕ → ℕ → Ballots → State
member_decision quiet n g a heard0 heard1 requests b =
    cond (votes_on quiet n g a heard0 heard1 requests) (member_decides (press_of quiet n) n.id (record { group = g; view = own_view n heard0 heard1 g }) b)
    (silent_decides (press_of quiet n) n.id g b)

abbrev pub decision : Bool → Node → State → ℕ → ℕ → ℕ → List ℕ → ℕ → State
decision quiet n (Out r) heard0 heard1 requests votes arrived = Out r
decision quiet n Joining heard0 heard1 requests votes arrived =
    joiner_decides (press_of quiet n) n.id (buffer_ballots n.nodes n.id votes arrived)
decision quiet n (Member g a) heard0 heard1 requests votes arrived =
    member_decision quiet n g a heard0 heard1 requests (buffer_ballots n.nodes n.id votes arrived)

-- what the buffer tells of a member's next state, which is a member's again, if it tells anything: for the contract of `goes_on` inside, and no part of the entry's answer
abbrev pub Tells : Option State → State → Type 0
Tells r s = IfSome r (λ t. (s ≡ t) × (sends_member t ≡ true))

abbrev pub decided_from : Bool → Result Node Refusal → ℕ → ℕ → ℕ → List ℕ → ℕ → List ℕ → List ℕ
decided_from quiet (Ok n) heard0 heard1 requests votes arrived s =
    image_of (record { state = decision quiet n n.state heard0 heard1 requests votes arrived; id = n.id; nodes = n.nodes })
decided_from quiet (Err r) heard0 heard1 requests votes arrived s = s

unfoldable pub decide_left : ℕ → List ℕ → ℕ → ℕ → ℕ → List ℕ → ℕ → List ℕ
decide_left mode s heard0 heard1 requests votes arrived =
    unless (decide_status mode s votes) (decided_from (quiet_in mode) (decoded (quiet_in mode) s) heard0 heard1 requests votes arrived s) s
