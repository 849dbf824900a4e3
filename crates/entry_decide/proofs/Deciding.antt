-- What a node decides, by its state and by whether it votes; and what is told of it. Assumes nothing.
use mathlib.Core.Path.{◌≡◌, sym, ap, ap₂, ◌∙◌}
use mathlib.Core.Bool.{Bool, cond}
use mathlib.Core.List.{List}
use Rattle.std.specs.Prelude.{Option, Some, None}
use Prim.Native.Nat.{ℕ}
use Rattle.state.specs.declared.Group.{Group}
use Rattle.state.specs.declared.State.{State}
use Rattle.state.specs.declared.Node.{Node}
use Rattle.rules.specs.declared.Vote.{Vote}
use Rattle.rules.specs.OneCycle.{Ballots, member_decides, silent_decides}
use Rattle.entry_send_vote.specs.Voting.{own_view, press_of, votes_with}
use Rattle.entry_decide.specs.Decide.{member_decision, decision, Tells}

pub by_state : (quiet : Bool) (n : Node) (heard0 heard1 requests : ℕ) (votes : List ℕ) (arrived : ℕ) {t : State} → n.state ≡ t
    → decision quiet n t heard0 heard1 requests votes arrived ≡ decision quiet n n.state heard0 heard1 requests votes arrived
by_state quiet n heard0 heard1 requests votes arrived e = sym (ap (λ (t : State). decision quiet n t heard0 heard1 requests votes arrived) e)

-- by the test whether it votes, and by the vote v that was made for it
pub by_test : (quiet : Bool) (n : Node) (g : Group) (a : Bool) (heard0 heard1 requests : ℕ) (b : Ballots) (v : Vote) → v ≡ record { group = g; view = own_view n heard0 heard1 g }
    → (t : Bool) → votes_with quiet n v.group a v.view heard0 requests ≡ t
    → cond t (member_decides (press_of quiet n) n.id v b) (silent_decides (press_of quiet n) n.id g b) ≡ member_decision quiet n g a heard0 heard1 requests b
by_test quiet n g a heard0 heard1 requests b v own t e =
    ap₂ (λ (x : Bool) (w : Vote). cond x (member_decides (press_of quiet n) n.id w b) (silent_decides (press_of quiet n) n.id g b))
    (sym e ∙ ap (λ (w : Vote). votes_with quiet n w.group a w.view heard0 requests) own) own

-- what is told of a state is told of an equal one
pub tells_same : (r : Option State) {s t : State} → s ≡ t → Tells r s → Tells r t
tells_same None k h = h
tells_same (Some u) k h = (sym k ∙ h.0, h.1)
