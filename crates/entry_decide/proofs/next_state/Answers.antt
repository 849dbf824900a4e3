-- `entry_decide::next_state` meets its contract: the arrays hold the votes of the buffer, and the state names the rule. Assumes nothing.
use mathlib.Core.Path.{◌≡◌, ap, ◌∙◌}
use mathlib.Core.Bool.{Bool}
use mathlib.Core.List.{List}
use Prim.Native.Nat.{ℕ}
use Rattle.state.specs.declared.Group.{Group}
use Rattle.state.specs.declared.State.{State}
use Rattle.state.specs.declared.State.TheVariants.{Joining, Member}
use Rattle.state.specs.declared.Node.{Node}
use Rattle.rules.specs.OneCycle.{Ballots, joiner_decides}
use Rattle.entry_send_vote.specs.Voting.{press_of}
use Rattle.entry_decide.specs.Decide.{member_decision, decision}
use Rattle.entry_slots.specs.Slots.{buffer_ballots}
use Rattle.entry_slots.proofs.Buffers.{same-ballots}
use Rattle.entry_decide.proofs.Deciding.{by_state}
use Rattle.entry_decide.proofs.next_state.Goals as goal

module _ (quiet : Bool) (n : Node) (heard0 heard1 requests : ℕ) (votes : List ℕ) (arrived : ℕ) where
  module _ {b : Ballots} {t : State} (k : b ≡ buffer_ballots n.nodes n.id votes arrived) where
    by-joining : n.state ≡ Joining → t ≡ joiner_decides (press_of quiet n) n.id b → t ≡ decision quiet n n.state heard0 heard1 requests votes arrived
    by-joining e h = h ∙ ap (joiner_decides (press_of quiet n) n.id) k ∙ by_state quiet n heard0 heard1 requests votes arrived e

    by-member : (g : Group) (a : Bool) → n.state ≡ Member g a → t ≡ member_decision quiet n g a heard0 heard1 requests b → t ≡ decision quiet n n.state heard0 heard1 requests votes arrived
    by-member g a e h = h ∙ ap (member_decision quiet n g a heard0 heard1 requests) k ∙ by_state quiet n heard0 heard1 requests votes arrived e

pub returns-in-Joining : goal.returns-in-Joining
returns-in-Joining c =
    let a = c.args in
    let r = c.read-present in
    let g = r.new.groups in
    by-joining a.quiet a.n a.heard.members a.heard.joining a.heard.requests a.votes.now a.arrived
    (same-ballots a.n.nodes a.n.id a.votes.now a.arrived g.numbers g.sets g.bases r.new.views r.result r.ensures.value r.ensures.by_index) c.in-Joining.is c.joiner_decides.ensures

pub returns-in-Member : goal.returns-in-Member
returns-in-Member c =
    let a = c.args in
    let r = c.read-present in
    let g = r.new.groups in
    by-member a.quiet a.n a.heard.members a.heard.joining a.heard.requests a.votes.now a.arrived
    (same-ballots a.n.nodes a.n.id a.votes.now a.arrived g.numbers g.sets g.bases r.new.views r.result r.ensures.value r.ensures.by_index) _ _ c.in-Member.is c.member_decides.ensures
