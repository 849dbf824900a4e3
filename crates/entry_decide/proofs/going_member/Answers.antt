use Rattle.std.proofs.Common.{ℕ, false, refl, sym, ap, ◌∙◌}
use Rattle.sets.specs.Quorum.{quorum}
use Rattle.state.specs.declared.Group.{Group}
use Rattle.state.specs.declared.State.TheVariants.{Member}
use Rattle.rules.proofs.Own.{rests_few}
use Rattle.entry_send_vote.specs.Voting.{press_of}
use Rattle.entry_slots.specs.Slots.{buffer_ballots}
use Rattle.entry_slots.proofs.Buffers.{slot-came}
use Rattle.entry_decide.proofs.Deciding.{by_test}
use Rattle.entry_decide.proofs.going_member.Goals as goal

pub returns-else-is_quorum : goal.returns-else-is_quorum
returns-else-is_quorum c =
    let a = c.args in
    let b = buffer_ballots a.n.nodes a.n.id a.votes.now a.arrived in (
      sym
          (ap (λ (x : Group). Member x false) c.resting.ensures
          ∙ sym (rests_few (press_of a.quiet a.n) a.n.id a.g b a.arrived (slot-came a.n.nodes a.n.id a.votes.now a.arrived)
          (ap (λ (x : ℕ). quorum x a.g.base) (sym c.intersection.ensures) ∙ sym c.is_quorum.ensures ∙ c.if-is_quorum.false))
          ∙ by_test a.quiet a.n a.g a.asks a.heard.members a.heard.joining a.heard.requests b c.own_vote-vote.result c.own_vote-vote.ensures false (sym c.votes_with.ensures ∙ c.if-votes_with.false)),
      refl,
    )
