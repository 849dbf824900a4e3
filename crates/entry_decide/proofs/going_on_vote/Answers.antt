use Rattle.std.proofs.Common.{◌≡◌, sym, ap, ◌∙◌}
use Rattle.sets.specs.Sets.{those}
use Rattle.rules.specs.OneCycle.{Ballots, sends_member, is, voters, with_own}
use Rattle.rules.proofs.Own.{own-count, wins_by, decides-on}
use Rattle.entry_slots.specs.Slots.{buffer_ballots}
use Rattle.entry_slots.proofs.Buffers.{own-empty}
use Rattle.entry_decide.proofs.going_on_vote.Goals as goal

pub returns-then-is_quorum : goal.returns-then-is_quorum
returns-then-is_quorum c =
    let a = c.args in
    let came : Ballots = buffer_ballots a.config.nodes a.q a.votes.now a.arrived in
    let mine : c.with_own-mine.result ≡ voters a.config.nodes (with_own a.q a.own came) a.own =
    own-count a.config.nodes a.q a.own came _ _ c.requires.1
    (c.equal_to-alike.ensures ∙ ap (λ (b : Ballots). those a.config.nodes (λ p. is a.own (b p))) (sym (own-empty a.config.nodes a.q a.votes.now a.arrived)))
    c.with_own-mine.ensures in (
      decides-on a.config a.q a.own came _ mine
          (sym (wins_by a.config.nodes _ (with_own a.q a.own came) a.own _ mine c.is_quorum.ensures) ∙ c.if-is_quorum.true)
          ∙ sym c.member_on.ensures,
      ap sends_member c.member_on.ensures,
    )
