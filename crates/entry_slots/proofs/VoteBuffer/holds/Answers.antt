use mathlib.Core.Path.{refl, sym, ◌∙◌}
use Rattle.rules.proofs.Counting.{and_taken, and_left}
use Rattle.frames.proofs.Votes.{equal-vote}
use Rattle.entry_slots.proofs.Buffers.{slot_is, slot-unset}
use Rattle.entry_slots.proofs.VoteBuffer.holds.Goals as goal

-- first: that what is left in a slot counts for nothing matters here and below
pub returns-then-eq : goal.returns-then-eq
returns-then-eq c =
    let a = c.args in
    let w = c.vote-w.result in
    sym (slot_is a.self.now.n a.self.now.q a.self.now.votes.now a.self.now.arrived a.p a.v w _ _ c.requires c.vote-w.ensures (c.eq.ensures ∙ equal-vote a.v w) c.has_arrived.ensures ∙ and_taken _ _ c.if-eq.true)

pub returns-then-not-contains : goal.returns-then-not-contains
returns-then-not-contains c =
    let a = c.args in
    sym (slot-unset a.self.now.n a.self.now.q a.self.now.votes.now a.self.now.arrived a.p a.v (sym c.contains.ensures ∙ c.if-not-contains.true))

pub returns-else-eq : goal.returns-else-eq
returns-else-eq c =
    let a = c.args in
    let w = c.vote-w.result in
    c.if-eq.false ∙ sym (slot_is a.self.now.n a.self.now.q a.self.now.votes.now a.self.now.arrived a.p a.v w _ _ c.requires c.vote-w.ensures (c.eq.ensures ∙ equal-vote a.v w) refl ∙ and_left _ _ c.if-eq.false)
