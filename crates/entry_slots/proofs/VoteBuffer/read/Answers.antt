use mathlib.Core.Path.{◌≡◌, ap, ◌∙◌}
use native.Mathlib.Omega.{arith}
use lib.ListN.{length, set, length-set}
use Rattle.sets.proofs.Nodes.{those-none, those-next, those_end}
use Rattle.rules.specs.declared.Groups.{Groups}
use Rattle.rules.specs.Ballots.{vote_at}
use Rattle.entry_slots.specs.Slots.{counted_vote, arrived_in}
use Rattle.entry_slots.proofs.Buffers.{counts, filled, counted-vote}
use Rattle.entry_slots.proofs.VoteBuffer.read.Goals as goal

pub loop-p-init : goal.loop-p-init
loop-p-init c = let w = c.requires in (w.0, w.1, w.2, w.3, those-none _, λ i h. absurd (omega arith))

pub loop-p-preserved : goal.loop-p-preserved
loop-p-preserved c =
    let a = c.args in
    let l = c.loop-p in
    let v = c.vote_if-v.result in
    let e = c.put.ensures in (
      ap (λ (s : Groups). length s.numbers) e ∙ simp length-set l.invariant.0,
      ap (λ (s : Groups). length s.sets) e ∙ simp length-set l.invariant.1,
      ap (λ (s : Groups). length s.bases) e ∙ simp length-set l.invariant.2,
      simp length-set l.invariant.3,
      those-next _ _ _ _ _ l.invariant.4 (c.has_arrived-counts.ensures ∙ ap (counts a.self.now.n a.self.now.q a.self.now.arrived l.p) c.vote-w.ensures) c.include-m.ensures,
      λ i h. ap (λ (s : Groups). vote_at s.numbers s.sets s.bases (set l.views l.p v.view) i) e
          ∙ filled l.groups.numbers l.groups.sets l.groups.bases l.views l.p (counted_vote a.self.now.n a.self.now.q a.self.now.votes.now a.self.now.arrived) v (omega arith) l.invariant.0 l.invariant.1 l.invariant.2 l.invariant.3
          (counted-vote a.self.now.n a.self.now.q a.self.now.votes.now a.self.now.arrived l.p _ _ _ c.vote-w.ensures c.has_arrived-counts.ensures c.vote_if-v.ensures)
          l.invariant.5 i h,
    )

pub returns-clause-value : goal.returns-clause-value
unfolding arrived_in
returns-clause-value c = let l = c.loop-p in let end : l.p ≡ c.args.self.now.n = omega arith in those_end _ _ _ _ l.invariant.4 end
