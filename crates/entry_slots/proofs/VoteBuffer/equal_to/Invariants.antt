use mathlib.Core.Path.{◌≡◌}
use Rattle.sets.specs.Sets.{those}
use Rattle.rules.specs.OneCycle.{is}
use Rattle.entry_slots.specs.Slots.{buffer_ballots}
use Rattle.entry_slots.proofs.VoteBuffer.equal_to.Given as goal

abbrev pub invariant-loop-p : goal.invariant-loop-p
invariant-loop-p l = l.m ≡ those l.p (λ x. is l.v (buffer_ballots l.self.n l.self.q l.self.votes.now l.self.arrived x))
