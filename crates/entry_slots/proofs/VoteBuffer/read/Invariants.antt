use mathlib.Core.Path.{◌≡◌}
use Prim.Native.Nat.{ℕ, ◌<◌}
use lib.ListN.{length}
use Rattle.sets.specs.Sets.{those}
use Rattle.rules.specs.Ballots.{vote_at}
use Rattle.entry_slots.specs.Slots.{slot_vote, counted_vote}
use Rattle.entry_slots.proofs.Buffers.{counts}
use Rattle.entry_slots.proofs.VoteBuffer.read.Given as goal

abbrev pub invariant-loop-p : goal.invariant-loop-p
invariant-loop-p l =
    (length l.groups.numbers ≡ 64)
    × (length l.groups.sets ≡ 64)
    × (length l.groups.bases ≡ 64)
    × (length l.views ≡ 64)
    × (l.m ≡ those l.p (λ x. counts l.self.n l.self.q l.self.arrived x (slot_vote l.self.votes.now x)))
    × ((i : ℕ) → i < l.p → vote_at l.groups.numbers l.groups.sets l.groups.bases l.views i ≡ counted_vote l.self.n l.self.q l.self.votes.now l.self.arrived i)
