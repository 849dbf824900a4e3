use mathlib.Core.Path.{◌≡◌}
use Prim.Native.Nat.{ℕ}
use Rattle.rules.specs.declared.Vote.{Vote}
use Rattle.entry_slots.specs.Slots.{slot_vote}
use Rattle.entry_slots.proofs.VoteBuffer.vote.Goals as goal

parts : {g g' m m' b b' w w' : ℕ} → g ≡ g' → m ≡ m' → b ≡ b' → w ≡ w'
    → ◌≡◌ {A = Vote} (record { group = record { number = g; set = m; base = b }; view = w }) (record { group = record { number = g'; set = m'; base = b' }; view = w' })
parts eg em eb ew = λ i. record { group = record { number = eg i; set = em i; base = eb i }; view = ew i }

pub returns : goal.returns
unfolding slot_vote
returns c = parts c.read-number.ensures.value c.read-set.ensures.value c.read-base.ensures.value c.read-view.ensures.value
