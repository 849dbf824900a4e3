-- The mask of the slots that hold a vote, taken once for all slots. Assumes nothing.
use mathlib.Core.Path.{◌≡◌, refl, sym, ap, ◌∙◌}
use mathlib.Core.Bool.{Bool, true, false, ◌&&◌}
use mathlib.Core.List.{List}
use Prim.Native.Nat.{ℕ}
use lib.Dec.{ltb}
use Rattle.sets.specs.Sets.{has, ◌∩◌, those}
use Rattle.sets.proofs.Membership.{has_inter, set_ext}
use Rattle.sets.proofs.Nodes.{has-those}
use Rattle.rules.specs.declared.Vote.{Vote}
use Rattle.rules.specs.OneCycle.{same_vote, is}
use Rattle.rules.specs.Ballots.{vote_at, ballots_of, equal_to}
use Rattle.rules.proofs.Slots.{is-slot-test}

module _ (numbers sets bases views : List ℕ) (v : Vote) where
  -- the mask taken once is the mask taken of each slot
  pub masked : (n present m r : ℕ) → m ≡ those n (λ x. same_vote v (vote_at numbers sets bases views x)) → r ≡ present ∩ m → r ≡ equal_to numbers sets bases views n present v
  unfolding same_vote
  masked n present m r e f = f ∙ set_ext (λ x.
      has_inter x present m ∙ ap (λ (b : Bool). has x present && b) (ap (has x) e ∙ has-those x n (λ y. same_vote v (vote_at numbers sets bases views y)))
      ∙ swap (has x present) (ltb x n) (same_vote v (vote_at numbers sets bases views x))
      ∙ ap (λ (b : Bool). ltb x n && b) (sym (is-slot-test numbers sets bases views present x v _ _ _ refl refl refl))
      ∙ sym (has-those x n (λ y. is v (ballots_of numbers sets bases views present y))))
    where
      swap : (a b d : Bool) → (a && (b && d)) ≡ (b && (a && d))
      swap true true d = refl
      swap true false d = refl
      swap false true d = refl
      swap false false d = refl
