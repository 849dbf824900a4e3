-- Tests that code makes, and that a quorum has a node. Assumes nothing.
use mathlib.Core.Path.{◌≡◌, refl, sym, ap, ◌∙◌}
use mathlib.Core.Bool.{Bool, true, false, ◌&&◌, cond, false≢true}
use Prim.Native.Nat.{ℕ, ◌<◌}
use Rattle.sets.specs.Sets.{has, any}
use Rattle.sets.specs.Quorum.{quorum}
use Rattle.sets.proofs.Membership.{◌⊆◌, has-none, some_node}
use Rattle.sets.proofs.Nodes.{any-e}
use Rattle.sets.proofs.Quorum.{quorum_meet, quorum_mono}
use Rattle.rules.specs.declared.Vote.{Vote}
use Rattle.rules.specs.OneCycle.{Ballots, voters, wins}

-- ---- tests

-- a test that does not pass
pub no : (b : Bool) → (b ≡ true → ⊥) → b ≡ false
no true f = absurd (f refl)
no false f = refl

-- what a test that passed leaves, and one that did not
pub and_taken : (r x : Bool) → r ≡ true → (r && x) ≡ x
and_taken r x e = rw e

pub and_left : (r x : Bool) → r ≡ false → (r && x) ≡ false
and_left r x e = rw e

pub cond-taken {ℓ} : {A : Type ℓ} (r : Bool) (x y : A) → r ≡ true → cond r x y ≡ x
cond-taken r x y e = rw e

pub cond-left {ℓ} : {A : Type ℓ} (r : Bool) (x y : A) → r ≡ false → cond r x y ≡ y
cond-left r x y e = rw e

pub any_none : (n : ℕ) (f : ℕ → Bool) → ((q : ℕ) → q < n → f q ≡ false) → any n f ≡ false
any_none n f h = no (any n f) (λ e. let w = any-e n f e in false≢true (sym (h w.0 w.1) ∙ w.2))

-- ---- a quorum is not empty

pub quorum-none : (B : ℕ) → quorum 0 B ≡ false
quorum-none B = no (quorum 0 B) (λ e. let w = quorum_meet 0 0 B none_in none_in e e in false≢true (sym (has-none w.0) ∙ w.1))
  where
    none_in : ◌⊆◌ 0 B
    none_in q h = absurd (false≢true (sym (has-none q) ∙ h))

pub quorum-some : (S B : ℕ) → quorum S B ≡ true → S ≡ 0 → ⊥
quorum-some S B e z = false≢true (sym (quorum-none B) ∙ ap (λ (x : ℕ). quorum x B) (sym z) ∙ e)

pub quorum_node : (S B : ℕ) → quorum S B ≡ true → (q : ℕ) × (has q S ≡ true)
quorum_node S B e = some_node S (quorum-some S B e)

-- so a vote that has one was cast, and more voters have it too
pub wins_node : (N : ℕ) (b : Ballots) (v : Vote) → wins N b v ≡ true → (q : ℕ) × (has q (voters N b v) ≡ true)
unfolding wins
wins_node N b v e = quorum_node (voters N b v) _ e

pub wins_mono : (N : ℕ) (a b : Ballots) (v : Vote) → ◌⊆◌ (voters N a v) (voters N b v) → wins N a v ≡ true → wins N b v ≡ true
unfolding wins
wins_mono N a b v s e = quorum_mono (voters N a v) (voters N b v) _ s e
