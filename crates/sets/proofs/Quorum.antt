-- The three laws of a quorum: two quorums of one base meet; a larger set is a quorum too; a quorum of a base inside a part of it is one of that part.
-- Assumes nothing.
use mathlib.Core.Path.{◌≡◌, sym, ap, ◌∙◌}
use mathlib.Core.Logic.{◌⊎◌, inl, inr, ◌≢◌}
use mathlib.Core.Bool.{true, ◌&&◌}
use Prim.Native.Nat.{ℕ, ◌+◌, ◌*◌, ◌≤◌, ◌<◌}
use native.Mathlib.Omega.{arith}
use Rattle.sets.specs.Sets.{has, ◌∪◌, ◌∩◌, size}
use Rattle.sets.specs.Quorum.{quorum}
use Rattle.sets.proofs.Booleans.{ltb-true, ltb-lt, and_l, and_r, or-e}
use Rattle.sets.proofs.Membership.{◌⊆◌, has_inter, has_union, some_node}
use Rattle.sets.proofs.Sizes.{size_union, size_none, size-sub}

-- two quorums of one set share a node; first, since a definition that breaks this may keep the other two
pub quorum_meet : (S R B : ℕ) → ◌⊆◌ S B → ◌⊆◌ R B → quorum S B ≡ true → quorum R B ≡ true → (q : ℕ) × (has q S ≡ true) × (has q R ≡ true)
unfolding quorum
quorum_meet S R B s r h k =
    let l : size B < 2 * size S = ltb-lt h in
    let m : size B < 2 * size R = ltb-lt k in
    let e : size (S ∪ R) + size (S ∩ R) ≡ size S + size R = size_union S R in
    let u : size (S ∪ R) ≤ size B = size-sub (S ∪ R) B (λ q g. pick q (or-e (has q S) (has q R) (sym (has_union q S R) ∙ g))) in
    let n : (S ∩ R) ≢ 0 = λ z. let f : size (S ∩ R) ≡ 0 = ap size z ∙ size_none in omega arith in
    let w = some_node (S ∩ R) n in
    let g : (has w.0 S && has w.0 R) ≡ true = sym (has_inter w.0 S R) ∙ w.1 in
    (w.0, and_l (has w.0 S) (has w.0 R) g, and_r (has w.0 S) (has w.0 R) g)
  where
    pick : (q : ℕ) → (has q S ≡ true) ⊎ (has q R ≡ true) → has q B ≡ true
    pick q (inl x) = s q x
    pick q (inr x) = r q x

-- a set that holds a quorum is one
pub quorum_mono : (S R B : ℕ) → ◌⊆◌ S R → quorum S B ≡ true → quorum R B ≡ true
unfolding quorum
quorum_mono S R B s h =
    let l : size B < 2 * size S = ltb-lt h in
    let m : size B < 2 * size R = omega (arith, size-sub S R s) in
    ltb-true m

-- a quorum of a base inside a part of it is one of that part
pub quorum_part : (S A B : ℕ) → ◌⊆◌ S A → ◌⊆◌ A B → quorum S B ≡ true → quorum S A ≡ true
unfolding quorum
quorum_part S A B i s h =
    let l : size B < 2 * size S = ltb-lt h in
    let m : size A < 2 * size S = omega (arith, size-sub A B s) in
    ltb-true m
