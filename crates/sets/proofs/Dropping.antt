-- A loop that takes the lowest node of those left, and drops it with others. Assumes nothing.
use mathlib.Core.Path.{◌≡◌, refl, sym, ap, subst, ◌∙◌}
use mathlib.Core.Bool.{true, false≢true}
use Prim.Native.Nat.{ℕ, zero, suc, ◌<◌, ◌≤◌}
use native.Mathlib.Omega.{arith}
use lib.Bits.{and_le_l}
use Rattle.sets.specs.Sets.{has, ◌∩◌, ◌∖◌, lowest}
use Rattle.sets.proofs.Booleans.{and_i}
use Rattle.sets.proofs.Membership.{has_inter, has-none, some_node}
use Rattle.sets.proofs.Nodes.{lowest_in}

-- less is left without a node of it
pub drop_less : (p left m L : ℕ) → has p left ≡ true → has p m ≡ true → L ≡ left ∖ m → L < left
unfolding ◌∖◌ ◌∩◌
drop_less p left m L h k e = subst (λ (x : ℕ). x < left) (sym e) (go (left ∩ m) refl)
  where
    go : (x : ℕ) → left ∩ m ≡ x → left ∖ m < left
    go zero z = absurd (false≢true (sym (has-none p) ∙ ap (has p) (sym z) ∙ has_inter p left m ∙ and_i (has p left) (has p m) h k))
    go (suc x) z = omega (arith, and_le_l left m, z)

-- the lowest of those left is one of them
pub lowest_node : (n left p : ℕ) → n ≤ 64 → ((j : ℕ) → has j left ≡ true → j < n) → (left ≡ 0 → ⊥) → p ≡ lowest 64 (λ x. has x left) → (p < n) × (has p left ≡ true)
lowest_node n left p small below some_left e =
    let x = some_node left some_left in
    let l : x.0 < n = below x.0 x.1 in
    let k : has p left ≡ true = ap (λ (y : ℕ). has y left) e ∙ (lowest_in 64 x.0 (λ y. has y left) (omega arith) x.1).1 in
    (below p k, k)
