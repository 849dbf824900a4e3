-- What reading an image finds, by its length, its place and its kind. Assumes nothing.
use Rattle.std.proofs.Common.{◌≡◌, ℕ, ◌<◌, ◌≤◌, Bool, true, false, ◌&&◌, eqb, ltb, leb, ◌⊎◌, List, length, get_or, refl, ◌∙◌, inl, inr, arith, ltb-true, le-ltb, lt-ltb, ne_eqb, eqb-true, leb-true, Err}
use mathlib.Core.Bool.{and-true, and-false}
use Rattle.sets.proofs.Booleans.{and_l, and_r, or-e}
use Rattle.state.specs.declared.State.TheVariants.{Out, Joining, Member}
use Rattle.refusal.specs.declared.Refusal.TheVariants.{Length, Image}
use Rattle.state.specs.State.{formed_place, formed_sets}
use Rattle.state.specs.Image.{kind_at, reason_at, group_at, is_zero, reason_of, node_if, member_reason, formed_reason, well_formed, decoded}

-- a joining node has reason 0, a member 0 or, in a quiet press, 1: reasons that are known
pub member_bound : (quiet : Bool) (r : ℕ) → member_reason quiet r ≡ true → r < 2
member_bound quiet r e = go (or-e (eqb r 0) (quiet && eqb r 1) e)
  where
    go : (eqb r 0 ≡ true) ⊎ ((quiet && eqb r 1) ≡ true) → r < 2
    go (inl h) = let z : r ≡ 0 = eqb-true r 0 h in omega arith
    go (inr h) = let z : r ≡ 1 = eqb-true r 1 (and_r quiet (eqb r 1) h) in omega arith

known : (r : ℕ) (b : Bool) → (b ≡ true → r < 2) → (ltb r 3 && b) ≡ b
known r true h = let l : r < 2 = h refl in and-true (ltb r 3) ∙ lt-ltb r 3 (omega arith)
known r false h = and-false (ltb r 3)

zero_known : (quiet : Bool) (r : ℕ) → (ltb r 3 && formed_reason quiet 1 r) ≡ eqb r 0
zero_known quiet r = known r (eqb r 0) (λ e. let z : r ≡ 0 = eqb-true r 0 e in omega arith)

member_known : (quiet : Bool) (r : ℕ) → (ltb r 3 && formed_reason quiet 2 r) ≡ member_reason quiet r
member_known quiet r = known r (member_reason quiet r) (member_bound quiet r)

-- the rest of a match over the codes 0, 1 and 2
pub three : (x : ℕ) → (x ≡ 0 → ⊥) → (x ≡ 1 → ⊥) → (x ≡ 2 → ⊥) → 3 ≤ x
three x a b c = omega arith

pub place_bounds : (id n : ℕ) → formed_place id n ≡ true → (2 ≤ n) × (n ≤ 64) × (id < n)
unfolding formed_place
place_bounds id n e =
    let h : (leb 2 n && leb n 64) ≡ true = and_l (leb 2 n && leb n 64) (ltb id n) e in
    (leb-true 2 n (and_l (leb 2 n) (leb n 64) h), leb-true n 64 (and_r (leb 2 n) (leb n 64) h), ltb-true id n (and_r (leb 2 n && leb n 64) (ltb id n) e))

abbrev pub place_at : List ℕ → Bool
place_at s = formed_place (get_or s 2 0) (get_or s 3 0)

pub wrong_length_lem : (quiet : Bool) (s : List ℕ) → (length s ≡ 24 → ⊥) → decoded quiet s ≡ Err Length
unfolding decoded
wrong_length_lem quiet s h = simp (ne_eqb (length s) 24 h)

pub no_place : (quiet : Bool) (s : List ℕ) → length s ≡ 24 → place_at s ≡ false → decoded quiet s ≡ Err Image
unfolding decoded well_formed
no_place quiet s l p = simp (l, p, and-false)

pub kind_unknown : (quiet : Bool) (s : List ℕ) → length s ≡ 24 → 3 ≤ kind_at s → decoded quiet s ≡ Err Image
unfolding decoded well_formed
kind_unknown quiet s l k = simp (l, le-ltb (kind_at s) 3 k)

pub of_out : (quiet : Bool) (s : List ℕ) → length s ≡ 24 → place_at s ≡ true → kind_at s ≡ 0
    → decoded quiet s ≡ node_if (ltb (reason_at s) 3 && is_zero (group_at s)) (Out (reason_of (reason_at s))) (get_or s 2 0) (get_or s 3 0)
unfolding decoded well_formed
of_out quiet s l p k = simp (l, p, k, and-true)

pub of_joining : (quiet : Bool) (s : List ℕ) → length s ≡ 24 → place_at s ≡ true → kind_at s ≡ 1
    → decoded quiet s ≡ node_if (eqb (reason_at s) 0 && is_zero (group_at s)) Joining (get_or s 2 0) (get_or s 3 0)
unfolding decoded well_formed
of_joining quiet s l p k = simp (l, p, k, and-true, zero_known quiet)

pub of_member : (quiet : Bool) (s : List ℕ) → length s ≡ 24 → place_at s ≡ true → kind_at s ≡ 2
    → decoded quiet s ≡ node_if (member_reason quiet (reason_at s) && formed_sets (get_or s 2 0) (get_or s 3 0) (group_at s).set (group_at s).base) (Member (group_at s) (eqb (reason_at s) 1)) (get_or s 2 0) (get_or s 3 0)
unfolding decoded well_formed
of_member quiet s l p k = simp (l, p, k, and-true, member_known quiet)
