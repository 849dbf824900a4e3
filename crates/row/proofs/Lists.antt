-- A row whose entries from some place on are still to gather, and one of which the first are replaced: what holds at a walk's test. Assumes nothing.
use mathlib.Core.Path.{◌≡◌, refl, sym, ap, ◌∙◌}
use mathlib.Core.Logic.{◌⊎◌, inl, inr}
use mathlib.Core.Bool.{Bool, true, false, cond}
use mathlib.Core.List.{List, [], ◌∷◌}
use Rattle.std.specs.Prelude.{Option, Some, None}
use Prim.Native.Nat.{ℕ, zero, suc, ◌+◌, ◌-◌, ◌<◌, ◌≤◌, min}
use native.Mathlib.Nat.{not-suc-le-zero, le_of_suc-le-suc, add-zero, add-suc, suc-add, zero-add}
use native.Mathlib.Numerals.{add-one}
use native.Mathlib.Omega.{arith}
use lib.ListN.{length, get_or, set, drop, drop_of_length-le}
use lib.Seq.{drop-cons}
use lib.Dec.{ltb}
use borrow.Author.Tests.{lt-ltb, le-ltb, ltb-true, ltb-false}
use Rattle.sets.proofs.Booleans.{bool}
use Rattle.state.specs.declared.Node.{Node}
use Rattle.cluster_states.specs.declared.States.{States}
use Rattle.row.specs.Row.{in_place}
use Rattle.row.specs.Gathered.{with_node, push_of, gathered, placed_node, node_of, each}

-- a place after q, from the place after q
pub one_on : (q i : ℕ) → q + suc i ≡ suc q + i
one_on q i = add-suc q i ∙ sym (suc-add q i)

-- ---- a row whose first i entries, from place q on, are replaced by what f makes of them
unfoldable pub upto : (ℕ → Node → Node) → ℕ → ℕ → List Node → List Node
upto f q zero ys = ys
upto f q (suc i) [] = []
upto f q (suc i) (y ∷ ys) = f q y ∷ upto f (suc q) i ys

module _ (f : ℕ → Node → Node) where
  pub upto-none : (ys : List Node) → upto f 0 0 ys ≡ ys
  unfolding upto
  upto-none ys = refl

  pub upto-length : (q i : ℕ) (ys : List Node) → length (upto f q i ys) ≡ length ys
  unfolding upto
  upto-length q zero ys = refl
  upto-length q (suc i) [] = refl
  upto-length q (suc i) (y ∷ ys) = ap suc (upto-length (suc q) i ys)

  -- the next entry is as it was
  pub upto_next : (q i : ℕ) (ys : List Node) (d : Node) → get_or (upto f q i ys) i d ≡ get_or ys i d
  unfolding upto
  upto_next q zero ys d = refl
  upto_next q (suc i) [] d = refl
  upto_next q (suc i) (y ∷ ys) d = upto_next (suc q) i ys d

  set_next : (q i : ℕ) (ys : List Node) (d : Node) → i < length ys → set (upto f q i ys) i (f (q + i) (get_or ys i d)) ≡ upto f q (suc i) ys
  unfolding upto
  set_next q i [] d l = absurd (not-suc-le-zero l)
  set_next q zero (y ∷ ys) d l = ap (λ (p : ℕ). f p y ∷ ys) (add-zero q)
  set_next q (suc i) (y ∷ ys) d l =
      ap (λ (p : ℕ). f q y ∷ set (upto f (suc q) i ys) i (f p (get_or ys i d))) (one_on q i)
      ∙ ap (λ (r : List Node). f q y ∷ r) (set_next (suc q) i ys d (le_of_suc-le-suc l))

  -- one more is replaced
  pub upto-set : (i : ℕ) (ys : List Node) (d : Node) → i < length ys → set (upto f 0 i ys) i (f i (get_or ys i d)) ≡ upto f 0 (i + 1) ys
  upto-set i ys d l =
      ap (λ (p : ℕ). set (upto f 0 i ys) i (f p (get_or ys i d))) (sym (zero-add i)) ∙ set_next 0 i ys d l
      ∙ ap (λ (p : ℕ). upto f 0 p ys) (sym (add-one i))

  all-replaced : (q : ℕ) (ys : List Node) → upto f q (length ys) ys ≡ each f q ys
  unfolding upto each
  all-replaced q [] = refl
  all-replaced q (y ∷ ys) = ap (λ (r : List Node). f q y ∷ r) (all-replaced (suc q) ys)

  -- all are replaced, whatever is made of them
  pub upto_each : (i : ℕ) (ys : List Node) → i ≡ length ys → upto f 0 i ys ≡ each f 0 ys
  upto_each i ys e = ap (λ (p : ℕ). upto f 0 p ys) e ∙ all-replaced 0 ys

  pub each-length : (q : ℕ) (ys : List Node) → length (each f q ys) ≡ length ys
  unfolding each
  each-length q [] = refl
  each-length q (y ∷ ys) = ap suc (each-length (suc q) ys)

-- past the last place nothing is replaced
each_past : (n : ℕ) (s : States) (q : ℕ) (ys : List Node) → 64 ≤ q → each (node_of n s) q ys ≡ ys
unfolding each node_of
each_past n s q [] l = refl
each_past n s q (y ∷ ys) l =
    ap (λ (b : Bool). cond b (placed_node n s q) y ∷ each (node_of n s) (suc q) ys) (le-ltb q 64 l)
    ∙ ap (λ (r : List Node). y ∷ r) (each_past n s (suc q) ys (omega arith))

-- all are replaced
pub upto_all : (n : ℕ) (s : States) (q i : ℕ) (ys : List Node) → min (length ys) (64 - q) ≤ i → upto (node_of n s) q i ys ≡ each (node_of n s) q ys
unfolding upto each
upto_all n s q zero [] l = refl
upto_all n s q zero (y ∷ ys) l = let past : 64 ≤ q = omega arith in sym (each_past n s q (y ∷ ys) past)
upto_all n s q (suc i) [] l = refl
upto_all n s q (suc i) (y ∷ ys) l = ap (λ (r : List Node). node_of n s q y ∷ r) (upto_all n s (suc q) i ys (omega arith))

-- ---- a row of which the entries from place q on are still to gather, s being the states of those before
pub gathered_none : (n q : ℕ) (ys : List Node) → gathered n None q ys ≡ None
unfolding gathered push_of
gathered_none n q [] = refl
gathered_none n q (y ∷ ys) = gathered_none n (suc q) ys

module _ (n q : ℕ) (s : States) (ys : List Node) (x : Node) (l : q < length ys) (low : q < 64) (e : x ≡ get_or ys q x) where
  next : gathered n (Some s) q (drop q ys) ≡ gathered n (cond (in_place true n q x) (Some (with_node s q x.state)) None) (suc q) (drop (suc q) ys)
  unfolding gathered push_of
  next =
      ap (gathered n (Some s) q) (drop-cons ys q x l)
      ∙ ap (λ (y : Node). gathered n (push_of n (Some s) q y) (suc q) (drop (suc q) ys)) (sym e)
      ∙ ap (λ (b : Bool). gathered n (cond b (cond (in_place true n q x) (Some (with_node s q x.state)) None) (Some s)) (suc q) (drop (suc q) ys)) (lt-ltb q 64 low)

  -- entry x, of place q, is gathered
  pub gathered_next : in_place true n q x ≡ true → (s' : States) → s' ≡ with_node s q x.state
      → gathered n (Some s) q (drop q ys) ≡ gathered n (Some s') (q + 1) (drop (q + 1) ys)
  gathered_next b s' w =
      next ∙ ap (λ (c : Bool). gathered n (cond c (Some (with_node s q x.state)) None) (suc q) (drop (suc q) ys)) b
      ∙ ap (λ (t : States). gathered n (Some t) (suc q) (drop (suc q) ys)) (sym w)
      ∙ ap (λ (p : ℕ). gathered n (Some s') p (drop p ys)) (sym (add-one q))

  -- it is not the node of its place
  pub gathered_stop : in_place true n q x ≡ false → gathered n (Some s) q (drop q ys) ≡ None
  gathered_stop b =
      next ∙ ap (λ (c : Bool). gathered n (cond c (Some (with_node s q x.state)) None) (suc q) (drop (suc q) ys)) b
      ∙ gathered_none n (suc q) (drop (suc q) ys)

-- past the last place there is nothing to gather
pub gathered_past : (n : ℕ) (g : Option States) (q : ℕ) (ys : List Node) → 64 ≤ q → gathered n g q ys ≡ g
unfolding gathered push_of
gathered_past n g q [] l = refl
gathered_past n g q (y ∷ ys) l = gathered_past n (push_of n g q y) (suc q) ys (omega arith) ∙ past g
  where
    past : (g : Option States) → push_of n g q y ≡ g
    past None = refl
    past (Some s) = ap (λ (b : Bool). cond b (cond (in_place true n q y) (Some (with_node s q y.state)) None) (Some s)) (le-ltb q 64 l)

-- where q is behind the end, or past the last place, all are gathered
pub gathered_all : (n : ℕ) (g : Option States) (q : ℕ) (ys : List Node) → min (length ys) 64 ≤ q → gathered n g q (drop q ys) ≡ g
unfolding gathered
gathered_all n g q ys l = go (bool (ltb q 64))
  where
    end : length ys ≤ q → gathered n g q (drop q ys) ≡ g
    end e = ap (gathered n g q) (drop_of_length-le ys e)

    go : (ltb q 64 ≡ true) ⊎ (ltb q 64 ≡ false) → gathered n g q (drop q ys) ≡ g
    go (inl b) = let low : q < 64 = ltb-true q 64 b in end (omega arith)
    go (inr b) = gathered_past n g q (drop q ys) (ltb-false q 64 b)
