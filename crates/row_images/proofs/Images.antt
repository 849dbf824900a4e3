-- How many images bytes have, how long a row of images is, and that the nodes of a row in order are read back from it. Assumes nothing.
use mathlib.Core.Path.{◌≡◌, refl, ap, ap₂, ◌∙◌}
use mathlib.Core.Logic.{◌⊎◌, inl, inr}
use mathlib.Core.Bool.{Bool, true, false, ◌&&◌, cond}
use mathlib.Core.List.{List, [], ◌∷◌, ◌++◌}
use Prim.Native.Nat.{ℕ, suc, ◌+◌, ◌*◌, ◌/◌, ◌%◌, ◌≤◌}
use native.Mathlib.Omega.{arith}
use lib.Dec.{eqb}
use lib.ListN.{length, take, drop, length-append}
use lib.Seq.{take_at, drop-append-add}
use borrow.Author.Tests.{eqb-true, eqb-false, ne_eqb}
use Rattle.sets.proofs.Booleans.{bool, and_l, and_r}
use Rattle.state.specs.declared.Node.{Node}
use Rattle.state.specs.State.{formed}
use Rattle.state.specs.Image.{image_of, decoded}
use Rattle.state.proofs.RoundTrip.{image_length, round_trip}
use Rattle.rules.specs.Faults.{tabulate}
use Rattle.rules.proofs.Rows.{tabulate-ext}
use Rattle.row.specs.Row.{in_place, in_order}
use Rattle.row_images.specs.Images.{node_or, node_in, entries_in, nodes_in, images_of}

-- ---- how many images there are
module _ (s : List ℕ) where
  pub entries-whole : length s % 24 ≡ 0 → entries_in s ≡ length s / 24
  unfolding entries_in
  entries-whole e = ap (λ (r : ℕ). cond (eqb r 0) (length s / 24) 0) e

  pub entries_none : (length s % 24 ≡ 0 → ⊥) → entries_in s ≡ 0
  unfolding entries_in
  entries_none o = ap (λ (b : Bool). cond b (length s / 24) 0) (ne_eqb (length s % 24) 0 o)

  -- there are none, or they are all there is
  entries-or : (entries_in s ≡ 0) ⊎ (length s ≡ 24 * entries_in s)
  entries-or = go (bool (eqb (length s % 24) 0))
    where
      go : (eqb (length s % 24) 0 ≡ true) ⊎ (eqb (length s % 24) 0 ≡ false) → (entries_in s ≡ 0) ⊎ (length s ≡ 24 * entries_in s)
      go (inl e) =
          let z : length s % 24 ≡ 0 = eqb-true (length s % 24) 0 e in
          let k : entries_in s ≡ length s / 24 = entries-whole z in
          inr (omega arith)
      go (inr e) = inl (entries_none (eqb-false (length s % 24) 0 e))

  pub entries_fit : 24 * entries_in s ≤ length s
  entries_fit = go entries-or
    where
      go : (entries_in s ≡ 0) ⊎ (length s ≡ 24 * entries_in s) → 24 * entries_in s ≤ length s
      go (inl e) = omega arith
      go (inr e) = omega arith

  pub entries-all : 1 ≤ entries_in s → length s ≡ 24 * entries_in s
  entries-all l = go entries-or
    where
      go : (entries_in s ≡ 0) ⊎ (length s ≡ 24 * entries_in s) → length s ≡ 24 * entries_in s
      go (inl e) = omega arith
      go (inr e) = e

  entries-are : (k : ℕ) → length s ≡ 24 * k → entries_in s ≡ k
  entries-are k e =
      let z : length s % 24 ≡ 0 = omega arith in
      let d : entries_in s ≡ length s / 24 = entries-whole z in
      omega arith

-- ---- the row of some nodes
pub length_images : (xs : List Node) → length (images_of xs) ≡ 24 * length xs
unfolding images_of
length_images [] = refl
length_images (x ∷ xs) =
    let l : length (image_of x ++ images_of xs) ≡ length (image_of x) + length (images_of xs) = length-append (image_of x) (images_of xs) in
    let one : length (image_of x) ≡ 24 = image_length x in
    let rest : length (images_of xs) ≡ 24 * length xs = length_images xs in
    omega arith

-- the first image of a row, and those after it
first_in : (x : Node) (rest : List ℕ) → formed true x ≡ true → node_in (image_of x ++ rest) 0 ≡ x
unfolding node_in
first_in x rest f =
    ap (λ (s : List ℕ). node_or (decoded true s)) (take_at (image_of x) rest 24 (image_length x)) ∙ ap node_or (round_trip true x f)

later_in : (x : Node) (rest : List ℕ) (q : ℕ) → node_in (image_of x ++ rest) (suc q) ≡ node_in rest q
unfolding node_in
later_in x rest q =
    let one : length (image_of x) ≡ 24 = image_length x in
    let far : 24 * suc q ≡ length (image_of x) + 24 * q = omega arith in
    ap (λ (s : List ℕ). node_or (decoded true (take 24 s)))
    (ap (λ (k : ℕ). drop k (image_of x ++ rest)) far ∙ drop-append-add (image_of x) rest (24 * q))

place_formed : (n q : ℕ) (x : Node) → in_place true n q x ≡ true → formed true x ≡ true
unfolding in_place
place_formed n q x e = and_l (formed true x) (eqb x.id q) (and_l (formed true x && eqb x.id q) (eqb x.nodes n) e)

read_back : (n q : ℕ) (xs : List Node) → in_order true n q xs ≡ true → tabulate (length xs) (node_in (images_of xs)) ≡ xs
unfolding in_order tabulate images_of
read_back n q [] h = refl
read_back n q (x ∷ xs) h =
    ap₂ (λ (y : Node) (ys : List Node). y ∷ ys)
    (first_in x (images_of xs) (place_formed n q x (and_l (in_place true n q x) (in_order true n (suc q) xs) h)))
    (tabulate-ext (length xs) (λ p. node_in (image_of x ++ images_of xs) (suc p)) (node_in (images_of xs)) (λ p l. later_in x (images_of xs) p)
    ∙ read_back n (suc q) xs (and_r (in_place true n q x) (in_order true n (suc q) xs) h))

-- nodes in order are read back from the row of their images
pub nodes_images : (n : ℕ) (xs : List Node) → in_order true n 0 xs ≡ true → nodes_in (images_of xs) ≡ xs
unfolding nodes_in
nodes_images n xs h =
    ap (λ (k : ℕ). tabulate k (node_in (images_of xs))) (entries-are (images_of xs) (length xs) (length_images xs)) ∙ read_back n 0 xs h
