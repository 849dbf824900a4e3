-- A row whose images are read as nodes, and one of which the first are written: what holds at a walk's test. Assumes nothing.
use mathlib.Core.Path.{◌≡◌, refl, sym, ap, ◌∙◌}
use mathlib.Core.List.{List, ◌++◌, append_assoc, append-nil}
use Rattle.std.specs.Prelude.{true, Result, Ok, Err}
use Rattle.std.specs.Result.{result_unwrap_or}
use Prim.Native.Nat.{ℕ, zero, suc, ◌+◌, ◌-◌, ◌*◌, ◌≤◌, ◌<◌}
use native.Mathlib.Numerals.{add-one}
use native.Mathlib.Omega.{arith}
use lib.ListN.{length, get_or, take, drop}
use Rattle.parts.specs.Parts.{with_part}
use Rattle.parts.proofs.Laws.{part_length, part_none, part_all, fill_next}
use Rattle.refusal.specs.declared.Refusal.{Refusal}
use Rattle.state.specs.declared.State.{State}
use Rattle.state.specs.declared.Node.{Node}
use Rattle.state.specs.Image.{image_of, decoded}
use Rattle.rules.specs.OneCycle.{stopped}
use Rattle.rules.specs.Faults.{at, tabulate}
use Rattle.rules.proofs.Rows.{get-tabulate, length-tabulate}
use Rattle.cluster_states.specs.declared.States.{States}
use Rattle.cluster_states.specs.States.{state_at, row_of}
use Rattle.row.specs.Row.{nodes_of}
use Rattle.row.specs.Gathered.{placed_node}
use Rattle.row_images.specs.Images.{no_node, node_or, node_in, entries_in, nodes_in, images_of}
use Rattle.row_images.proofs.Images.{length_images}

-- ---- the node of image q, by what reading the image finds
pub node_found : (s : List ℕ) (q : ℕ) (r : Result Node Refusal) → r ≡ decoded true (take (24 * q + 24 - 24 * q) (drop (24 * q) s)) → node_or r ≡ node_in s q
unfolding node_in
node_found s q r e =
    let one : 24 * q + 24 - 24 * q ≡ 24 = omega arith in
    ap node_or e ∙ ap (λ (k : ℕ). node_or (decoded true (take k (drop (24 * q) s)))) one

pub unwrapped : (r : Result Node Refusal) → result_unwrap_or r no_node ≡ node_or r
unwrapped (Ok x) = refl
unwrapped (Err e) = refl

-- ---- the images, as a walk over them finds them
pub nodes_length : (s : List ℕ) → length (nodes_in s) ≡ entries_in s
unfolding nodes_in
nodes_length s = length-tabulate (entries_in s) (node_in s)

pub nodes_at : (s : List ℕ) (q : ℕ) (d : Node) → q < entries_in s → get_or (nodes_in s) q d ≡ node_in s q
unfolding nodes_in
nodes_at s q d l = get-tabulate (entries_in s) q (node_in s) d l

-- ---- the row whose first images are written
images_last : (k : ℕ) (f : ℕ → Node) → images_of (tabulate (suc k) f) ≡ images_of (tabulate k f) ++ image_of (f k)
unfolding images_of tabulate
images_last zero f = append-nil (image_of (f 0))
images_last (suc k) f =
    ap (λ (r : List ℕ). image_of (f 0) ++ r) (images_last k (λ q. f (suc q)))
    ∙ sym (append_assoc (image_of (f 0)) (images_of (tabulate k (λ q. f (suc q)))) (image_of (f (suc k))))

-- the first k images of s replaced by those of the nodes f
abbrev pub Written : ℕ → (ℕ → Node) → List ℕ → List ℕ
Written k f s = with_part 0 (images_of (tabulate k f)) s

pub written_none : (f : ℕ → Node) (s : List ℕ) → s ≡ Written 0 f s
unfolding images_of tabulate
written_none f s = sym (part_none 0 s)

written-first : (k : ℕ) (f : ℕ → Node) → length (images_of (tabulate k f)) ≡ 24 * k
written-first k f = length_images (tabulate k f) ∙ ap (λ (j : ℕ). 24 * j) (length-tabulate k f)

-- one more is written
pub written_next : (k : ℕ) (f : ℕ → Node) (s t r m : List ℕ) (x : Node)
    → t ≡ Written k f s → x ≡ f k → m ≡ image_of x → r ≡ with_part (24 * k) m t → r ≡ Written (k + 1) f s
written_next k f s t r m x e h i p =
    fill_next (images_of (tabulate k f)) m s t r (24 * k) (sym (written-first k f)) e p
    ∙ ap (λ (l : List ℕ). with_part 0 l s)
    (ap (λ (l : List ℕ). images_of (tabulate k f) ++ l) (i ∙ ap image_of h) ∙ sym (images_last k f) ∙ ap (λ (j : ℕ). images_of (tabulate j f)) (sym (add-one k)))

-- as many bytes as before
pub written-length : (k n : ℕ) (f : ℕ → Node) (s t : List ℕ) → t ≡ Written k f s → k ≤ n → length s ≡ 24 * n → length t ≡ length s
written-length k n f s t e l h = ap length e ∙ part_length 0 (images_of (tabulate k f)) s (omega (arith, written-first k f))

-- all are written
pub written_all : (k : ℕ) (f : ℕ → Node) (s : List ℕ) → length s ≡ 24 * k → Written k f s ≡ images_of (tabulate k f)
written_all k f s e = part_all (images_of (tabulate k f)) s (omega (arith, written-first k f))

-- ---- the node of place q, of the states s
abbrev pub placed : ℕ → States → ℕ → Node
placed n s q = record { state = at (row_of n s) q; id = q; nodes = n }

pub is_placed : (n : ℕ) (s : States) (q : ℕ) (x : Node) → q < n → x ≡ placed_node n s q → x ≡ placed n s q
unfolding row_of
is_placed n s q x l h = h ∙ ap (λ (d : State). record { state = d; id = q; nodes = n }) (sym (get-tabulate n q (state_at s) stopped l))

pub all_placed : (n : ℕ) (s : States) → tabulate n (placed n s) ≡ nodes_of n (row_of n s)
unfolding nodes_of
all_placed n s = refl
