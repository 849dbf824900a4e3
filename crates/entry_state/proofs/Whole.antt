-- The numbers that a call leaves: of an accepted state, laid out again, they are its image; where it is refused they are as they came. Assumes nothing.
use mathlib.Core.Path.{◌≡◌, refl, sym, ap, ◌∙◌}
use mathlib.Core.List.{List}
use Prim.Native.Nat.{ℕ}
use Rattle.bigendian.proofs.Laws.{Bytes}
use Rattle.state.specs.declared.Group.{Group}
use Rattle.state.specs.declared.Node.{Node}
use Rattle.state.specs.Image.{layout, image_of}
use Rattle.state.proofs.RoundTrip.{image_back}
use Rattle.rules.specs.OneCycle.{quiet_in}
use Rattle.std.specs.Prelude.{Result, Ok, Err}
use Rattle.refusal.specs.declared.Refusal.{Refusal}
use Rattle.refusal.specs.Codes.{status_of}
use Rattle.refusal.proofs.Codes.{numbered}
use Rattle.entry_lent.specs.Found.{lent_state, image_status}
use Rattle.entry_lent.proofs.Images.{found_state, state_kept}
use Rattle.entry_state.specs.Apart.{of_node, kind_left, reason_left, node_left, count_left, number_left, set_left, base_left}

-- the numbers that a call leaves, where these stood before, in the order of an image
abbrev pub laid_out : ℕ → List ℕ → ℕ → ℕ → ℕ → ℕ → Group → List ℕ
laid_out mode s kind reason node n g =
    layout (kind_left mode s kind) (reason_left mode s reason) (node_left mode s node) (count_left mode s n)
    (record { number = number_left mode s g.number; set = set_left mode s g.set; base = base_left mode s g.base })

-- of every image that is accepted
pub whole_again : (mode : ℕ) (s : List ℕ) (kind reason node n : ℕ) (g : Group) → Bytes s → image_status mode s ≡ 0 → laid_out mode s kind reason node n g ≡ s
unfolding image_status kind_left reason_left node_left count_left number_left set_left base_left image_of
whole_again mode s kind reason node n g b accepted = go (lent_state mode s) refl
  where
    go : (d : Result Node Refusal) → lent_state mode s ≡ d → laid_out mode s kind reason node n g ≡ s
    go (Ok found) e = simp e (image_back (quiet_in mode) s found b (found_state mode s found e).1)
    go (Err r) e = absurd (numbered r (sym (ap status_of e) ∙ accepted))

-- of every image that is refused each number is the one that stood there
pub refused_kept : (mode : ℕ) (s : List ℕ) (kind reason node n number set base : ℕ) → (image_status mode s ≡ 0 → ⊥)
    → (kind_left mode s kind ≡ kind) × (reason_left mode s reason ≡ reason) × (node_left mode s node ≡ node) × (count_left mode s n ≡ n)
    × (number_left mode s number ≡ number) × (set_left mode s set ≡ set) × (base_left mode s base ≡ base)
unfolding kind_left reason_left node_left count_left number_left set_left base_left
refused_kept mode s kind reason node n number set base refused =
    let stays : (f : Node → ℕ) (before : ℕ) → of_node f (lent_state mode s) before ≡ before =
    λ f before. state_kept (λ (d : Result Node Refusal). of_node f d before) before mode s (λ r. refl) refused in
    (stays _ kind, stays _ reason, stays _ node, stays _ n, stays _ number, stays _ set, stays _ base)
