-- Where an image is refused the view is as it came. Assumes nothing.
use mathlib.Core.Path.{◌≡◌, refl}
use mathlib.Core.List.{List}
use Prim.Native.Nat.{ℕ}
use Rattle.std.specs.Prelude.{Result}
use Rattle.state.specs.declared.Node.{Node}
use Rattle.refusal.specs.declared.Refusal.{Refusal}
use Rattle.entry_lent.specs.Found.{lent_state, image_status}
use Rattle.entry_lent.proofs.Images.{state_kept}
use Rattle.entry_send_vote.specs.Voting.{view_from}

pub refused_kept : (mode : ℕ) (s : List ℕ) (heard0 heard1 view : ℕ) → (image_status mode s ≡ 0 → ⊥) → view_from (lent_state mode s) heard0 heard1 view ≡ view
refused_kept mode s heard0 heard1 view = state_kept (λ (d : Result Node Refusal). view_from d heard0 heard1 view) view mode s (λ r. refl)
