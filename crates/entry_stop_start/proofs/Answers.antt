-- What the entries stop and start answer and leave. Assumes nothing.
use Rattle.parts.specs.Parts.{at_front}
use mathlib.Core.Path.{◌≡◌, refl, sym, ap, ◌∙◌}
use mathlib.Core.Bool.{Bool, true, false}
use mathlib.Core.List.{List}
use Prim.Native.Nat.{ℕ}
use lib.ListN.{length}
use Rattle.state.specs.declared.Node.{Node}
use Rattle.state.specs.Image.{image_of}
use Rattle.state.proofs.RoundTrip.{image_length}
use Rattle.rules.specs.OneCycle.{quiet_in}
use Rattle.std.specs.Prelude.{Result, Ok}
use Rattle.refusal.specs.declared.Refusal.{Refusal}
use Rattle.entry_lent.specs.Found.{lent_state, image_status}
use Rattle.parts.proofs.Copies.{whole}
use Rattle.entry_lent.proofs.Images.{good_length, found_state, state_kept}
use Rattle.entry_stop_start.specs.StopStart.{stopped_and_started, rule_one_of, stop_left, start_left}

module _ (mode : ℕ) (stop· start· : Bool) (s : List ℕ) where
  pub ruled : (image left : List ℕ) (n m : Node) → Ok n ≡ lent_state mode s → m ≡ stopped_and_started stop· start· n → image ≡ image_of m
      → left ≡ at_front image s → left ≡ rule_one_of stop· start· (lent_state mode s) s
  ruled image left n m g t e l =
      let w : length image ≡ 24 = ap length e ∙ image_length m in
      l ∙ whole 24 image s w (good_length (quiet_in mode) s n (found_state mode s n (sym g)).1) ∙ e ∙ ap image_of t ∙ ap (λ (d : Result Node Refusal). rule_one_of stop· start· d s) g

-- both leave every image that is refused as it came
pub refused_kept : (mode : ℕ) (s : List ℕ) → (image_status mode s ≡ 0 → ⊥) → (stop_left mode s ≡ s) × (start_left mode s ≡ s)
unfolding stop_left start_left
refused_kept mode s refused =
    let stays : (stop start : Bool) → rule_one_of stop start (lent_state mode s) s ≡ s =
    λ stop start. state_kept (λ (d : Result Node Refusal). rule_one_of stop start d s) s mode s (λ r. refl) refused in
    (stays true false, stays false true)
