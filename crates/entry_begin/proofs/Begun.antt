-- What the entry begin answers and leaves. Assumes nothing.
use Rattle.parts.specs.Parts.{at_front}
use mathlib.Core.Path.{◌≡◌, refl, sym, ap, ◌∙◌}
use mathlib.Core.List.{List}
use Prim.Native.Nat.{ℕ, ◌≤◌, ◌<◌}
use lib.ListN.{length}
use borrow.Author.Tests.{leb-false}
use Rattle.state.specs.declared.State.{State}
use Rattle.state.specs.State.{initial}
use Rattle.state.specs.Image.{image_of}
use Rattle.state.proofs.RoundTrip.{image_length}
use Rattle.refusal.proofs.Laws.{none, unless-done}
use Rattle.entry_lent.specs.Refusals.{wrong_count, wrong_node, wrong_length}
use Rattle.entry_lent.proofs.Bounds.{count_bounds, length-is}
use Rattle.parts.proofs.Copies.{whole}
use Rattle.entry_begin.specs.Begin.{begin_status, begin_left}

pub begin_bounds : (n q F : ℕ) (s : List ℕ) → begin_status n q F s ≡ 0 → (n ≤ 64) × (q < n) × (length s ≡ 24)
unfolding begin_status
begin_bounds n q F s e =
    let a = none (wrong_count n) 1 _ refl e in
    let b = none (wrong_node n q) 2 _ refl a.1 in
    let d = none (wrong_length 24 s) 3 _ refl b.1 in
    ((count_bounds n a.0).1, leb-false n q b.0, length-is 24 s d.0)

pub begun : (n q F : ℕ) (s image left : List ℕ) (t : State) → 0 ≡ begin_status n q F s → t ≡ initial 0 F q
    → image ≡ image_of (record { state = t; id = q; nodes = n }) → left ≡ at_front image s → left ≡ begin_left n q F s
unfolding begin_left
begun n q F s image left t e i m l =
    let w : length image ≡ 24 = ap length m ∙ image_length _ in
    l ∙ whole 24 image s w (begin_bounds n q F s (sym e)).2 ∙ m ∙ ap (λ (x : State). image_of (record { state = x; id = q; nodes = n })) i
    ∙ sym (unless-done (begin_status n q F s) _ s (sym e))
