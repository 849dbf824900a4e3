-- `frame_reading::formed_vote` meets its contract: each test is one of `formed_vote`. Assumes nothing.
use mathlib.Core.Path.{◌≡◌, ap, sym, ◌∙◌}
use mathlib.Core.Bool.{Bool, true, false, ◌&&◌}
use Prim.Native.Nat.{ℕ}
use lib.Dec.{eqb}
use Rattle.sets.specs.Sets.{has, subset, below}
use Rattle.frames.specs.Written.{formed_vote}
use Rattle.frame_reading.proofs.formed_vote.Goals as goal
use Rattle.frame_reading.proofs.formed_vote.Goals.{then-contains, else-contains, then-contains-2, else-contains-2, then-subset, else-subset}

-- a test behind others that held, and behind others that did not
and_then : {a b v : Bool} → a ≡ true → v ≡ b → v ≡ (a && b)
and_then {b = b} e h = h ∙ ap (λ (x : Bool). x && b) (sym e)

and_else : {a v : Bool} (b : Bool) → a ≡ false → v ≡ a → v ≡ (a && b)
and_else b e h = h ∙ e ∙ ap (λ (x : Bool). x && b) (sym e)

pub returns-then-below-g : goal.returns-then-below-g
unfolding formed_vote
returns-then-below-g c =
    let q = c.args.q in
    let g = c.args.v.group in
    let w = c.args.v.view in
    let e1 : c.if-contains.value ≡ (has q g.set && has q w) =
    elim c.if-contains.branch [
      | then-contains w ↦ and_then (sym c.contains.ensures ∙ w.if-contains.true) (w.value-is ∙ w.contains-then-contains.ensures)
      | else-contains w ↦ and_else _ (sym c.contains.ensures ∙ w.if-contains.false) (w.value-is ∙ c.contains.ensures)
    ] in
    let e2 : c.if-contains-2.value ≡ (has q g.set && has q w && subset g.set g.base) =
    elim c.if-contains-2.branch [
      | then-contains-2 w ↦ and_then (sym e1 ∙ w.if-contains-2.true) (w.value-is ∙ w.subset.ensures)
      | else-contains-2 w ↦ and_else _ (sym e1 ∙ w.if-contains-2.false) (w.value-is ∙ e1)
    ] in
    let e3 : c.if-subset.value ≡ (has q g.set && has q w && subset g.set g.base && eqb (below c.args.n g.base) g.base) =
    elim c.if-subset.branch [
      | then-subset w ↦ and_then (sym e2 ∙ w.if-subset.true) (w.value-is ∙ ap (λ (x : ℕ). eqb x g.base) w.below.ensures)
      | else-subset w ↦ and_else _ (sym e2 ∙ w.if-subset.false) (w.value-is ∙ e2)
    ] in
    and_then (sym e3 ∙ c.if-below-g.true) (ap (λ (x : ℕ). eqb x w) c.below-then-below-g.ensures)

pub returns-else-below-g : goal.returns-else-below-g
unfolding formed_vote
returns-else-below-g c =
    let q = c.args.q in
    let g = c.args.v.group in
    let w = c.args.v.view in
    let e1 : c.if-contains.value ≡ (has q g.set && has q w) =
    elim c.if-contains.branch [
      | then-contains w ↦ and_then (sym c.contains.ensures ∙ w.if-contains.true) (w.value-is ∙ w.contains-then-contains.ensures)
      | else-contains w ↦ and_else _ (sym c.contains.ensures ∙ w.if-contains.false) (w.value-is ∙ c.contains.ensures)
    ] in
    let e2 : c.if-contains-2.value ≡ (has q g.set && has q w && subset g.set g.base) =
    elim c.if-contains-2.branch [
      | then-contains-2 w ↦ and_then (sym e1 ∙ w.if-contains-2.true) (w.value-is ∙ w.subset.ensures)
      | else-contains-2 w ↦ and_else _ (sym e1 ∙ w.if-contains-2.false) (w.value-is ∙ e1)
    ] in
    let e3 : c.if-subset.value ≡ (has q g.set && has q w && subset g.set g.base && eqb (below c.args.n g.base) g.base) =
    elim c.if-subset.branch [
      | then-subset w ↦ and_then (sym e2 ∙ w.if-subset.true) (w.value-is ∙ ap (λ (x : ℕ). eqb x g.base) w.below.ensures)
      | else-subset w ↦ and_else _ (sym e2 ∙ w.if-subset.false) (w.value-is ∙ e2)
    ] in
    and_else _ (sym e3 ∙ c.if-below-g.false) e3
