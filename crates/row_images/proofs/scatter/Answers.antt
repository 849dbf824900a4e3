use mathlib.Core.Path.{◌≡◌, ap, ◌∙◌}
use Prim.Native.Nat.{ℕ}
use native.Mathlib.Omega.{arith}
use lib.ListN.{length}
use Rattle.state.proofs.RoundTrip.{image_length}
use Rattle.row_images.specs.Images.{images_of}
use Rattle.row_images.proofs.Walks.{Written, written_none, written_next, written-length, written_all, placed, is_placed, all_placed}
use Rattle.row_images.proofs.scatter.Goals as goal

pub loop-q-init : goal.loop-q-init
loop-q-init c = written_none _ _

pub put-requires : goal.put-requires
put-requires c =
    let a = c.args in
    let l = c.loop-q in
    let size = c.requires.1 in
    let long : length l.images ≡ length a.images.now = written-length l.q a.n _ _ _ l.invariant (omega arith) size in
    let image : length c.encode.result ≡ 24 = ap length c.encode.ensures ∙ image_length _ in
    omega arith

pub loop-q-preserved : goal.loop-q-preserved
loop-q-preserved c =
    let a = c.args in
    let l = c.loop-q in
    written_next _ _ _ _ _ _ _ l.invariant (is_placed a.n a.states.now l.q _ (omega arith) c.node_of-x.ensures) c.encode.ensures c.put.ensures

pub shape_of-images : goal.shape_of-images
shape_of-images c = written-length c.loop-q.q c.args.n _ _ _ c.loop-q.invariant (omega arith) c.requires.1

pub returns : goal.returns
returns c =
    let a = c.args in
    let l = c.loop-q in
    let end : l.q ≡ a.n = omega arith in
    l.invariant ∙ ap (λ (k : ℕ). Written k (placed a.n a.states.now) a.images.now) end ∙ written_all a.n _ _ c.requires.1
    ∙ ap images_of (all_placed a.n a.states.now)
