use mathlib.Core.Path.{refl, ap}
use Prim.Native.Nat.{ℕ}
use native.Mathlib.Nat.{sub-zero}
use native.Mathlib.Omega.{arith}
use lib.ListN.{take}
use Rattle.std.specs.Prelude.{is_none, Some}
use Rattle.print_window.proofs.Going.{going-none, going_more, going_less, takes}
use Rattle.print_pieces.specs.Pieces.{longest, rate, due, whole}
use Rattle.print_stream.specs.Stream.{goes_on}
use Rattle.print_stream.proofs.Short.{short}
use Rattle.print_stream.proofs.Taking.{picked, stopped, turned}
use Rattle.print_stream.proofs.take.Goals as goal

pub loop-before-init : goal.loop-before-init
loop-before-init c =
    let a = c.args in
    going-none due whole longest rate 128 short a.window.now a.have a.ended _ a.out.now a.at _ (omega (arith, c.requires.1))
    (ap (λ (n : ℕ). goes_on (Some a.z) a.ended (take n a.window.now)) (sub-zero a.have))

pub loop-before-smaller : goal.loop-before-smaller
loop-before-smaller c =
    let a = c.args in
    let l = c.loop-before in
    let h = picked _ c.going.ensures c.in-Some.is in
    going_less due whole longest rate 128 short a.window.now a.have a.ended _ a.out.now a.at _ l.out l.used l.end (is_none l.session) _ c.requires.0 l.invariant _ _ _ _ _
    (turned h.1 c.turn-piece.ensures) h.0 _ refl

pub loop-before-preserved : goal.loop-before-preserved
loop-before-preserved c =
    let a = c.args in
    let l = c.loop-before in
    let h = picked _ c.going.ensures c.in-Some.is in
    going_more due whole longest rate 128 short a.window.now a.have a.ended _ a.out.now a.at _ l.out l.used l.end (is_none l.session) _ c.requires.0 l.invariant _ _ _ _ _
    (turned h.1 c.turn-piece.ensures) h.0 _ refl

pub returns : goal.returns
returns c =
    let a = c.args in
    let l = c.loop-before in
    takes due whole longest rate 128 short a.window.now a.have a.ended _ a.out.now a.at _ l.out l.used l.end (is_none l.session) _ c.requires.0 l.invariant _ c.keep-kept.result
    (λ j. (c.slice_known-1.given j).fits) (stopped l.session a.ended _ c.going.ensures c.in_default.is) c.keep-kept.ensures.value c.keep-kept.ensures.window_after
