-- `frame_checks::look` meets its contract: each refusal comes after the tests of those below it. Assumes nothing.
use mathlib.Core.Path.{◌≡◌, sym, ap, ◌∙◌}
use mathlib.Core.Bool.{true, false}
use mathlib.Core.List.{List}
use Prim.Native.Nat.{ℕ, ◌+◌, ◌*◌, ◌/◌, ◌%◌, ◌≤◌}
use lib.ListN.{length}
use borrow.Author.Tests.{eq-eqb, ne_eqb, lt-ltb, le-ltb}
use Rattle.bigendian.specs.BigEndian.{number_at}
use Rattle.frames.specs.Read.{wrong_length, wrong_header, wrong_frame}
use Rattle.frames.specs.Looked.{looked}
use Rattle.frames.proofs.Faults.{by_length, by-header, by-frame, by-due}
use Rattle.frame_checks.proofs.look.Goals as goal

uneven : (s : List ℕ) (h : ℕ) → number_at s 0 5 ≡ h → 8 ≤ length s → (length s ≡ 8 + 2 * (h / 131072 % 128) → ⊥) → wrong_length s ≡ true
unfolding wrong_length
uneven s h e l n = simp (e, le-ltb (length s) 8 l, ne_eqb _ _ n)

even : (s : List ℕ) (h : ℕ) → number_at s 0 5 ≡ h → 8 ≤ length s → length s ≡ 8 + 2 * (h / 131072 % 128) → wrong_length s ≡ false
unfolding wrong_length
even s h e l n = simp (e, le-ltb (length s) 8 l, eq-eqb _ _ n)

pub returns-then-s-lt8 : goal.returns-then-s-lt8
unfolding wrong_length
returns-then-s-lt8 c = sym (ap looked (by_length _ _ _ _ _ _ (rw (lt-ltb _ _ c.if-s-lt8.true))))

pub returns-then-s-h : goal.returns-then-s-h
returns-then-s-h c =
    let headed : number_at c.args.s.now 0 5 ≡ c.read-h.result = sym c.read-h.ensures.value in
    sym (ap looked (by_length _ _ _ _ _ _ (uneven _ _ (headed) c.if-s-lt8.false c.if-s-h.true)))

pub returns-then-wrong_header : goal.returns-then-wrong_header
returns-then-wrong_header c =
    let headed : number_at c.args.s.now 0 5 ≡ c.read-h.result = sym c.read-h.ensures.value in
    let sized : wrong_length c.args.s.now ≡ false = even _ _ (headed) c.if-s-lt8.false c.if-s-h.false in
    sym (ap looked (by-header _ _ _ _ _ _ (sized) (sym (c.wrong_header.ensures _ (headed)) ∙ c.if-wrong_header.true)))

pub returns-then-wrong_frame : goal.returns-then-wrong_frame
returns-then-wrong_frame c =
    let headed : number_at c.args.s.now 0 5 ≡ c.read-h.result = sym c.read-h.ensures.value in
    let sized : wrong_length c.args.s.now ≡ false = even _ _ (headed) c.if-s-lt8.false c.if-s-h.false in
    let checked : wrong_header c.args.s.now ≡ false = sym (c.wrong_header.ensures _ (headed)) ∙ c.if-wrong_header.false in
    sym (ap looked (by-frame _ _ _ _ _ _ (sized) (checked) (sym c.wrong_frame.ensures ∙ c.if-wrong_frame.true)))

pub returns : goal.returns
returns c =
    let headed : number_at c.args.s.now 0 5 ≡ c.read-h.result = sym c.read-h.ensures.value in
    let sized : wrong_length c.args.s.now ≡ false = even _ _ (headed) c.if-s-lt8.false c.if-s-h.false in
    let checked : wrong_header c.args.s.now ≡ false = sym (c.wrong_header.ensures _ (headed)) ∙ c.if-wrong_header.false in
    let framed : wrong_frame c.args.channel c.args.s.now ≡ false = sym c.wrong_frame.ensures ∙ c.if-wrong_frame.false in
    c.null_or_due.ensures _ (headed)
    ∙ sym (ap looked (by-due _ _ _ _ _ _ (sized) (checked) (framed)))
