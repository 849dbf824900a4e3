-- Each way through `decode` is one of the laws of Fields. Assumes nothing.
use mathlib.Core.Path.{sym, ◌∙◌}
use native.Mathlib.Omega.{arith}
use Rattle.state.proofs.Fields.{place_bounds, wrong_length_lem, no_place, kind_unknown, of_out, of_joining, of_member}
use Rattle.state_decoding.proofs.decode.Goals as goal

pub returns-then-s-ne24 : goal.returns-then-s-ne24
returns-then-s-ne24 c = sym (wrong_length_lem _ _ c.if-s-ne24.true)

pub returns-then-not-place_formed : goal.returns-then-not-place_formed
returns-then-not-place_formed c = sym (no_place _ _ c.if-s-ne24.false (sym c.place_formed.ensures ∙ c.if-not-place_formed.true))

pub member_node-requires : goal.member_node-requires
member_node-requires c = let b = place_bounds _ _ (sym c.place_formed.ensures ∙ c.if-not-place_formed.false) in (omega arith, b.1)

pub returns-in-0 : goal.returns-in-0
returns-in-0 c =
    rw (c.out_node.ensures, c.group_at-g.ensures) (sym (of_out _ _ c.if-s-ne24.false (sym c.place_formed.ensures ∙ c.if-not-place_formed.false) c.in-0.is))

pub returns-in-1 : goal.returns-in-1
returns-in-1 c =
    rw (c.joining_node.ensures, c.group_at-g.ensures) (sym (of_joining _ _ c.if-s-ne24.false (sym c.place_formed.ensures ∙ c.if-not-place_formed.false) c.in-1.is))

pub returns-in-2 : goal.returns-in-2
returns-in-2 c =
    rw (c.member_node.ensures, c.group_at-g.ensures) (sym (of_member _ _ c.if-s-ne24.false (sym c.place_formed.ensures ∙ c.if-not-place_formed.false) c.in-2.is))

pub returns-in_default : goal.returns-in_default
returns-in_default c = sym (kind_unknown _ _ c.if-s-ne24.false (omega arith))
