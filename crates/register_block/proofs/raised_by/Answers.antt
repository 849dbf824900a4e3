use borrow.Author.Tests.{eq-eqb, ne_eqb}
use Rattle.std.proofs.Common.{◌≡◌, ℕ, Bool, true, false, not, cond, eqb, refl, ap, ◌∙◌, sym}
use Rattle.std.specs.Int.{from_bool}
use Rattle.state.specs.declared.Group.{Group}
use Rattle.state.specs.declared.State.{State}
use Rattle.state.specs.declared.State.TheVariants.{Out, Joining, Member}
use Rattle.rules.specs.OneCycle.{sends_member}
use Rattle.registers.specs.Block.{flags_byte}
use Rattle.registers.specs.Steps.{raised_by}
use Rattle.register_block.proofs.raised_by.Goals as goal

-- a joining node enters if it is a member then
joined : (s t : State) (b : Bool) → s ≡ Joining → sends_member t ≡ b → cond b 4 0 ≡ flags_byte (raised_by s t)
unfolding raised_by
joined s t b e h = rw e (go t b h)
  where
    go : (t : State) (b : Bool) → sends_member t ≡ b → cond b 4 0 ≡ flags_byte (raised_by Joining t)
    go (Out r) b h = rw (sym h)
    go Joining b h = rw (sym h)
    go (Member g a) b h = rw (sym h)

-- a member that stays one raises changed if its set differs
stayed : (s t : State) (g h : Group) (a k : Bool) → s ≡ Member g a → t ≡ Member h k → from_bool (not (eqb g.set h.set)) ≡ flags_byte (raised_by s t)
unfolding raised_by
stayed s t g h a k e f = rw (e, f) (go (not (eqb g.set h.set)))
  where
    go : (b : Bool) → from_bool b ≡ flags_byte (record { changed = b; halted = false; entered = false })
    go true = refl
    go false = refl

pub returns-in-Out : goal.returns-in-Out
unfolding raised_by
returns-in-Out c = rw c.in-Out.is

pub returns-then-sends_member : goal.returns-then-sends_member
returns-then-sends_member c = joined _ c.args.t true c.in-Joining.is (sym c.sends_member.ensures ∙ c.if-sends_member.true)

pub returns-else-sends_member : goal.returns-else-sends_member
returns-else-sends_member c = joined _ c.args.t false c.in-Joining.is (sym c.sends_member.ensures ∙ c.if-sends_member.false)

pub returns-then-from-ne0 : goal.returns-then-from-ne0
unfolding raised_by
returns-then-from-ne0 c = rw (c.in-Member.is, c.in-Out-t.is, sym c.from.ensures, ne_eqb _ 0 c.if-from-ne0.true)

pub returns-else-from-ne0 : goal.returns-else-from-ne0
unfolding raised_by
returns-else-from-ne0 c = rw (c.in-Member.is, c.in-Out-t.is, sym c.from.ensures, eq-eqb _ 0 c.if-from-ne0.false)

pub returns-in-Joining-t : goal.returns-in-Joining-t
unfolding raised_by
returns-in-Joining-t c = rw (c.in-Member.is, c.in-Joining-t.is)

pub returns-in-Member-t : goal.returns-in-Member-t
returns-in-Member-t c = c.from-in-Member-t.ensures ∙ stayed _ _ _ _ _ _ c.in-Member.is c.in-Member-t.is
