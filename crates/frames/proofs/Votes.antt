-- The derived equality of votes is that of the definitions. Assumes nothing.
use mathlib.Core.Path.{◌≡◌, refl, ap}
use mathlib.Core.Bool.{Bool, true, false, ◌&&◌}
use lib.Dec.{eqb}
use Rattle.rules.specs.declared.Vote.{Vote}
use Rattle.rules.specs.OneCycle.{same_group, same_vote}

grouped : (a b c : Bool) → (a && (b && c)) ≡ (a && b && c)
grouped true b c = refl
grouped false b c = refl

pub equal-vote : (v w : Vote) → ((eqb v.group.number w.group.number && (eqb v.group.set w.group.set && eqb v.group.base w.group.base)) && eqb v.view w.view) ≡ same_vote v w
unfolding same_group same_vote
equal-vote v w = ap (λ (x : Bool). x && eqb v.view w.view) (grouped (eqb v.group.number w.group.number) (eqb v.group.set w.group.set) (eqb v.group.base w.group.base))
