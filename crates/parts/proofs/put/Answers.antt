-- `parts::put` meets its contract. Assumes nothing.
use mathlib.Core.Path.{◌≡◌, ap₂, sym, ◌∙◌}
use mathlib.Core.List.{List, ◌++◌}
use Prim.Native.Nat.{ℕ, ◌+◌, ◌-◌, ◌≤◌}
use native.Mathlib.Omega.{arith}
use lib.ListN.{length, take, drop}
use borrow.Rule.Slice.PartMut.{mid_of, put_mid, mid_len, Post-is}
use Rattle.parts.specs.Parts.{at_front, with_part}
use Rattle.parts.proofs.Copies.{copied}
use Rattle.parts.proofs.put.Goals as goal

-- a part of f, lent and filled
filled : {left : List ℕ} (at : ℕ) (f x : List ℕ) → at + length x ≤ length f
    → left ≡ at_front x (mid_of at (at + length x - at) f)
    → put_mid at (at + length x - at) f left ≡ take at f ++ (x ++ drop (at + length x) f)
filled at f x fits c =
    let part : length x ≡ length (mid_of at (at + length x - at) f) = sym (mid_len at (at + length x) f fits ∙ omega arith) in
    let up : at ≤ at + length x = omega arith in
    ap₂ (λ (y z : List ℕ). take at f ++ (y ++ z)) (copied x (mid_of at (at + length x - at) f) part c) (Post-is at (at + length x) f up)

pub returns : goal.returns
unfolding with_part
returns c =
    let m = c.before.before in
    let a = m.before.before.before.before in
    filled a.args.at a.args.f.now a.args.x.now a.requires m.copy.ensures.after
