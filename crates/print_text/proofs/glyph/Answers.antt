-- `print_text::glyph` meets its contract. Assumes nothing.
use mathlib.Core.Path.{◌≡◌, refl}
use mathlib.Core.Bool.{Bool, true, false, cond}
use Prim.Native.Nat.{ℕ, ◌+◌, ◌≤◌, ◌<◌}
use native.Mathlib.Omega.{arith}
use lib.Dec.{ltb}
use borrow.Author.Tests.{ltb-true, ltb-false}
use Rattle.print_text.specs.Text.{glyph}
use Rattle.print_text.proofs.glyph.Goals as goal

-- the code of a digit, from what it is below 10 and from 10 on
coded : (d r : ℕ) → (d < 10 → r ≡ 48 + d) → (10 ≤ d → r ≡ 87 + d) → r ≡ glyph d
unfolding glyph
coded d r digit letter = go (ltb d 10) refl
  where
    go : (b : Bool) → ltb d 10 ≡ b → r ≡ cond b (48 + d) (87 + d)
    go true e = digit (ltb-true d 10 e)
    go false e = letter (ltb-false d 10 e)

pub returns : goal.returns
returns c = coded c.args.d _ (λ l. omega (arith, l)) (λ l. omega (arith, l, c.requires))
