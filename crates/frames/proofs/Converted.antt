-- A bit from a `bool`, and from a number that is one. Assumes nothing.
use mathlib.Core.Path.{◌≡◌, refl, sym}
use mathlib.Core.Bool.{Bool, true, false}
use Prim.Native.Nat.{ℕ, ◌<◌}
use native.Mathlib.Omega.{arith}
use lib.Dec.{eqb}
use borrow.Author.Tests.{eqb-true, eqb-false}
use Rattle.std.specs.Int.{from_bool}
use Rattle.frames.specs.Written.{bit}

pub bit-from : (b : Bool) → from_bool b ≡ bit b
bit-from true = refl
bit-from false = refl

pub bit-number : (x : ℕ) → x < 2 → bit (eqb x 1) ≡ x
bit-number x l = go (eqb x 1) refl
  where
    go : (b : Bool) → eqb x 1 ≡ b → bit b ≡ x
    go true e = sym (eqb-true x 1 e)
    go false e = let o = eqb-false x 1 e in omega arith
