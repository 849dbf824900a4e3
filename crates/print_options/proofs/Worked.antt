-- What some arguments ask for, by computation; and where the answers go. Assumes nothing.
use mathlib.Core.Path.{◌≡◌, refl}
use mathlib.Core.Bool.{Bool, true, false, not, ◌&&◌, ◌||◌, cond}
use mathlib.Core.List.{List, [], ◌∷◌, map}
use Prim.Native.Nat.{ℕ}
use native.Mathlib.Omega.{arith}
use lib.Dec.{eqb, ltb}
use borrow.Author.Tests.{eq-eqb, ne_eqb, ltb-true, ltb-false}
use Rattle.print_text.specs.Text.{ascii}
use Rattle.print_options.specs.declared.Asked.{Asked}
use Rattle.print_options.specs.declared.Asked.TheVariants.{Run, Help, Version, Wrong}
use Rattle.parts.specs.Compared.{same_bytes}
use Rattle.print_options.specs.Options.{asked_by_one, asked_by, goes_aside}

-- so many arguments, the program's name among them, and the one after the name; what they ask for
pub record Example : Type 0 where
  pub count : ℕ
  pub first : List ℕ
  pub asked : Asked

abbrev given : ℕ → List ℕ → Asked → Example
given count first asked = record { count = count; first = first; asked = asked }

abbrev pub examples : List Example
examples =
    given 0 [] Run
    ∷ given 1 [] Run
    ∷ given 1 (ascii "--help") Run
    ∷ given 2 (ascii "--help") Help
    ∷ given 2 (ascii "--version") Version
    ∷ given 2 [] Wrong
    ∷ given 2 (ascii "-h") Wrong
    ∷ given 2 (ascii "--hel") Wrong
    ∷ given 2 (ascii "--helpx") Wrong
    ∷ given 2 (ascii "--Help") Wrong
    ∷ given 2 (ascii "--versio") Wrong
    ∷ given 3 (ascii "--help") Wrong
    ∷ given 3 (ascii "--version") Wrong
    ∷ []

pub examples_hold : map (λ (e : Example). asked_by e.count e.first) examples ≡ map (λ (e : Example). e.asked) examples
unfolding same_bytes asked_by_one asked_by ascii
examples_hold = refl

-- an option that stands alone is answered on standard output, and all else on standard error
pub options_on_output : (count : ℕ) (first : List ℕ)
    → goes_aside (asked_by count first) ≡ not (eqb count 2 && (same_bytes first (ascii "--help") || same_bytes first (ascii "--version")))
unfolding asked_by asked_by_one
options_on_output count first = number (ltb count 2) (ltb 2 count) refl refl
  where
    text : (h v : Bool) → goes_aside (cond h Help (cond v Version Wrong)) ≡ not (h || v)
    text true v = refl
    text false true = refl
    text false false = refl

    number : (few many : Bool) → ltb count 2 ≡ few → ltb 2 count ≡ many → goes_aside (cond few Run (cond many Wrong (asked_by_one first)))
        ≡ not (eqb count 2 && (same_bytes first (ascii "--help") || same_bytes first (ascii "--version")))
    number true many e f = rw (ne_eqb count 2 (λ s. omega (arith, s, ltb-true count 2 e)))
    number false true e f = rw (ne_eqb count 2 (λ s. omega (arith, s, ltb-true 2 count f)))
    number false false e f =
        rw (eq-eqb count 2 (omega (arith, ltb-false count 2 e, ltb-false 2 count f))) (text (same_bytes first (ascii "--help")) (same_bytes first (ascii "--version")))
