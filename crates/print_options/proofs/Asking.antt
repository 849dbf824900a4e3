-- What is asked for, by the number of arguments and by the text of the only one. Assumes nothing.
use mathlib.Core.Path.{◌≡◌, refl, sym, ap, ◌∙◌}
use mathlib.Core.Bool.{Bool, true, false, cond, true≢false}
use mathlib.Core.List.{List, []}
use Prim.Native.Nat.{ℕ, ◌≤◌, ◌<◌}
use native.Mathlib.Omega.{arith}
use lib.Dec.{eqb, ltb}
use lib.ListN.{length}
use borrow.Author.Tests.{lt-ltb, le-ltb, ltb-true, ltb-false}
use Rattle.print_text.specs.Text.{ascii}
use Rattle.print_options.specs.declared.Asked.{Asked}
use Rattle.print_options.specs.declared.Asked.TheVariants.{Run, Help, Version, Wrong}
use Rattle.std.specs.Cmp.Lexicographic.{pointwise}
use Rattle.parts.specs.Compared.{same_bytes}
use Rattle.print_options.specs.Options.{asked_by_one, asked_by, argument_room, Known}
use Rattle.parts.proofs.Compared.{pointwise_same, equal_same, same_equal, other_length}

pub none-given : (count : ℕ) (first : List ℕ) → count < 2 → asked_by count first ≡ Run
unfolding asked_by
none-given count first h = rw (lt-ltb count 2 h)

pub several_given : (count : ℕ) (first : List ℕ) → 2 ≤ count → 2 < count → asked_by count first ≡ Wrong
unfolding asked_by
several_given count first h l = rw (le-ltb count 2 h, lt-ltb 2 count l)

pub one_given : (count : ℕ) (first : List ℕ) → 2 ≤ count → count ≤ 2 → asked_by count first ≡ asked_by_one first
unfolding asked_by
one_given count first h l = rw (le-ltb count 2 h, le-ltb 2 count l)

-- what a test by `==` found
pub found : (first text : List ℕ) {s : List ℕ} {d r : Bool} → s ≡ text → r ≡ pointwise eqb first s → r ≡ d → same_bytes first text ≡ d
found first text e p t = sym (pointwise_same first text) ∙ ap (pointwise eqb first) (sym e) ∙ sym p ∙ t

module _ (first : List ℕ) where
  pub help-given : same_bytes first (ascii "--help") ≡ true → asked_by_one first ≡ Help
  unfolding asked_by_one
  help-given e = rw e

  pub version-given : same_bytes first (ascii "--help") ≡ false → same_bytes first (ascii "--version") ≡ true → asked_by_one first ≡ Version
  unfolding asked_by_one
  version-given e f = rw (e, f)

  pub other-given : same_bytes first (ascii "--help") ≡ false → same_bytes first (ascii "--version") ≡ false → asked_by_one first ≡ Wrong
  unfolding asked_by_one
  other-given e f = rw (e, f)

-- An argument that is longer than its room comes as empty: that asks for the same_bytes.
pub longer_as_empty : (count : ℕ) (first : List ℕ) → argument_room < length first → asked_by count first ≡ asked_by count []
unfolding asked_by asked_by_one same_bytes ascii
longer_as_empty count first l =
    ap (λ (a : Asked). cond (ltb count 2) Run (cond (ltb 2 count) Wrong a))
    (other-given first (other_length first (ascii "--help") (λ e. omega (arith, l, e))) (other_length first (ascii "--version") (λ e. omega (arith, l, e))))

-- Each is asked for by these arguments, and by no others.
pub known : (count : ℕ) (first : List ℕ) → Known count first (asked_by count first)
unfolding asked_by asked_by_one
known count first = number (ltb count 2) (ltb 2 count) refl refl
  where
    one : count ≡ 2 → (h v : Bool) → same_bytes first (ascii "--help") ≡ h → same_bytes first (ascii "--version") ≡ v
        → Known count first (cond h Help (cond v Version Wrong))
    one two true v e f = (two, same_equal first (ascii "--help") e)
    one two false true e f = (two, same_equal first (ascii "--version") f)
    one two false false e f = (
      omega (arith, two),
      (λ s. absurd (true≢false (sym (equal_same first (ascii "--help") s) ∙ e))),
      (λ s. absurd (true≢false (sym (equal_same first (ascii "--version") s) ∙ f))),
    )

    number : (few many : Bool) → ltb count 2 ≡ few → ltb 2 count ≡ many → Known count first (cond few Run (cond many Wrong (asked_by_one first)))
    number true many e f = ltb-true count 2 e
    number false true e f = let more = ltb-true 2 count f in (omega (arith, more), (λ s. more), (λ s. more))
    number false false e f =
        let two : count ≡ 2 = omega (arith, ltb-false count 2 e, ltb-false 2 count f) in
        one two (same_bytes first (ascii "--help")) (same_bytes first (ascii "--version")) refl refl
