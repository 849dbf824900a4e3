-- The session that takes the next record, as the loop asks for it. Assumes nothing.
use mathlib.Core.Path.{◌≡◌, refl, sym, ap, ◌∙◌, subst}
use mathlib.Core.Bool.{Bool, true, false, not, ◌&&◌, ◌||◌, cond, true≢false}
use mathlib.Core.List.{List}
use Prim.Native.Nat.{ℕ}
use Rattle.std.specs.Prelude.{Option, None, Some, is_none}
use Rattle.cluster_states.specs.declared.States.{States}
use Rattle.print_window.specs.Stream.{Turned}
use Rattle.print_pieces.specs.declared.Session.{Session}
use Rattle.print_pieces.specs.declared.Piece.{Piece}
use Rattle.print_pieces.specs.Pieces.{rate, print_of, due, whole, is_begun_if, whole_in, Gives}
use Rattle.print_stream.specs.Stream.{goes_on}

-- one goes on with the session that there is
pub picked : {s r : Option Session} {z : Session} (b : Bool) → r ≡ cond b s None → r ≡ Some z → (b ≡ true) × (s ≡ Some z)
picked true e k = (refl, sym e ∙ k)
picked false e k = absurd (true≢false (ap is_none (sym e ∙ k)))

-- none does
pub stopped : {r : Option Session} (s : Option Session) (ended : Bool) (left : List ℕ) → r ≡ cond (goes_on s ended left) s None → r ≡ None → goes_on s ended left ≡ false
stopped s ended left e k = go s (ended || whole_in (is_begun_if s) left) (sym e ∙ k)
  where
    go : (s : Option Session) (b : Bool) → cond (not (is_none s) && b) s None ≡ None → (not (is_none s) && b) ≡ false
    go None b h = refl
    go (Some z) true h = absurd (true≢false (sym (ap is_none h)))
    go (Some z) false h = refl

-- what its turn gives is of the session that there was
pub turned : {s : Option Session} {z : Session} {x x' : States} {left out out' : List ℕ} {at : ℕ} {p : Piece} → s ≡ Some z → Gives z x left out at out' p x'
    → Turned due whole rate (print_of s x) left out at (print_of p.session x') out' p.taken p.at (is_none p.session)
turned {x = x} {x' = x'} {left = left} {out = out} {out' = out'} {at = at} {p = p} e g =
    subst (λ (t : Option Session). Turned due whole rate (print_of t x) left out at (print_of p.session x') out' p.taken p.at (is_none p.session)) (sym e) g
