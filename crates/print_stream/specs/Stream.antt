-- What the calls of a printed run give and leave.
-- Assumes nothing.
use Rattle.std.specs.Prelude.{◌≡◌, Bool, not, ◌&&◌, ◌||◌, List, ℕ, Option, Some, is_none}
use Rattle.print_text.specs.Text.{Appended}
use Rattle.print_run.specs.Printed.{header_line}
use Rattle.cluster_states.specs.declared.States.{States}
use Rattle.print_window.specs.Stream.{Took}
use Rattle.print_pieces.specs.declared.Session.{Session}
use Rattle.print_pieces.specs.declared.Session.TheVariants.{Fresh}
use Rattle.print_pieces.specs.Pieces.{longest, print_of, due, whole, is_begun_if, whole_in}
use Rattle.print_stream.specs.declared.Taken.{Taken}

-- whether a call was the last
abbrev pub is_over : Taken → Bool
is_over r = is_none r.session

-- whether a session can take a record
abbrev pub goes_on : Option Session → Bool → List ℕ → Bool
goes_on z ended left = not (is_none z) && (ended || whole_in (is_begun_if z) left)

-- the beginning r of a print in a mode, which makes the buffer `out` to `out'`
pub record Begins (quiet : Bool) (out out' : List ℕ) (r : Taken) : Type 0 where
  pub fresh : r.session ≡ Some (Fresh quiet)
  pub header : Appended out 0 header_line out' r.at
  pub none : r.kept ≡ 0

-- A call r of a session z with the states g, on the first `have` bytes of a window; it leaves the states g'.
abbrev pub Takes : Session → States → List ℕ → ℕ → Bool → List ℕ → ℕ → List ℕ → List ℕ → Taken → States → Type 0
Takes z g window have ended out at window' out' r g' = Took due whole longest (print_of (Some z) g) window have ended out at (print_of r.session g') window' out' r.kept r.at (is_over r)
