-- The two theorems of a print in chunks. Assumes nothing.
use mathlib.Core.Path.{◌≡◌, refl, sym, ap, ap₂, ◌∙◌}
use mathlib.Core.Bool.{Bool, true, false, ◌&&◌, true≢false}
use mathlib.Core.List.{List, [], ◌++◌, append-nil}
use Prim.Native.Nat.{ℕ, ◌≤◌}
use lib.Dec.{eqb}
use lib.ListN.{length}
use borrow.Author.Tests.{eqb-true, eqb-false, le-leb}
use Rattle.print_text.proofs.Appending.{front}
use Rattle.table.specs.Records.{start_refusal, cycle_length, cycle_refusal}
use Rattle.table.proofs.Laws.{accepted, begins}
use Rattle.print_run.specs.Printed.{header_line}
use Rattle.print_window.specs.Window.{Report, text_of}
use Rattle.print_window.specs.Chunks.{joined}
use Rattle.print_window.proofs.Chunks.{chunks-give, reached-due, reached-none}
use Rattle.std.specs.Prelude.{Option, None, Some}
use Rattle.cluster_states.specs.declared.States.{States}
use Rattle.print_pieces.specs.declared.Course.{Course}
use Rattle.print_pieces.specs.declared.Session.{Session}
use Rattle.print_pieces.specs.declared.Session.TheVariants.{Fresh, Begun}
use Rattle.print_pieces.specs.Pieces.{following, opening, remaining, remaining_if, is_begun, is_begun_if, whole_in, longest, standing, Print, due, whole}
use Rattle.print_pieces.proofs.Following.{following-end, following-refused, opening-refused, printed-is}
use Rattle.print_stream.specs.declared.Taken.{Taken}
use Rattle.print_stream.specs.Stream.{Begins}
use Rattle.print_stream.specs.Chunks.{begun, first_text, ChunksPrint, FailedPrints}

-- ---- nothing is due of a rest without a whole record but a refusal

whole_if : (s : List ℕ) → 36 ≤ length s → cycle_length s ≤ length s → whole_in true s ≡ true
unfolding whole_in
whole_if s h l = ap₂ (λ (a b : Bool). a && b) (le-leb 36 (length s) h) (le-leb (cycle_length s) (length s) l)

first_if : (s : List ℕ) → 12 ≤ length s → whole_in false s ≡ true
unfolding whole_in
first_if s h = le-leb 12 (length s) h

no_first : (quiet : Bool) (s : List ℕ) → whole_in false s ≡ false → (opening quiet s).lines ≡ []
no_first quiet s w = go (eqb (start_refusal false 0 s) 0) refl
  where
    go : (b : Bool) → eqb (start_refusal false 0 s) 0 ≡ b → (opening quiet s).lines ≡ []
    go true e = absurd (true≢false (sym (first_if s (begins false 0 s (eqb-true (start_refusal false 0 s) 0 e)).there) ∙ w))
    go false e = ap (λ (r : Report). r.lines) (opening-refused quiet s (start_refusal false 0 s) refl (eqb-false (start_refusal false 0 s) 0 e))

module _ (z : Course) (g : States) (s : List ℕ) where
  no-cycle : whole_in true s ≡ false → (following z.config z.cycle (standing z g) s).lines ≡ []
  no-cycle w = go (eqb (length s) 0) refl (eqb (cycle_refusal z.config.nodes z.cycle s) 0) refl
    where
      go : (a : Bool) → eqb (length s) 0 ≡ a → (b : Bool) → eqb (cycle_refusal z.config.nodes z.cycle s) 0 ≡ b
          → (following z.config z.cycle (standing z g) s).lines ≡ []
      go true ea b eb = ap (λ (r : Report). r.lines) (following-end z.config z.cycle (standing z g) s (eqb-true (length s) 0 ea))
      go false ea true eb =
          let t = accepted z.config.nodes z.cycle s (eqb-true (cycle_refusal z.config.nodes z.cycle s) 0 eb) in
          absurd (true≢false (sym (whole_if s t.head t.there) ∙ w))
      go false ea false eb =
          ap (λ (r : Report). r.lines)
          (following-refused z.config z.cycle (standing z g) s (cycle_refusal z.config.nodes z.cycle s) refl (eqb-false (length s) 0 ea)
          (eqb-false (cycle_refusal z.config.nodes z.cycle s) 0 eb))

none-due : (p : Print) (s : List ℕ) → whole p s ≡ false → (due p s).lines ≡ []
unfolding remaining
none-due p s = go p.session
  where
    of : (z : Session) → whole_in (is_begun z) s ≡ false → (remaining z p.states s).lines ≡ []
    of (Fresh quiet) e = no_first quiet s e
    of (Begun z) e = no-cycle z p.states s e

    go : (z : Option Session) → whole_in (is_begun_if z) s ≡ false → (remaining_if z p.states s).lines ≡ []
    go None e = refl
    go (Some z) e = of z e

-- ---- the whole

module _ (quiet : Bool) (out out' : List ℕ) (r : Taken) (g : States) (b : Begins quiet out out' r) where
  first-is : first_text out' r ≡ header_line
  first-is = front b.header

  all-due : (s : List ℕ) → due (begun r g) s ≡ opening quiet s
  unfolding remaining
  all-due s = ap (λ (z : Option Session). remaining_if z g s) b.fresh

pub chunks_print : ChunksPrint
chunks_print quiet out out' r g chunks t b calls =
    ap₂ (λ (h l : List ℕ). h ++ l) (first-is quiet out out' r g b)
    (sym (chunks-give due whole longest calls) ∙ ap (λ (d : Report). text_of d) (all-due quiet out out' r g b (joined chunks)))
    ∙ sym (printed-is quiet (joined chunks))

pub failed_prints : FailedPrints
unfolding whole_in
failed_prints quiet out out' r g chunks s kept t b calls =
    ap₂ (λ (h l : List ℕ). h ++ l) (first-is quiet out out' r g b)
    (sym (append-nil t)
    ∙ ap (λ (l : List ℕ). t ++ l) (sym (none-due s kept (reached-none due whole longest fresh calls)))
    ∙ ap (λ (d : Report). d.lines) (sym (reached-due due whole longest calls) ∙ all-due quiet out out' r g b (joined chunks)))
  where
    fresh : whole_in (is_begun_if r.session) [] ≡ false
    fresh = ap (λ (z : Option Session). whole_in (is_begun_if z) []) b.fresh
