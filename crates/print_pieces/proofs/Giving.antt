-- The pieces that the calls give, from what the functions they rest on ensure. Assumes nothing.
use mathlib.Core.Path.{◌≡◌, refl, sym, ap, ap₂, ◌∙◌}
use mathlib.Core.Bool.{Bool, true, false, ◌||◌, false≢true}
use mathlib.Core.List.{List, [], append-nil}
use mathlib.Core.Option.{Option}
use Prim.Native.Nat.{ℕ, suc, ◌+◌, ◌≤◌}
use Rattle.std.specs.Prelude.{None, Some}
use native.Mathlib.Numerals.{add-one}
use native.Mathlib.Omega.{arith}
use lib.ListN.{length, drop}
use Rattle.print_text.specs.Text.{Appended}
use Rattle.print_text.proofs.Appending.{none}
use Rattle.state.specs.declared.Group.{Group}
use Rattle.rules.specs.declared.Config.{Config}
use Rattle.cluster_states.specs.declared.States.{States}
use Rattle.rules.specs.declared.Faults.{Faults}
use Rattle.rules.specs.OneCycle.{config_of}
use Rattle.rules.specs.Reference.{Cluster, beginning, keeps, step, halted_in, entered_in}
use Rattle.table.specs.Records.{count_at, founding_at, start_refusal, cycle_length, cycle_refusal, faults_at}
use Rattle.table.proofs.Laws.{accepted, begins}
use Rattle.cluster_states.specs.States.{row_of}
use Rattle.cluster_watched.specs.Watched.{reference_of, cluster_of}
use Rattle.print_run.specs.Printed.{fields, line, refused_line}
use Rattle.print_run.proofs.Lengths.{fields-length}
use Rattle.print_window.specs.Window.{Shows, Report, preceded, lastly}
use Rattle.print_pieces.specs.declared.Course.{Course}
use Rattle.print_pieces.specs.declared.Session.{Session}
use Rattle.print_pieces.specs.declared.Session.TheVariants.{Fresh, Begun}
use Rattle.print_pieces.specs.declared.Piece.{Piece}
use Rattle.print_pieces.specs.Pieces.{standing, following, opening, remaining, is_begun, whole_in, CourseBegun, Gives}
use Rattle.print_pieces.proofs.Windows.{none_left, seen_end, seen-length, seen-faults, seen-refusal, seen-count, seen-founding, seen_start}
use Rattle.print_pieces.proofs.Following.{following-end, following-refused, following-next, opening-refused, opening-goes}

-- the last piece, and one after which it goes on
abbrev last_at : ℕ → Piece
last_at end = record { session = None; taken = 0; at = end }

abbrev going_at : Course → ℕ → ℕ → Piece
going_at z taken end = record { session = Some (Begun z); taken = taken; at = end }

-- the last piece says the refusal r, if that is all that is left
gives_last : (z : Session) (g : States) (left out : List ℕ) (at : ℕ) (out' : List ℕ) (end r : ℕ) (text : List ℕ) → text ≡ refused_line r
    → Appended out at text out' end
    → ((ended : Bool) → (ended || whole_in (is_begun z) left) ≡ true → (rest : List ℕ) → Shows left ended rest → remaining z g rest ≡ lastly r)
    → Gives z g left out at out' (last_at end) g
gives_last z g left out at out' end r text e a all =
    record {
      text = text;
      appended = a;
      given = λ ended ready. record { lines = []; refusal = r; all = λ rest shows. all ended ready rest shows; is = e };
      within = omega arith;
      moves = λ h. absurd (false≢true (sym h));
    }

-- ---- after the first record

module _ (z : Course) (g : States) (left : List ℕ) where
  follows : (rest : List ℕ) → remaining (Begun z) g rest ≡ following z.config z.cycle (standing z g) rest
  unfolding remaining
  follows rest = refl

  -- at the end of the file
  pub gives-end : (out : List ℕ) (at : ℕ) → at ≤ length out → length left ≡ 0 → Gives (Begun z) g left out at out (last_at at) g
  unfolding refused_line
  gives-end out at h e =
      gives_last (Begun z) g left out at out at 0 [] refl (none out at at h refl)
      (λ ended ready rest shows. follows rest ∙ following-end z.config z.cycle (standing z g) rest (seen_end left rest ended shows ready e))

  -- at a refusal
  pub gives-refused : (out : List ℕ) (at : ℕ) (out' : List ℕ) (end r : ℕ) → (length left ≡ 0 → ⊥)
      → r ≡ cycle_refusal z.config.nodes z.cycle left → (r ≡ 0 → ⊥) → Appended out at (refused_line r) out' end
      → Gives (Begun z) g left out at out' (last_at end) g
  gives-refused out at out' end r some kr refused a =
      gives_last (Begun z) g left out at out' end r (refused_line r) refl a
      (λ ended ready rest shows. follows rest
      ∙ following-refused z.config z.cycle (standing z g) rest r
      (kr ∙ seen-refusal left rest ended shows ready z.config.nodes z.cycle)
      (λ e. some (none_left left rest ended shows e)) refused)

  -- at a cycle, of whose record `taken` is the length, f the faults, and y, h, kept, halted and entered what one cycle under them gives
  module _ (accept : cycle_refusal z.config.nodes z.cycle left ≡ 0) (taken : ℕ) (kt : taken ≡ cycle_length left) (f : Faults)
      (kf : f ≡ faults_at left) (y : Course) (h : States) (kept : Bool) (halted entered : ℕ) (kc : y.config ≡ z.config) (kn : y.cycle ≡ z.cycle + 1)
      (ks : cluster_of z.config.nodes h y.watch ≡ step z.config (standing z g) f)
      (kk : kept ≡ keeps z.config (standing z g) f)
      (kh : halted ≡ halted_in z.config f (row_of z.config.nodes g))
      (ke : entered ≡ entered_in z.config f (row_of z.config.nodes g)) where
    line-is : line z.config z.cycle (standing z g) f ≡ fields z.cycle kept (reference_of y.watch) halted entered
    unfolding line
    line-is =
        ap₂ (λ (b : Bool) (e : Option Group).
        fields z.cycle b e (halted_in z.config f (row_of z.config.nodes g)) (entered_in z.config f (row_of z.config.nodes g)))
        (sym kk) (ap (λ (b : Cluster). b.reference) (sym ks))
        ∙ ap₂ (λ (x y' : ℕ). fields z.cycle kept (reference_of y.watch) x y') (sym kh) (sym ke)

    module _ (ended : Bool) (ready : (ended || whole_in true left) ≡ true) (rest : List ℕ) (shows : Shows left ended rest) where
      faults_are : faults_at rest ≡ f
      faults_are =
          let t = accepted z.config.nodes z.cycle left accept in sym (kf ∙ seen-faults left rest ended shows t.head t.there)

      length-is : cycle_length rest ≡ taken
      length-is = let t = accepted z.config.nodes z.cycle left accept in sym (kt ∙ seen-length left rest ended shows t.head)

      rest-is : following z.config (suc z.cycle) (step z.config (standing z g) f) (drop taken rest) ≡ remaining (Begun y) h (drop taken rest)
      unfolding remaining
      rest-is =
          ap₂ (λ (k : ℕ) (b : Cluster). following z.config k b (drop taken rest)) (sym (kn ∙ add-one z.cycle)) (sym ks)
          ∙ ap (λ (C : Config). following C y.cycle (cluster_of C.nodes h y.watch) (drop taken rest)) (sym kc)

      all-is : remaining (Begun z) g rest ≡ preceded (fields z.cycle kept (reference_of y.watch) halted entered) (remaining (Begun y) h (drop taken rest))
      all-is =
          follows rest
          ∙ following-next z.config z.cycle (standing z g) rest
          (sym (seen-refusal left rest ended shows ready z.config.nodes z.cycle) ∙ accept)
          ∙ ap₂ (λ (c : Faults) (l : ℕ).
          preceded (line z.config z.cycle (standing z g) c) (following z.config (suc z.cycle) (step z.config (standing z g) c) (drop l rest)))
          faults_are length-is
          ∙ ap₂ (λ (t : List ℕ) (r : Report). preceded t r) line-is rest-is

    pub gives-cycle : (out : List ℕ) (at : ℕ) (out' : List ℕ) (end : ℕ) → Appended out at (fields z.cycle kept (reference_of y.watch) halted entered) out' end
        → Gives (Begun z) g left out at out' (going_at y taken end) h
    gives-cycle out at out' end a =
        let t = accepted z.config.nodes z.cycle left accept in
        let l = fields-length z.cycle kept (reference_of y.watch) halted entered in
        record {
          text = fields z.cycle kept (reference_of y.watch) halted entered;
          appended = a;
          given =
              λ ended ready. record {
                lines = fields z.cycle kept (reference_of y.watch) halted entered;
                refusal = 0;
                all = all-is ended ready;
                is = sym (append-nil (fields z.cycle kept (reference_of y.watch) halted entered));
              };
          within = omega (arith, t.there);
          moves = λ h. (omega arith, omega (arith, a.end, l));
        }

-- ---- the first record

module _ (quiet : Bool) (g : States) (left : List ℕ) where
  opens : (rest : List ℕ) → remaining (Fresh quiet) g rest ≡ opening quiet rest
  unfolding remaining
  opens rest = refl

  -- one that is refused
  pub opens-refused : (out : List ℕ) (at : ℕ) (out' : List ℕ) (end r : ℕ) → r ≡ start_refusal false 0 left → (r ≡ 0 → ⊥)
      → Appended out at (refused_line r) out' end → Gives (Fresh quiet) g left out at out' (last_at end) g
  opens-refused out at out' end r kr refused a =
      gives_last (Fresh quiet) g left out at out' end r (refused_line r) refl a
      (λ ended ready rest shows. opens rest ∙ opening-refused quiet rest r (kr ∙ seen_start left rest ended shows ready false 0) refused)

  -- one that is not
  module _ (accept : start_refusal false 0 left ≡ 0) (n founding : ℕ) (kn : n ≡ count_at left) (kf : founding ≡ founding_at left) (y : Course)
      (h : States) (begun : CourseBegun (config_of quiet n) founding y h) where
    abbrev C : Config
    C = config_of quiet n

    begins-as : (rest : List ℕ) → following C 1 (beginning C 0 founding) rest ≡ remaining (Begun y) h rest
    unfolding remaining
    begins-as rest =
        ap (λ (b : Cluster). following C 1 b rest) (sym begun.cluster)
        ∙ ap₂ (λ (D : Config) (k : ℕ). following D k (cluster_of D.nodes h y.watch) rest) (sym begun.config) (sym begun.first)

    pub opens-goes : (out : List ℕ) (at : ℕ) → at ≤ length out → Gives (Fresh quiet) g left out at out (going_at y 12 at) h
    opens-goes out at room =
        let t = begins false 0 left accept in
        record {
          text = [];
          appended = none out at at room refl;
          given =
              λ ended ready. record {
                lines = [];
                refusal = 0;
                all =
                    λ rest shows. opens rest
                    ∙ opening-goes quiet rest (sym (seen_start left rest ended shows ready false 0) ∙ accept)
                    ∙ ap₂ (λ (m f : ℕ). following (config_of quiet m) 1 (beginning (config_of quiet m) 0 f) (drop 12 rest))
                    (sym (kn ∙ seen-count left rest ended shows t.there)) (sym (kf ∙ seen-founding left rest ended shows t.there))
                    ∙ begins-as (drop 12 rest);
                is = refl;
              };
          within = t.there;
          moves = λ h. (omega arith, omega arith);
        }
