-- A read and the call on what it brought are one call of the stream; and what a run has come to, after one more. Assumes nothing.
use mathlib.Core.Path.{◌≡◌, refl, sym, ap, ap₂, ◌∙◌, subst}
use mathlib.Core.Bool.{Bool, true, false, ◌||◌, true≢false}
use mathlib.Core.List.{List, [], ◌∷◌, ◌++◌}
use Prim.Native.Nat.{ℕ, ◌+◌, ◌-◌, ◌*◌, ◌≤◌}
use native.Mathlib.Omega.{arith}
use lib.Dec.{eqb}
use lib.ListN.{length, take, drop, length-drop, length-append}
use lib.Seq.{length-take-le, take-add}
use borrow.Author.Tests.{eqb-true, eqb-false}
use Rattle.sets.proofs.Booleans.{or_f_l, or_f_r}
use Rattle.print_run.proofs.Lengths.{header-length}
use Rattle.print_window.specs.Stream.{Took}
use Rattle.print_window.specs.Chunks.{Streamed, Reached}
use Rattle.print_window.proofs.Chunks.{some_read, reached-more, reached-stops, reached-ends}
use Rattle.print_pieces.specs.declared.Session.{Session}
use Rattle.std.specs.Prelude.{Option, None, Some, is_none, is_some, IsSome}
use Rattle.cluster_states.specs.declared.States.{States}
use Rattle.print_pieces.specs.Pieces.{longest, Print, print_of, due, whole}
use Rattle.print_stream.specs.declared.Taken.{Taken}
use Rattle.print_stream.specs.Stream.{Begins, is_over, Takes}
use Rattle.print_stream.specs.Chunks.{Calls, begun}
use Rattle.print_program.specs.declared.Run.{Run}
use Rattle.print_program.specs.Run.{Ready, stands, kept_in, Goes, Along, has_ended, Ended, Prints}

-- `input` is the window before the read, and `mid` after it
module _ (z : Session) (s : Option Session) (same-session : s ≡ Some z) (g g' : States) (input mid : List ℕ) (kept more : ℕ) (out : List ℕ) (at : ℕ) (window' out' : List ℕ) (t : Taken)
    (stays : take kept mid ≡ take kept input) (fits : kept + more ≤ length mid) (same : length mid ≡ length input)
    (took : Takes z g mid (kept + more) (eqb more 0) out at window' out' t g') where
  front_length : length (take kept input) ≡ kept
  front_length = length-take-le kept input (omega arith)

  read_length : length (take more (drop kept mid)) ≡ more
  read_length = length-take-le more (drop kept mid) (omega (arith, length-drop kept mid))

  -- the call on n bytes of the window, of which the last m were read
  Tells : Option Session → ℕ → ℕ → Type 0
  Tells x n m = Took due whole longest (print_of x g) mid n (eqb m 0) out at (print_of t.session g') window' out' t.kept t.at (is_over t)

  pub called : Calls (print_of s g) (take kept input) (take more (drop kept mid)) (print_of t.session g') (take t.kept window') (is_over t) (take (t.at - at) (drop at out'))
  unfolding Tells
  called =
      record {
        window = mid;
        out = out;
        at = at;
        window' = window';
        out' = out';
        count = t.kept;
        end = t.at;
        fits = omega (arith, front_length, read_length);
        shown = ap (λ (n : ℕ). take n mid) have ∙ take-add kept more mid ∙ ap (λ (l : List ℕ). l ++ take more (drop kept mid)) stays;
        took =
            subst (λ (n : ℕ). Tells s n (length (take more (drop kept mid)))) (sym have)
            (subst (λ (m : ℕ). Tells s (kept + more) m) (sym read_length) (subst (λ (x : Option Session). Tells x (kept + more) more) (sym same-session) took));
        keeps = refl;
        says = refl;
      }
    where
      have : length (take kept input) + length (take more (drop kept mid)) ≡ kept + more
      have = ap₂ (λ (a b : ℕ). a + b) front_length read_length

-- ---- a session that is there

there : {s : Option Session} {z : Session} → s ≡ Some z → IsSome s
there e = ap is_some e

pub still : (s : Option Session) → is_none s ≡ false → IsSome s
still None e = absurd (true≢false e)
still (Some z) e = refl

-- ---- a run that begins

module _ (quiet : Bool) (out out' : List ℕ) (r : Taken) (input : List ℕ) (b : Begins quiet out out' r) where
  pub begins-along : (g : States) → Along quiet (record { last = r; reads = 0; unread = false; lost = false }) g input
  begins-along g =
      record {
        out = out;
        out' = out';
        first = r;
        founded = g;
        begins = b;
        chunks = [];
        text = [];
        goes = λ o. subst (λ (n : ℕ). Reached Calls (begun r g) [] [] (begun r g) (take n input) []) (sym b.none) Reached.here;
        over = λ o. absurd (true≢false (sym o ∙ ap is_none b.fresh));
        counted = λ u o. refl;
      }

  pub begins-ready : longest ≤ length input → 39 + (3 * length input + 128) ≤ length out' → Ready input out' r
  begins-ready wide room =
      record { few = omega (arith, b.none); wide = wide; room = omega (arith, b.header.end, header-length); going = there b.fresh }

-- ---- a run that has not ended

pub going : (r : Run) → has_ended r ≡ false → (is_over r.last ≡ false) × (r.reads ≡ 18446744073709551615 → ⊥) × (r.unread ≡ false)
unfolding has_ended
going r e =
    let rest = or_f_r (is_over r.last) (r.unread || (r.lost || eqb r.reads 18446744073709551615)) e in
    let last = or_f_r r.lost (eqb r.reads 18446744073709551615) (or_f_r r.unread (r.lost || eqb r.reads 18446744073709551615) rest) in
    (or_f_l (is_over r.last) (r.unread || (r.lost || eqb r.reads 18446744073709551615)) e, eqb-false r.reads 18446744073709551615 last, or_f_l r.unread (r.lost || eqb r.reads 18446744073709551615) rest)

-- ---- a run, after one more read

module _ (quiet : Bool) (r : Run) (g : States) (input : List ℕ) (q : Run) (g' : States) (input' out' : List ℕ) (goes : Goes r g input q g' input' out')
    (along : Along quiet r g input) (on : is_over r.last ≡ false) (heard : r.unread ≡ false) (more : q.reads ≡ r.reads + 1) where
  before : Reached Calls (begun along.first along.founded) [] along.chunks (stands r g) (kept_in r input) along.text
  before = along.goes on

  -- with the chunks and the text that the run has come to
  come : (chunks : List (List ℕ)) (text : List ℕ)
      → (is_over q.last ≡ false → Reached Calls (begun along.first along.founded) [] chunks (stands q g') (kept_in q input') text)
      → (is_over q.last ≡ true → Streamed Calls (begun along.first along.founded) [] chunks text)
      → (q.unread ≡ false → is_over q.last ≡ false → q.reads ≡ length chunks) → Along quiet q g' input'
  come chunks text going over counted =
      record {
        out = along.out;
        out' = along.out';
        first = along.first;
        founded = along.founded;
        begins = along.begins;
        chunks = chunks;
        text = text;
        goes = going;
        over = over;
        counted = counted;
      }

  failed : q.unread ≡ true → Along quiet q g' input'
  failed e =
      let f = goes.fails e in
      come along.chunks along.text
      (λ o. subst (λ (b : Print). Reached Calls (begun along.first along.founded) [] along.chunks b (kept_in q input') along.text) (sym f.0)
      (subst (λ (l : List ℕ). Reached Calls (begun along.first along.founded) [] along.chunks (stands r g) l along.text) (sym f.1) before))
      (λ o. absurd (true≢false (sym o ∙ f.2 ∙ on)))
      (λ u o. absurd (true≢false (sym e ∙ u)))

  module _ (read text : List ℕ) where
    one : (over : Bool) → is_over q.last ≡ over → Calls (stands r g) (kept_in r input) read (stands q g') (kept_in q input') over text → Along quiet q g' input'
    one false e c =
        come (along.chunks ++ (read ∷ [])) (along.text ++ text) (λ o. reached-more before (some_read due whole longest _ _ _ _ _ _ _ c refl) c) (λ o. absurd (true≢false (sym o ∙ e)))
        (λ u o. let n = along.counted heard on in let l = length-append along.chunks (read ∷ []) in omega (arith, n, l, more))
    one true e c = go (eqb (length read) 0) refl
      where
        go : (b : Bool) → eqb (length read) 0 ≡ b → Along quiet q g' input'
        go false k =
            come (along.chunks ++ (read ∷ [])) (along.text ++ text) (λ o. absurd (true≢false (sym e ∙ o)))
            (λ o. reached-stops before (eqb-false (length read) 0 k) c) (λ u o. absurd (true≢false (sym e ∙ o)))
        go true k =
            come along.chunks (along.text ++ text) (λ o. absurd (true≢false (sym e ∙ o))) (λ o. reached-ends before (empty read (eqb-true (length read) 0 k) c)) (λ u o. absurd (true≢false (sym e ∙ o)))
          where
            empty : (l : List ℕ) → length l ≡ 0 → Calls (stands r g) (kept_in r input) l (stands q g') (kept_in q input') true text
                → Calls (stands r g) (kept_in r input) [] (stands q g') (kept_in q input') true text
            empty [] h d = d
            empty (x ∷ l) h d = absurd (omega arith)

  pub goes-along : Along quiet q g' input'
  goes-along = go q.unread refl
    where
      go : (b : Bool) → q.unread ≡ b → Along quiet q g' input'
      go true e = failed e
      go false e = let c = goes.calls e in one c.0 c.1 (is_over q.last) refl c.2

-- ---- a run that has ended, in a mode by another name

pub prints_in : {quiet mode : Bool} {r : Run} {g : States} {input : List ℕ} → quiet ≡ mode → Ended quiet r g input → Prints mode r
prints_in {quiet} {mode} {r} {g} {input} e ended = (g, input, subst (λ (m : Bool). Ended m r g input) e ended)
