-- A stream whose calls give pieces of what is due gives, over the chunks of a file, what is due of the file. Assumes nothing.
use mathlib.Core.Path.{◌≡◌, refl, sym, ap, ap₂, ◌∙◌, subst}
use mathlib.Core.Bool.{Bool, true, false}
use mathlib.Core.List.{List, [], ◌∷◌, ◌++◌, append_assoc, append-nil}
use Prim.Native.Nat.{ℕ, ◌+◌, ◌-◌, ◌≤◌}
use native.Mathlib.Omega.{arith}
use lib.Dec.{eqb}
use lib.ListN.{length, take, drop, length-append}
use lib.Seq.{length-take-le, drop_at, drop-append-le}
use borrow.Author.Tests.{ne_eqb, eqb-false}
use Rattle.parts.proofs.Laws.{part-front}
use Rattle.print_text.specs.Text.{Appended}
use Rattle.print_text.proofs.Appending.{front, inside}
use Rattle.print_run.specs.Printed.{refused_line}
use Rattle.print_window.specs.Window.{Shows, Report, text_of, preceded, Given}
use Rattle.print_window.specs.Stream.{Called}
use Rattle.print_window.specs.Chunks.{joined, Streamed, Reached}
use Rattle.print_window.proofs.Given.{shows_front, shows_all, text_preceded, preceded_twice}
use Rattle.print_window.proofs.Going.{left-drop, left-length}

-- a call in state z, with the bytes kept and then those read in the window, that gives a text, keeps the bytes that it did not take, and leaves the state z'
record GivenOn {S : Type 0} (due : S → List ℕ → Report) (z : S) (kept read : List ℕ) (z' : S) (kept' : List ℕ) (over : Bool) (text : List ℕ) : Type 0 where
  pub taken : ℕ
  pub within : taken ≤ length (kept ++ read)
  pub given : Given (Shows (kept ++ read) (eqb (length read) 0)) (due z) (due z') taken over text
  pub rest : kept' ≡ drop taken (kept ++ read)

-- ---- what the calls on the chunks of a file give

module _ {S : Type 0} (due : S → List ℕ → Report) where
  -- a call on a chunk, of any file that goes on with it
  on-chunk : (kept chunk more : List ℕ) → (length chunk ≡ 0 → ⊥) → Shows (kept ++ chunk) (eqb (length chunk) 0) (kept ++ (chunk ++ more))
  on-chunk kept chunk more some =
      subst (λ (b : Bool). Shows (kept ++ chunk) b (kept ++ (chunk ++ more))) (sym (ne_eqb (length chunk) 0 some))
      (subst (Shows (kept ++ chunk) false) (append_assoc kept chunk more) (shows_front (kept ++ chunk) more))

  goes_on : {z z' : S} {kept chunk kept' t : List ℕ} (more : List ℕ) → (length chunk ≡ 0 → ⊥) → GivenOn due z kept chunk z' kept' false t
      → due z (kept ++ (chunk ++ more)) ≡ preceded t (due z' (kept' ++ more))
  goes_on {z' = z'} {kept = kept} {chunk = chunk} {kept' = kept'} {t = t} more some c =
      c.given.all (kept ++ (chunk ++ more)) (on-chunk kept chunk more some)
      ∙ ap₂ (λ (l r : List ℕ). preceded l (due z' r)) (sym (c.given.is ∙ append-nil c.given.lines))
      (ap (drop c.taken) (sym (append_assoc kept chunk more))
      ∙ drop-append-le c.taken (kept ++ chunk) more c.within
      ∙ ap (λ (l : List ℕ). l ++ more) (sym c.rest))

  is-over : {z z' : S} {kept read kept' t : List ℕ} (rest : List ℕ) → Shows (kept ++ read) (eqb (length read) 0) rest → GivenOn due z kept read z' kept' true t
      → text_of (due z rest) ≡ t
  is-over rest shows c =
      ap (λ (r : Report). text_of r) (c.given.all rest shows)
      ∙ ap (λ (l : List ℕ). l ++ refused_line c.given.refusal) (append-nil c.given.lines)
      ∙ sym c.given.is

-- the bytes that an append says are to be written are its text
text_is : {out : List ℕ} {at : ℕ} {t out' : List ℕ} {end : ℕ} → Appended out at t out' end → take (end - at) (drop at out') ≡ t
text_is {out} {at} {t} {out'} {end} a =
    sym (left-drop out' end at (omega (arith, a.end)) (inside a))
    ∙ ap (drop at) (front a)
    ∙ drop_at (take at out) t at (length-take-le at out (omega (arith, a.end, a.within)))

module _ {S : Type 0} (due : S → List ℕ → Report) (whole : S → List ℕ → Bool) (longest : ℕ) where
  -- one call
  module _ (z z' : S) (kept read kept' t : List ℕ) (over : Bool) (c : Called due whole longest z kept read z' kept' over t) where
    have : ℕ
    have = length kept + length read

    taken-within : c.took.taken ≤ have
    unfolding have
    taken-within = omega (arith, c.took.rest)

    count-is : c.count ≡ have - c.took.taken
    unfolding have
    count-is = omega (arith, c.took.rest)

    -- what it keeps stands in the front of the window, and is what it did not take
    kept-is : kept' ≡ take c.count (drop c.took.taken c.window)
    unfolding have
    kept-is =
        let part = take c.count (drop c.took.taken c.window) in
        let long : length part ≡ c.count =
        ap (λ (n : ℕ). length (take n (drop c.took.taken c.window))) count-is ∙ left-length c.window have c.took.taken taken-within c.fits ∙ sym count-is in
        let place : c.count ≡ 0 + length part = omega (arith, long) in
        c.keeps
        ∙ ap₂ take place c.took.moved
        ∙ part-front 0 part c.window (omega (arith, long, c.fits, c.took.rest))

    part-is : take c.count (drop c.took.taken c.window) ≡ drop c.took.taken (kept ++ read)
    unfolding have
    part-is =
        ap (λ (n : ℕ). take n (drop c.took.taken c.window)) count-is
        ∙ sym (left-drop c.window have c.took.taken taken-within c.fits)
        ∙ ap (drop c.took.taken) c.shown

    told : GivenOn due z kept read z' kept' over t
    unfolding have
    told =
        record {
          taken = c.took.taken;
          within = omega (arith, taken-within, length-append kept read);
          given =
              subst (λ (l : List ℕ). Given (Shows (kept ++ read) (eqb (length read) 0)) (due z) (due z') c.took.taken over l)
              (sym (c.says ∙ text_is c.took.written))
              (subst (λ (l : List ℕ). Given (Shows l (eqb (length read) 0)) (due z) (due z') c.took.taken over c.took.text) c.shown c.took.given);
          rest = kept-is ∙ part-is;
        }

    -- if it is not over, it keeps no whole record
    keeps-none : over ≡ false → whole z' kept' ≡ false
    keeps-none o = ap (whole z') kept-is ∙ (c.took.waits o).1

    -- and was made on some bytes
    pub some_read : over ≡ false → length read ≡ 0 → ⊥
    some_read o = eqb-false (length read) 0 (c.took.waits o).0

  pub chunks-give : {z : S} {kept t : List ℕ} {chunks : List (List ℕ)} → Streamed (Called due whole longest) z kept chunks t
      → text_of (due z (kept ++ joined chunks)) ≡ t
  unfolding joined
  chunks-give (Streamed.goes {z' = z'} {kept' = kept'} {t = t} {chunks = chunks} some call rest) =
      ap (λ (r : Report). text_of r) (goes_on due (joined chunks) some (told _ _ _ _ _ _ _ call))
      ∙ text_preceded t (due z' (kept' ++ joined chunks))
      ∙ ap (λ (l : List ℕ). t ++ l) (chunks-give rest)
  chunks-give (Streamed.stops {kept = kept} {chunk = chunk} {chunks = chunks} some call) =
      is-over due (kept ++ (chunk ++ joined chunks)) (on-chunk due kept chunk (joined chunks) some) (told _ _ _ _ _ _ _ call)
  chunks-give (Streamed.ends {kept = kept} call) = is-over due (kept ++ []) (shows_all (kept ++ [])) (told _ _ _ _ _ _ _ call)

  -- as if the file ended after the chunks
  pub reached-due : {z z' : S} {kept kept' t : List ℕ} {chunks : List (List ℕ)} → Reached (Called due whole longest) z kept chunks z' kept' t
      → due z (kept ++ joined chunks) ≡ preceded t (due z' kept')
  unfolding joined
  reached-due (Reached.here {z = z} {kept = kept}) = ap (due z) (append-nil kept)
  reached-due (Reached.goes {z'' = z''} {kept'' = kept''} {t = t} {u = u} {chunks = chunks} some call rest) =
      goes_on due (joined chunks) some (told _ _ _ _ _ _ _ call)
      ∙ ap (preceded t) (reached-due rest)
      ∙ preceded_twice t u (due z'' kept'')

  -- and no whole record is kept then
  pub reached-none : {z z' : S} {kept kept' t : List ℕ} {chunks : List (List ℕ)} → whole z kept ≡ false → Reached (Called due whole longest) z kept chunks z' kept' t
      → whole z' kept' ≡ false
  reached-none w Reached.here = w
  reached-none w (Reached.goes some call rest) = reached-none (keeps-none _ _ _ _ _ _ _ call refl) rest

-- ---- one call more, after those on some chunks

module _ {S : Type 0} {Called : S → List ℕ → List ℕ → S → List ℕ → Bool → List ℕ → Type 0} where
  pub reached-more : {a b c : S} {kept kept' kept'' chunk t u : List ℕ} {chunks : List (List ℕ)} → Reached Called a kept chunks b kept' t → (length chunk ≡ 0 → ⊥)
      → Called b kept' chunk c kept'' false u → Reached Called a kept (chunks ++ (chunk ∷ [])) c kept'' (t ++ u)
  reached-more {c = c} {kept'' = kept''} {chunk = chunk} {u = u} (Reached.here {kept = kept}) some call =
      subst (Reached Called _ kept (chunk ∷ []) c kept'') (append-nil u) (Reached.goes some call Reached.here)
  reached-more {c = c} {kept'' = kept''} {chunk = chunk} {u = u} (Reached.goes {kept = kept} {chunk = first} {t = t} {u = v} {chunks = chunks} more before rest) some call =
      subst (Reached Called _ kept (first ∷ (chunks ++ (chunk ∷ []))) c kept'') (sym (append_assoc t v u)) (Reached.goes more before (reached-more rest some call))

  pub reached-stops : {a b c : S} {kept kept' kept'' chunk t u : List ℕ} {chunks : List (List ℕ)} → Reached Called a kept chunks b kept' t → (length chunk ≡ 0 → ⊥)
      → Called b kept' chunk c kept'' true u → Streamed Called a kept (chunks ++ (chunk ∷ [])) (t ++ u)
  reached-stops Reached.here some call = Streamed.stops some call
  reached-stops {chunk = chunk} {u = u} (Reached.goes {kept = kept} {chunk = first} {t = t} {u = v} {chunks = chunks} more before rest) some call =
      subst (Streamed Called _ kept (first ∷ (chunks ++ (chunk ∷ [])))) (sym (append_assoc t v u)) (Streamed.goes more before (reached-stops rest some call))

  pub reached-ends : {a b c : S} {kept kept' kept'' t u : List ℕ} {chunks : List (List ℕ)} → Reached Called a kept chunks b kept' t
      → Called b kept' [] c kept'' true u → Streamed Called a kept chunks (t ++ u)
  reached-ends Reached.here call = Streamed.ends call
  reached-ends {u = u} (Reached.goes {kept = kept} {chunk = first} {t = t} {u = v} {chunks = chunks} more before rest) call =
      subst (Streamed Called _ kept (first ∷ chunks)) (sym (append_assoc t v u)) (Streamed.goes more before (reached-ends rest call))
