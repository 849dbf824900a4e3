-- What a window shows after some of its bytes are taken; pieces one after the other are one piece. Assumes nothing.
use mathlib.Core.Path.{◌≡◌, refl, sym, ap, ap₂, ◌∙◌}
use mathlib.Core.Bool.{Bool, true, false, cond, true≢false}
use mathlib.Core.List.{List, [], ◌++◌, append_assoc, append-nil}
use Prim.Native.Nat.{ℕ, ◌+◌, ◌≤◌}
use lib.ListN.{length, take, drop, take-append-drop}
use lib.Seq.{take-length, take-append_seam, drop-append-le, drop-drop}
use Rattle.print_run.specs.Printed.{refused_line}
use Rattle.print_window.specs.Window.{Shows, Report, text_of, preceded, lastly, Given}

-- a file that goes on after what is seen, or ends with it
pub shows_front : (seen more : List ℕ) → Shows seen false (seen ++ more)
shows_front seen more = record { front = take-append_seam seen more; whole = λ e. absurd (true≢false (sym e)) }

pub shows_all : (seen : List ℕ) → Shows seen true seen
shows_all seen = record { front = take-length seen; whole = λ e. refl }

-- the file, by what is seen of it and the rest
whole_is : (seen rest : List ℕ) → take (length seen) rest ≡ seen → rest ≡ seen ++ drop (length seen) rest
whole_is seen rest e = sym (take-append-drop (length seen) rest) ∙ ap (λ (l : List ℕ). l ++ drop (length seen) rest) e

-- without the first bytes of both
pub shows_rest : {seen : List ℕ} {ended : Bool} {rest : List ℕ} (at : ℕ) → at ≤ length seen → Shows seen ended rest → Shows (drop at seen) ended (drop at rest)
shows_rest {seen} {ended} {rest} at h shows =
    record {
      front = ap (take (length (drop at seen))) split ∙ take-append_seam (drop at seen) (drop (length seen) rest);
      whole = λ e. ap (drop at) (shows.whole e);
    }
  where
    split : drop at rest ≡ drop at seen ++ drop (length seen) rest
    split = ap (drop at) (whole_is seen rest shows.front) ∙ drop-append-le at seen (drop (length seen) rest) h

pub preceded_twice : (l m : List ℕ) (r : Report) → preceded l (preceded m r) ≡ preceded (l ++ m) r
preceded_twice l m r = ap (λ (t : List ℕ). record { lines = t; refusal = r.refusal }) (sym (append_assoc l m r.lines))

pub text_preceded : (l : List ℕ) (r : Report) → text_of (preceded l r) ≡ l ++ text_of r
text_preceded l r = append_assoc l r.lines (refused_line r.refusal)

-- one piece, and then another that speaks of what the first left
pub given_then : {files : List ℕ → Type 0} {a b : List ℕ → Report} {m : ℕ} {t : List ℕ} {files' : List ℕ → Type 0} {c : List ℕ → Report} {k : ℕ} {over : Bool}
    {u : List ℕ} → ((rest : List ℕ) → files rest → files' (drop m rest)) → Given files a b m false t → Given files' b c k over u
    → Given files a c (m + k) over (t ++ u)
given_then {a = a} {m = m} {t = t} {c = c} {k = k} {over = over} {u = u} move x y =
    record {
      lines = x.lines ++ y.lines;
      refusal = y.refusal;
      all =
          λ rest f. x.all rest f
          ∙ ap (preceded x.lines) (y.all (drop m rest) (move rest f))
          ∙ preceded_twice x.lines y.lines (cond over (lastly y.refusal) (c (drop k (drop m rest))))
          ∙ ap (λ (l : List ℕ). preceded (x.lines ++ y.lines) (cond over (lastly y.refusal) (c l))) (drop-drop k m rest);
      is =
          ap₂ (λ (p q : List ℕ). p ++ q) (x.is ∙ append-nil x.lines) y.is
          ∙ sym (append_assoc x.lines y.lines (cond over (refused_line y.refusal) []));
    }

-- no piece at all
pub given-none : (files : List ℕ → Type 0) (a : List ℕ → Report) → Given files a a 0 false []
given-none files a = record { lines = []; refusal = 0; all = λ rest f. refl; is = refl }
