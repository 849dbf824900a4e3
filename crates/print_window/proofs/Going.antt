-- What the loop over the records in a window keeps: so far it gave one piece, and whether it goes on. Assumes nothing.
use mathlib.Core.Path.{◌≡◌, refl, sym, ap, ◌∙◌, subst}
use mathlib.Core.Bool.{Bool, true, false, not, ◌&&◌, ◌||◌, cond, true≢false}
use mathlib.Core.List.{List, [], ◌++◌}
use Prim.Native.Nat.{ℕ, ◌+◌, ◌-◌, ◌*◌, ◌≤◌, ◌<◌}
use native.Mathlib.Nat.{sub-zero, mul-zero, mul-add, mul-le-mul_left}
use native.Mathlib.Omega.{arith}
use lib.Dec.{ltb}
use lib.ListN.{length, take, drop, get_or, length-take, length-drop, get_or-eq_default}
use lib.Seq.{length-take-le, drop_at, take-add, get_or-take, get_or-drop}
use borrow.Author.Tests.{ltb-true, ltb-false}
use Rattle.sets.proofs.Booleans.{and_l, and_r, not-e}
use Rattle.parts.specs.Parts.{with_part}
use Rattle.print_text.specs.Text.{Appended}
use Rattle.print_text.proofs.Appending.{room, none, then}
use Rattle.print_window.specs.Window.{Shows, Report, Given}
use Rattle.print_window.specs.Stream.{Turned, Took}
use Rattle.print_window.proofs.Given.{shows_rest, given_then, given-none}

-- what is seen after the first `used` bytes, as `&window[used..have]` has it
abbrev pub left : List ℕ → ℕ → ℕ → List ℕ
left window have used = take (have - used) (drop used window)

left-none : (window : List ℕ) (have : ℕ) → take have window ≡ left window have 0
left-none window have = ap (λ (n : ℕ). take n window) (sym (sub-zero have))

pub left-drop : (window : List ℕ) (have used : ℕ) → used ≤ have → have ≤ length window → drop used (take have window) ≡ left window have used
left-drop window have used h l =
    let parts : have ≡ used + (have - used) = omega arith in
    ap (drop used) (ap (λ (n : ℕ). take n window) parts ∙ take-add used (have - used) window)
    ∙ drop_at (take used window) (left window have used) used (length-take-le used window (omega arith))

pub left-length : (window : List ℕ) (have used : ℕ) → used ≤ have → have ≤ length window → length (left window have used) ≡ have - used
left-length window have used h l = length-take-le (have - used) (drop used window) (omega (arith, length-drop used window))

-- every byte of it is one
left_byte : (window : List ℕ) (have used i : ℕ) → ((j : ℕ) → get_or window j 0 < 256) → get_or (left window have used) i 0 < 256
left_byte window have used i byte = go (ltb i (have - used)) refl
  where
    go : (b : Bool) → ltb i (have - used) ≡ b → get_or (left window have used) i 0 < 256
    go true e =
        subst (λ (x : ℕ). x < 256) (sym (get_or-take (have - used) (drop used window) i 0 (ltb-true i (have - used) e) ∙ get_or-drop used window i 0)) (byte (used + i))
    go false e =
        let out : length (left window have used) ≤ i = omega (arith, ltb-false i (have - used) e, length-take (have - used) (drop used window)) in
        subst (λ (x : ℕ). x < 256) (sym (get_or-eq_default (left window have used) 0 out)) (omega arith)

-- goes on, and so is not over
goes_over : (over ready : Bool) → (not over && ready) ≡ true → over ≡ false
goes_over over ready e = not-e over (and_l (not over) ready e)

stops_waits : (ended whole : Bool) → (not false && (ended || whole)) ≡ false → (ended ≡ false) × (whole ≡ false)
stops_waits true whole e = absurd (true≢false e)
stops_waits false whole e = (refl, e)

-- a loop that goes on while there is a record, or ends: the number that falls
pub falls : Bool → ℕ
falls more = cond more 1 0

-- a stream, in which a rest without a whole record is shorter than the longest, and a record needs room for `most` bytes
module _ {S : Type 0} (due : S → List ℕ → Report) (whole : S → List ℕ → Bool) (longest rate most : ℕ)
    (short : (z : S) (s : List ℕ) → ((i : ℕ) → get_or s i 0 < 256) → whole z s ≡ false → length s < longest) (window : List ℕ) (have : ℕ) (ended : Bool) (z : S)
    (out : List ℕ) (at : ℕ) where
  pub record Going (z' : S) (out' : List ℕ) (used end : ℕ) (over more : Bool) : Type 0 where
    pub text : List ℕ
    pub given : Given (Shows (take have window) ended) (due z) (due z') used over text
    pub written : Appended out at text out' end
    pub within : used ≤ have
    pub room : over ≡ false → end ≤ at + rate * used
    pub goes : more ≡ (not over && (ended || whole z' (left window have used)))

  pub going-none : (more : Bool) → at ≤ length out → more ≡ (not false && (ended || whole z (take have window))) → Going z out 0 at false more
  going-none more h e =
      record {
        text = [];
        given = given-none (Shows (take have window) ended) (due z);
        written = none out at at h refl;
        within = omega arith;
        room = λ k. omega (arith, mul-zero rate);
        goes = e ∙ ap (λ (s : List ℕ). not false && (ended || whole z s)) (left-none window have);
      }

  module _ (z' : S) (out' : List ℕ) (used end : ℕ) (over more : Bool) (fits : have ≤ length window) (i : Going z' out' used end over more) where
    not-over : more ≡ true → over ≡ false
    not-over e = goes_over over (ended || whole z' (left window have used)) (sym i.goes ∙ e)

    ready : more ≡ true → (ended || whole z' (left window have used)) ≡ true
    ready e = and_r (not over) (ended || whole z' (left window have used)) (sym i.goes ∙ e)

    pub has_room : more ≡ true → at + (rate * have + most) ≤ length out → end + most ≤ length out'
    has_room e h = omega (arith, i.room (not-over e), mul-le-mul_left rate i.within, room i.written)

    -- one record more
    module _ (out'' : List ℕ) (z'' : S) (taken end' : ℕ) (over' : Bool) (turn : Turned due whole rate z' (left window have used) out' end z'' out'' taken end' over') where
      pub takes-within : used + taken ≤ have
      takes-within = omega (arith, turn.within, left-length window have used i.within fits, i.within)

      module _ (e : more ≡ true) (more' : Bool) (k : more' ≡ (not over' && (ended || whole z'' (left window have (used + taken))))) where
        pub going_more : Going z'' out'' (used + taken) end' over' more'
        going_more =
            record {
              text = i.text ++ turn.text;
              given =
                  given_then move (subst (λ (b : Bool). Given (Shows (take have window) ended) (due z) (due z') used b i.text) (not-over e) i.given)
                  (turn.given ended (ready e));
              written = then i.written turn.appended;
              within = takes-within;
              room = λ o. omega (arith, i.room (not-over e), (turn.moves o).1, mul-add rate used taken);
              goes = k;
            }
          where
            move : (rest : List ℕ) → Shows (take have window) ended rest → Shows (left window have used) ended (drop used rest)
            move rest s =
                subst (λ (l : List ℕ). Shows l ended (drop used rest)) (left-drop window have used i.within fits)
                (shows_rest used (omega (arith, length-take-le have window fits, i.within)) s)

        -- the records that are left are fewer, or it is over
        pub going_less : (have - (used + taken)) + falls more' < (have - used) + falls more
        unfolding falls
        going_less = subst (λ (b : Bool). (have - (used + taken)) + falls more' < (have - used) + falls b) (sym e) (go over' refl more' k)
          where
            within : used + taken ≤ have
            within = takes-within

            go : (o : Bool) → over' ≡ o → (m : Bool) → m ≡ (not over' && (ended || whole z'' (left window have (used + taken))))
                → (have - (used + taken)) + falls m < (have - used) + 1
            go o ko false km = omega (arith, within)
            go false ko true km = omega (arith, within, (turn.moves ko).0)
            go true ko true km = absurd (true≢false (km ∙ ap (λ (b : Bool). not b && (ended || whole z'' (left window have (used + taken)))) ko))

    -- after the loop, with the rest moved to the front
    pub takes : (window' : List ℕ) (kept : ℕ) → ((j : ℕ) → get_or window j 0 < 256) → more ≡ false → kept ≡ have - used
        → window' ≡ with_part 0 (take kept (drop used window)) window → Took due whole longest z window have ended out at z' window' out' kept end over
    takes window' kept byte e ke kw =
        record {
          taken = used;
          text = i.text;
          given = i.given;
          written = i.written;
          rest = omega (arith, i.within);
          moved = kw;
          waits = λ o.
              let w =
              stops_waits ended (whole z' (left window have used))
              (sym (ap (λ (b : Bool). not b && (ended || whole z' (left window have used))) o) ∙ sym i.goes ∙ e) in (
                w.0,
                ap (λ (n : ℕ). whole z' (take n (drop used window))) ke ∙ w.1,
                omega (arith, short z' (left window have used) (λ j. left_byte window have used j byte) w.1, left-length window have used i.within fits),
              );
        }
