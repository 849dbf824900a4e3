-- What the absence of refusals 5 to 9 says of a frame, and what shows it. Assumes nothing.
use mathlib.Core.Path.{◌≡◌, refl, ap, ◌∙◌}
use mathlib.Core.Bool.{Bool, true, false, ◌&&◌, cond}
use mathlib.Core.List.{List, []}
use Prim.Native.Nat.{ℕ, ◌+◌, ◌-◌, ◌*◌, ◌/◌, ◌%◌, ◌^◌, ◌≤◌, ◌<◌}
use native.Mathlib.Nat.{mod-lt}
use native.Mathlib.Omega.{arith}
use lib.Dec.{eqb, ltb, lit<}
use lib.ListN.{length, take}
use borrow.Author.Tests.{eqb-true, eqb-false, eq-eqb, le-ltb, not-true, not-false}
use Rattle.std.specs.Prelude.{Option, None, Some, Result, Ok, Err}
use Rattle.sets.proofs.Booleans.{and_l, and_r, or_f_r}
use Rattle.bigendian.specs.BigEndian.{number_at}
use Rattle.crc.specs.Crc.{header_check, frame_check, channel_start}
use Rattle.frames.specs.declared.Fault.{Fault}
use Rattle.frames.specs.declared.Fault.TheVariants.{Length, HeaderCheck, FrameCheck, NullFrame, NotDue}
use Rattle.frames.specs.declared.Kind.TheVariants as kind
use Rattle.frames.specs.Read.{reserved_of, preamble_of, null_of, sync_of, startup_of, number_of, words_of, check_of, cycle_of, wrong_length, wrong_header, wrong_frame, is_null, is_due, heartbeat_words, vote_words, fault_of, heartbeat_unless, read_heartbeat, vote_unless, read_vote}
use Rattle.frames.specs.Looked.{looked, words_due, indicators_of, due_fault}

-- ---- the reader's own answer

pub looked_refused : (o : Option Fault) {l : Result (Unit {0}) Fault} {f : Fault} → l ≡ looked o → l ≡ Err f → o ≡ Some f
looked_refused None e r = absurd (let z : ◌≡◌ {A = ℕ} 0 1 = cc in omega arith)
looked_refused (Some g) e r = cc

pub looked-due : (o : Option Fault) {l : Result (Unit {0}) Fault} → l ≡ looked o → l ≡ Ok tt → o ≡ None
looked-due None e d = refl
looked-due (Some g) e d = absurd (let z : ◌≡◌ {A = ℕ} 0 1 = cc in omega arith)

-- ---- a frame with none of refusals 5 to 9

-- four tests that all pass, and five
all_four : (a b c d : Bool) → (a && b && c && d) ≡ true → (a ≡ true) × (b ≡ true) × (c ≡ true) × (d ≡ true)
all_four a b c d h =
    let h3 = and_l (a && b && c) d h in
    let h2 = and_l (a && b) c h3 in
    (and_l a b h2, and_r a b h2, and_r (a && b) c h3, and_r (a && b && c) d h)

pub all_five : (a b c d e : Bool) → (a && b && c && d && e) ≡ true → (a ≡ true) × (b ≡ true) × (c ≡ true) × (d ≡ true) × (e ≡ true)
all_five a b c d e h =
    let p = all_four a b c d (and_l (a && b && c && d) e h) in
    (p.0, p.1, p.2, p.3, and_r (a && b && c && d) e h)

bit : (x : ℕ) → (x % 2 ≡ 0 → ⊥) → x % 2 ≡ 1
bit x h = omega arith

pub record Clean (number cycle : ℕ) (words indicators : Bool) (channel : ℕ) (s : List ℕ) : Type 0 where
  pub sized : length s ≡ 8 + 2 * words_of s
  pub checked : check_of s ≡ header_check (sync_of s) (startup_of s) (number_of s) (words_of s)
  pub framed : number_at s (length s - 3) 3 ≡ frame_check (channel_start channel) (take (length s - 3) s)
  pub sent : null_of s ≡ 1
  pub reserved : reserved_of s ≡ 0
  pub preamble : preamble_of s ≡ 0
  pub numbered : number_of s ≡ number
  pub counted : cycle_of s ≡ cycle
  pub worded : words ≡ true
  pub indicated : indicators ≡ true

-- the five tests of `fault_of`, all passed
none_passed : (a b c d e : Bool)
    → cond a (Some Length) (cond b (Some HeaderCheck) (cond c (Some FrameCheck) (cond d (Some NullFrame) (cond e None (Some NotDue))))) ≡ None
    → (a ≡ false) × (b ≡ false) × (c ≡ false) × (d ≡ false) × (e ≡ true)
none_passed true b c d e h = absurd (let z : ◌≡◌ {A = ℕ} 0 1 = cc in omega arith)
none_passed false true c d e h = absurd (let z : ◌≡◌ {A = ℕ} 0 1 = cc in omega arith)
none_passed false false true d e h = absurd (let z : ◌≡◌ {A = ℕ} 0 1 = cc in omega arith)
none_passed false false false true e h = absurd (let z : ◌≡◌ {A = ℕ} 0 1 = cc in omega arith)
none_passed false false false false true h = (refl, refl, refl, refl, refl)
none_passed false false false false false h = absurd (let z : ◌≡◌ {A = ℕ} 0 1 = cc in omega arith)

module _ (number cycle : ℕ) (words indicators : Bool) (channel : ℕ) (s : List ℕ) where
  pub clean : fault_of number cycle words indicators channel s ≡ None → Clean number cycle words indicators channel s
  unfolding fault_of wrong_length wrong_header wrong_frame is_null is_due
  clean e =
      let p = none_passed (wrong_length s) (wrong_header s) (wrong_frame channel s) (is_null s) (is_due number cycle s && words && indicators) e in
      let w = and_l (is_due number cycle s && words) indicators p.4 in
      let d =
      all_four
      (eqb (reserved_of s) 0)
      (eqb (preamble_of s) 0)
      (eqb (number_of s) number)
      (eqb (cycle_of s) cycle)
      (and_l (is_due number cycle s) words w) in
      record {
        sized = eqb-true _ _ (not-false _ (or_f_r (ltb (length s) 8) _ p.0));
        checked = eqb-true _ _ (not-false _ p.1);
        framed = eqb-true _ _ (not-false _ p.2);
        sent = bit (number_at s 0 5 / 2 ^ 37) (eqb-false _ _ p.3);
        reserved = eqb-true _ _ d.0;
        preamble = eqb-true _ _ d.1;
        numbered = eqb-true _ _ d.2;
        counted = eqb-true _ _ d.3;
        worded = and_r (is_due number cycle s) words w;
        indicated = and_r (is_due number cycle s && words) indicators p.4;
      }

  pub clean-none : Clean number cycle words indicators channel s → fault_of number cycle words indicators channel s ≡ None
  unfolding fault_of wrong_length wrong_header wrong_frame is_null is_due
  clean-none c =
      let l : 8 ≤ length s = let h = c.sized in omega arith in
      let n : eqb (null_of s) 0 ≡ false = rw c.sent in
      simp (le-ltb (length s) 8 l, eq-eqb _ _ c.sized, eq-eqb _ _ c.checked, eq-eqb _ _ c.framed, n, eq-eqb _ _ c.reserved, eq-eqb _ _ c.preamble, eq-eqb _ _ c.numbered, eq-eqb _ _ c.counted, c.worded, c.indicated)

-- ---- each refusal, after the tests of those below it

module _ (number cycle : ℕ) (words indicators : Bool) (channel : ℕ) (s : List ℕ) where
  pub by_length : wrong_length s ≡ true → fault_of number cycle words indicators channel s ≡ Some Length
  unfolding fault_of
  by_length l = rw l

  pub by-header : wrong_length s ≡ false → wrong_header s ≡ true → fault_of number cycle words indicators channel s ≡ Some HeaderCheck
  unfolding fault_of
  by-header l h = rw (l, h)

  module _ (l : wrong_length s ≡ false) (h : wrong_header s ≡ false) where
    pub by-frame : wrong_frame channel s ≡ true → fault_of number cycle words indicators channel s ≡ Some FrameCheck
    unfolding fault_of
    by-frame f = rw (l, h, f)

    pub by-due : wrong_frame channel s ≡ false → fault_of number cycle words indicators channel s ≡ due_fault number cycle words indicators s
    unfolding fault_of due_fault
    by-due f = rw (l, h, f)

-- ---- the readers of heartbeats and votes, by the fault

module _ (q cycle channel : ℕ) (s : List ℕ) where
  abbrev pub heartbeat_fault : Option Fault
  heartbeat_fault = fault_of (q + 1) cycle (words_due kind.Heartbeat s) (indicators_of kind.Heartbeat s) channel s

  pub heartbeat-read : (quiet : Bool) (o : Option Fault) → heartbeat_fault ≡ o → read_heartbeat quiet q cycle channel s ≡ heartbeat_unless quiet o s
  unfolding read_heartbeat words_due indicators_of
  heartbeat-read quiet o e = ap (λ (x : Option Fault). heartbeat_unless quiet x s) e

  abbrev pub vote_fault : Option Fault
  vote_fault = fault_of (q + 65) cycle (words_due kind.Vote s) (indicators_of kind.Vote s) channel s

  pub vote-read : (n : ℕ) (o : Option Fault) → vote_fault ≡ o → read_vote n q cycle channel s ≡ vote_unless o n q s
  unfolding read_vote words_due indicators_of
  vote-read n o e = ap (λ (x : Option Fault). vote_unless x n q s) e

-- a copy that is not there is refused with 5
pub no_heartbeat : (quiet : Bool) (q cycle channel : ℕ) → read_heartbeat quiet q cycle channel [] ≡ Err Length
unfolding wrong_length
no_heartbeat quiet q cycle channel = heartbeat-read q cycle channel [] quiet (Some Length) (by_length (q + 1) cycle (words_due kind.Heartbeat []) (indicators_of kind.Heartbeat []) channel [] refl)

pub no_vote : (n q cycle channel : ℕ) → read_vote n q cycle channel [] ≡ Err Length
unfolding wrong_length
no_vote n q cycle channel = vote-read q cycle channel [] n (Some Length) (by_length (q + 65) cycle (words_due kind.Vote []) (indicators_of kind.Vote []) channel [] refl)

-- how long a frame with none of them is: a vote 36 bytes, a heartbeat 10 to 262 and an even number
module _ (number cycle : ℕ) (indicators : Bool) (channel : ℕ) (s : List ℕ) where
  pub vote-length : fault_of number cycle (vote_words s) indicators channel s ≡ None → length s ≡ 36
  vote-length e =
      let c = clean number cycle (vote_words s) indicators channel s e in
      c.sized ∙ ap (λ (x : ℕ). 8 + 2 * x) (eqb-true (words_of s) 14 c.worded)

  pub heartbeat-length : fault_of number cycle (heartbeat_words s) indicators channel s ≡ None → (10 ≤ length s) × (length s ≤ 262) × (length s % 2 ≡ 0)
  heartbeat-length e =
      let c = clean number cycle (heartbeat_words s) indicators channel s e in
      let z = c.sized in
      let l : words_of s < 2 ^ 7 = mod-lt _ (lit< tt) in
      let n : words_of s ≡ 0 → ⊥ = eqb-false (words_of s) 0 (not-true _ c.worded) in
      (omega arith, omega arith, omega arith)
