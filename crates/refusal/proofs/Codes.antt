-- A result with a refusal, by its number. Assumes nothing.
use Rattle.std.proofs.Common.{◌≡◌, ℕ, Bool, true, false, cond, eqb, List, ◌∷◌, refl, sym, ap, ◌∙◌, arith, Result, Ok, Err}
use Rattle.std.specs.Result.{IsErrAnd}
use borrow.Author.Tests.{eqb-false}
use Rattle.refusal.specs.declared.Refusal.{Refusal}
use Rattle.refusal.specs.declared.Refusal.TheVariants.{NodeCount, Number, Length, Image, FrameLength, HeaderCheck, FrameCheck, NullFrame, NotDue, Content, CutRecord, Record, Limit, Address}
use Rattle.refusal.specs.Codes.{code_of, status_of}
use Rattle.refusal.specs.Refusal.{Condition, when, first, unless}
use Rattle.refusal.proofs.Laws.{unless-refused}

-- a refusal has a number
pub numbered : (r : Refusal) → code_of r ≡ 0 → ⊥
numbered NodeCount e = omega arith
numbered Number e = omega arith
numbered Length e = omega arith
numbered Image e = omega arith
numbered FrameLength e = omega arith
numbered HeaderCheck e = omega arith
numbered FrameCheck e = omega arith
numbered NullFrame e = omega arith
numbered NotDue e = omega arith
numbered Content e = omega arith
numbered CutRecord e = omega arith
numbered Record e = omega arith
numbered Limit e = omega arith
numbered Address e = omega arith

-- what the exit of a `?` answers
pub exit_status : {A : Type 0} (r : Result A Refusal) (e : Refusal) → IsErrAnd r (λ y. y ≡ e) → status_of r ≡ code_of e
exit_status (Ok a) e h = absurd h
exit_status (Err y) e h = ap code_of h

-- a test that refuses, and one that does not
pub refused : (r : Refusal) (b : Bool) (k : ℕ) → code_of r ≡ cond b k 0 → (b ≡ true) × (code_of r ≡ k)
refused r true k e = (refl, e)
refused r false k e = absurd (numbered r e)

pub passed : (b : Bool) (k : ℕ) → eqb k 0 ≡ false → 0 ≡ cond b k 0 → b ≡ false
passed true k h e = absurd (eqb-false k 0 h (sym e))
passed false k h e = refl

-- the same, of the first of some conditions
pub refused-first : (r : Refusal) (b : Bool) (k : ℕ) (cs : List Condition) → code_of r ≡ cond b k 0 → code_of r ≡ first (when b k ∷ cs)
unfolding first
refused-first r b k cs e = let h = refused r b k e in simp h.0 h.1

-- what is left after a refusal
pub unless_err : {A : Type 0} (r : Refusal) (status : ℕ) (result before : A) → code_of r ≡ status → before ≡ unless status result before
unless_err r status result before e = sym (unless-refused status result before (λ z. numbered r (e ∙ z)))
