-- What a step answers, leaves and reads, by what reading the block finds. Assumes nothing.
use mathlib.Core.Path.{◌≡◌, refl, sym, ap, ◌∙◌}
use mathlib.Core.Bool.{Bool, true, false, not, ◌||◌, cond}
use mathlib.Core.List.{List}
use mathlib.Core.Option.{Option, none}
use Prim.Native.Nat.{ℕ}
use native.Mathlib.Omega.{arith}
use lib.Dec.{eqb}
use lib.ListN.{length, take}
use Rattle.refusal.specs.Refusal.{first, unless}
use Rattle.refusal.proofs.Laws.{unless-done, unless-refused}
use Rattle.std.specs.Prelude.{Result, Ok, Err}
use Rattle.refusal.specs.declared.Refusal.{Refusal}
use Rattle.state.specs.declared.Node.{Node}
use Rattle.state.specs.Image.{decoded}
use Rattle.rules.specs.OneCycle.{wrong_mode, quiet_in}
use Rattle.entry_lent.specs.Refusals.{wrong_length}
use Rattle.entry_lent.proofs.Bounds.{length-is}
use Rattle.registers.specs.Block.{Machine, LentBlock, Holds, WrongLength, Malformed, block_of, shown, reads_so, machine_in, registers_at}
use Rattle.registers.proofs.Written.{cycle_alone}
use Rattle.registers.specs.Steps.{Step, Read, Write, Cycle, WriteCycle, mode_of, stepped, read_in, wrong_address, wrong_votes, malformed_block, found_by, step_status, left_in, step_left, read_at, step_read, result_of, step_value}

-- a block of another length than 64
abbrev is_wrong : LentBlock → Bool
is_wrong (Holds m) = false
is_wrong WrongLength = true
is_wrong Malformed = false

length_read : (quiet : Bool) (s : List ℕ) → wrong_length 64 s ≡ is_wrong (registers_at quiet s)
unfolding registers_at
length_read quiet s = go (eqb (length s) 64) (reads_so s) (decoded quiet (take 24 s))
  where
    go : (b c : Bool) (d : Result Node Refusal) → not b ≡ is_wrong (cond b (cond c (machine_in d s) Malformed) WrongLength)
    go true true (Ok n) = refl
    go true true (Err r) = refl
    go true false d = refl
    go false c d = refl

pub holds_length : (quiet : Bool) (s : List ℕ) (m : Machine) → registers_at quiet s ≡ Holds m → length s ≡ 64
holds_length quiet s m e = length-is 64 s (length_read quiet s ∙ ap is_wrong e)

-- the node of a block stands in its first 24 bytes
pub image_in_lem : (quiet : Bool) (s : List ℕ) (m : Machine) → registers_at quiet s ≡ Holds m → decoded quiet (take 24 s) ≡ Ok m.node
unfolding registers_at
image_in_lem quiet s m = go (eqb (length s) 64) (reads_so s) (decoded quiet (take 24 s))
  where
    go : (b c : Bool) (d : Result Node Refusal) → cond b (cond c (machine_in d s) Malformed) WrongLength ≡ Holds m → d ≡ Ok m.node
    go true true (Ok n) h = let z : n ≡ m.node = cc in ap Ok z
    go true true (Err r) h = let z : ◌≡◌ {A = ℕ} 0 1 = cc in absurd (omega arith)
    go true false d h = let z : ◌≡◌ {A = ℕ} 0 1 = cc in absurd (omega arith)
    go false c d h = let z : ◌≡◌ {A = ℕ} 0 1 = cc in absurd (omega arith)

-- "an address above 63": the last register is 63
pub last_register : (mode v heard0 heard1 requests : ℕ) (votes : List ℕ) (arrived : ℕ) → let joint : ℕ → Step = λ a. WriteCycle mode a v heard0 heard1 requests votes arrived in
    (wrong_address (Read mode 63) ≡ false) × (wrong_address (Write mode 63 v) ≡ false) × (wrong_address (joint 63) ≡ false)
    × (wrong_address (Read mode 64) ≡ true) × (wrong_address (Write mode 64 v) ≡ true) × (wrong_address (joint 64) ≡ true)
last_register mode v heard0 heard1 requests votes arrived = (refl, refl, refl, refl, refl, refl)

-- the status of a step in a mode that finds d
abbrev pub status_in : Step → LentBlock → ℕ
status_in t (Holds m) = cond (wrong_votes t) 3 (cond (wrong_address t) 14 0)
status_in t WrongLength = 3
status_in t Malformed = cond (wrong_votes t) 3 4

module _ (t : Step) (s : List ℕ) where
  pub status-found : (d : LentBlock) → found_by t s ≡ d → step_status t s ≡ cond (wrong_mode (mode_of t)) 2 (status_in t d)
  unfolding step_status first
  status-found d e = simp (length_read (quiet_in (mode_of t)) s, e) (ap (cond (wrong_mode (mode_of t)) 2) (go d))
    where
      go : (d : LentBlock) → cond (is_wrong d || wrong_votes t) 3 (cond (malformed_block d) 4 (cond (wrong_address t) 14 0)) ≡ status_in t d
      go (Holds m) = refl
      go WrongLength = refl
      go Malformed = refl

  -- an accepted step finds a machine, and has a mode, votes and an address that are due
  pub accepted : step_status t s ≡ 0
      → (m : Machine) × (found_by t s ≡ Holds m) × (wrong_mode (mode_of t) ≡ false) × (wrong_votes t ≡ false) × (wrong_address t ≡ false)
  accepted z = go (found_by t s) refl
    where
      passed : (w v a : Bool) → ◌≡◌ {A = ℕ} (cond w 2 (cond v 3 (cond a 14 0))) 0 → (w ≡ false) × (v ≡ false) × (a ≡ false)
      passed true v a h = let k : ◌≡◌ {A = ℕ} 2 0 = h in absurd (omega arith)
      passed false true a h = let k : ◌≡◌ {A = ℕ} 3 0 = h in absurd (omega arith)
      passed false false true h = let k : ◌≡◌ {A = ℕ} 14 0 = h in absurd (omega arith)
      passed false false false h = (refl, refl, refl)

      never : (w v : Bool) (k : ℕ) → ◌≡◌ {A = ℕ} (cond w 2 (cond v 3 k)) 0 → (k ≡ 0 → ⊥) → ⊥
      never true v k h n = let e : ◌≡◌ {A = ℕ} 2 0 = h in omega arith
      never false true k h n = let e : ◌≡◌ {A = ℕ} 3 0 = h in omega arith
      never false false k h n = n h

      go : (d : LentBlock) → found_by t s ≡ d
          → (m : Machine) × (found_by t s ≡ Holds m) × (wrong_mode (mode_of t) ≡ false) × (wrong_votes t ≡ false) × (wrong_address t ≡ false)
      go (Holds m) e = let p = passed (wrong_mode (mode_of t)) (wrong_votes t) (wrong_address t) (sym (status-found (Holds m) e) ∙ z) in (m, e, p.0, p.1, p.2)
      go WrongLength e = absurd (never (wrong_mode (mode_of t)) false 3 (sym (status-found WrongLength e) ∙ z) (λ k. omega arith))
      go Malformed e = absurd (never (wrong_mode (mode_of t)) (wrong_votes t) 4 (sym (status-found Malformed e) ∙ z) (λ k. omega arith))

  -- what it leaves and reads
  pub done-left : (m : Machine) → found_by t s ≡ Holds m → step_status t s ≡ 0 → step_left t s ≡ block_of (stepped t m)
  unfolding step_left
  done-left m e z = unless-done _ _ _ z ∙ ap (λ (d : LentBlock). left_in t d s) e

  pub done-read : (m : Machine) → found_by t s ≡ Holds m → step_status t s ≡ 0 → step_read t s ≡ read_in t m
  unfolding step_read
  done-read m e z = unless-done _ _ _ z ∙ ap (read_at t) e

  pub refused_left : (step_status t s ≡ 0 → ⊥) → step_left t s ≡ s
  unfolding step_left
  refused_left h = unless-refused _ _ _ h

  pub refused-read : (step_status t s ≡ 0 → ⊥) → step_read t s ≡ none
  unfolding step_read
  refused-read h = unless-refused _ _ _ h

  pub refused-value : (before : ℕ) → (step_status t s ≡ 0 → ⊥) → step_value t s before ≡ before
  unfolding step_value
  refused-value before h = ap (λ (o : Option ℕ). result_of o before) (refused-read h)

-- a cycle is one together with a write that does nothing
pub cycle_as_write : (mode heard0 heard1 requests : ℕ) (votes : List ℕ) (arrived : ℕ) (s : List ℕ)
    → (step_status (WriteCycle mode 28 0 heard0 heard1 requests votes arrived) s ≡ step_status (Cycle mode heard0 heard1 requests votes arrived) s)
    × (step_left (WriteCycle mode 28 0 heard0 heard1 requests votes arrived) s ≡ step_left (Cycle mode heard0 heard1 requests votes arrived) s)
unfolding step_status step_left
cycle_as_write mode heard0 heard1 requests votes arrived s =
    (refl, ap (λ (left : List ℕ). unless (step_status (Cycle mode heard0 heard1 requests votes arrived) s) left s) (go (registers_at (quiet_in mode) s)))
  where
    go : (d : LentBlock) → left_in (WriteCycle mode 28 0 heard0 heard1 requests votes arrived) d s ≡ left_in (Cycle mode heard0 heard1 requests votes arrived) d s
    go (Holds m) = ap block_of (sym (cycle_alone mode heard0 heard1 requests votes arrived m))
    go WrongLength = refl
    go Malformed = refl

-- the byte of a read
pub done_value : (mode a : ℕ) (s : List ℕ) (before : ℕ) (m : Machine) → registers_at (quiet_in mode) s ≡ Holds m → step_status (Read mode a) s ≡ 0
    → step_value (Read mode a) s before ≡ shown m a
unfolding step_value
done_value mode a s before m e z = ap (λ (o : Option ℕ). result_of o before) (done-read (Read mode a) s m e z)

-- what is no read shows no byte
pub reads_none : (t : Step) → ((m : Machine) → read_in t m ≡ none) → (s : List ℕ) → step_read t s ≡ none
unfolding step_read unless
reads_none t h s = go (eqb (step_status t s) 0)
  where
    nothing : (d : LentBlock) → read_at t d ≡ none
    nothing (Holds m) = h m
    nothing WrongLength = refl
    nothing Malformed = refl

    go : (b : Bool) → cond b (read_at t (found_by t s)) none ≡ none
    go true = nothing (found_by t s)
    go false = refl
