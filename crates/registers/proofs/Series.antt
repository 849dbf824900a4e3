-- Every series of steps on the block of a machine shows and leaves what the machine does. Assumes nothing.
use mathlib.Core.Path.{◌≡◌, refl, sym, ap, ap₂, ◌∙◌}
use mathlib.Core.Bool.{Bool, true, false, not, cond}
use mathlib.Core.List.{List, [], ◌∷◌}
use mathlib.Core.Option.{none}
use Prim.Native.Nat.{ℕ}
use native.Mathlib.Omega.{arith}
use lib.Dec.{eqb}
use borrow.Author.Tests.{eqb-true, eqb-false}
use Rattle.refusal.specs.Refusal.{when, first, unless}
use Rattle.refusal.proofs.Laws.{unless-done, unless-refused}
use Rattle.rules.specs.OneCycle.{wrong_mode, quiet_in}
use Rattle.registers.specs.Block.{Machine, Holds, Malformed, block_of, formed_machine, registers_at}
use Rattle.registers.specs.Steps.{Step, Read, mode_of, stepped, read_in, wrong_address, wrong_votes, malformed_block, step_status, step_left, step_read}
use Rattle.registers.specs.Series.{Shown, answer, next, shows, after, block_shows, block_after, SameSeries}
use Rattle.registers.proofs.Blocks.{block_length, block_back, block_read}
use Rattle.registers.proofs.Found.{done-left, done-read, refused_left, refused-read}
use Rattle.registers.proofs.Formed.{formed-quietly, stepped-formed}

module _ (t : Step) (m : Machine) where
  -- a step that the machine does finds it well formed in its mode
  answered : answer t m ≡ 0 → formed_machine (quiet_in (mode_of t)) m ≡ true
  unfolding first
  answered z = go (wrong_mode (mode_of t)) (wrong_votes t) (formed_machine (quiet_in (mode_of t)) m) z
    where
      go : (w v f : Bool) → ◌≡◌ {A = ℕ} (cond w 2 (cond v 3 (cond (not f) 4 (cond (wrong_address t) 14 0)))) 0 → f ≡ true
      go true v f e = let k : ◌≡◌ {A = ℕ} 2 0 = e in absurd (omega arith)
      go false true f e = let k : ◌≡◌ {A = ℕ} 3 0 = e in absurd (omega arith)
      go false false true e = refl
      go false false false e = let k : ◌≡◌ {A = ℕ} 4 0 = e in absurd (omega arith)

  -- where it is so, 4 is not given, and it stays so
  pub in-its-mode : formed_machine (quiet_in (mode_of t)) m ≡ true
      → (answer t m ≡ first (when (wrong_mode (mode_of t)) 2 ∷ when (wrong_votes t) 3 ∷ when (wrong_address t) 14 ∷ [])) × (formed_machine (quiet_in (mode_of t)) (next t m) ≡ true)
  unfolding first unless
  in-its-mode f = (rw f, go (eqb (answer t m) 0))
    where
      go : (b : Bool) → formed_machine (quiet_in (mode_of t)) (cond b (stepped t m) m) ≡ true
      go true = stepped-formed t m f
      go false = f

  -- of a machine that is well formed in a quiet press
  module _ (f : formed_machine true m ≡ true) where
    pub status-of : step_status t (block_of m) ≡ answer t m
    unfolding step_status first
    status-of = rw (block_length m, block_read (quiet_in (mode_of t)) m f, go (formed_machine (quiet_in (mode_of t)) m))
      where
        go : (b : Bool) → malformed_block (cond b (Holds m) Malformed) ≡ not b
        go true = refl
        go false = refl

    found : answer t m ≡ 0 → registers_at (quiet_in (mode_of t)) (block_of m) ≡ Holds m
    found z = block_back (quiet_in (mode_of t)) m (answered z)

    pub left-of : step_left t (block_of m) ≡ block_of (next t m)
    left-of = go (eqb (answer t m) 0) refl
      where
        go : (b : Bool) → eqb (answer t m) 0 ≡ b → step_left t (block_of m) ≡ block_of (next t m)
        go true e = let z = eqb-true (answer t m) 0 e in done-left t (block_of m) m (found z) (status-of ∙ z) ∙ sym (ap block_of (unless-done _ (stepped t m) m z))
        go false e =
            let n = eqb-false (answer t m) 0 e in
            refused_left t (block_of m) (λ z. n (sym status-of ∙ z)) ∙ sym (ap block_of (unless-refused _ (stepped t m) m n))

    pub read_of : step_read t (block_of m) ≡ unless (answer t m) (read_in t m) none
    read_of = go (eqb (answer t m) 0) refl
      where
        go : (b : Bool) → eqb (answer t m) 0 ≡ b → step_read t (block_of m) ≡ unless (answer t m) (read_in t m) none
        go true e = let z = eqb-true (answer t m) 0 e in done-read t (block_of m) m (found z) (status-of ∙ z) ∙ sym (unless-done _ (read_in t m) none z)
        go false e = let n = eqb-false (answer t m) 0 e in refused-read t (block_of m) (λ z. n (sym status-of ∙ z)) ∙ sym (unless-refused _ (read_in t m) none n)

    pub next-formed : formed_machine true (next t m) ≡ true
    next-formed = go (eqb (answer t m) 0) refl
      where
        go : (b : Bool) → eqb (answer t m) 0 ≡ b → formed_machine true (next t m) ≡ true
        go true e =
            let z = eqb-true (answer t m) 0 e in
            ap (formed_machine true) (unless-done _ (stepped t m) m z) ∙ formed-quietly (quiet_in (mode_of t)) (stepped t m).node (stepped-formed t m (answered z))
        go false e = ap (formed_machine true) (unless-refused _ (stepped t m) m (eqb-false (answer t m) 0 e)) ∙ f

-- a read leaves the block
pub read_keeps : (mode a : ℕ) (m : Machine) → formed_machine true m ≡ true → step_left (Read mode a) (block_of m) ≡ block_of m
unfolding unless
read_keeps mode a m f = left-of (Read mode a) m f ∙ ap block_of (go (eqb (answer (Read mode a) m) 0))
  where
    go : (b : Bool) → cond b m m ≡ m
    go true = refl
    go false = refl

pub series : SameSeries
unfolding shows after block_shows block_after
series m [] f = (refl, refl)
series m (t ∷ ts) f =
    let rest = series (next t m) ts (next-formed t m f) in
    let left = left-of t m f in (
      ap₂ (λ (x : Shown) (xs : List Shown). x ∷ xs) (λ i. record { status = status-of t m f i; byte = read_of t m f i })
          (ap (λ (s : List ℕ). block_shows s ts) left ∙ rest.0),
      ap (λ (s : List ℕ). block_after s ts) left ∙ rest.1,
    )
