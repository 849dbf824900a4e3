-- Request 1 of the entries for C: `gm_register_read`, `gm_register_write`, `gm_register_cycle` and `gm_register_write_cycle`, in any order, on one block.
-- "Any series of reads, writes and cycles must show what a plain machine of state, flags and enables shows."
-- Assumes nothing.
use Rattle.std.specs.Prelude.{◌≡◌, true, List, [], ◌∷◌, ℕ}
use Rattle.std.proofs.Math.Option.{none, some}
use Rattle.refusal.specs.Refusal.{unless}
use Rattle.registers.specs.Block.{Machine, block_of, formed_machine}
use Rattle.registers.specs.Steps.{Step, Read, Write, Cycle, WriteCycle}
use Rattle.registers.specs.Series.{Shown, shows, after}
use Rattle.gm.proofs.gm_register_read.Reads as gm-register-read
use Rattle.gm.proofs.gm_register_write.Reads as gm-register-write
use Rattle.gm.proofs.gm_register_cycle.Reads as gm-register-cycle
use Rattle.gm.proofs.gm_register_write_cycle.Reads as gm-register-write-cycle

-- The calls that were made, what their caller saw, and the bytes of the block before and after them. Each call is known by what the entry's contract tells its caller,
-- `Learnt`, of the arguments a, the status r and the arguments at the end s. It got the block as the last one left it (x), and nobody else writes it meanwhile; a read
-- only reads it. Seen are the status and, of a read that was not refused, the byte in its result.
pub data Done : List Step → List Shown → List ℕ → List ℕ → Type 1 where
  none_more : {x : List ℕ} → Done [] [] x x
  read : {ts : List Step} {vs : List Shown} {x z : List ℕ} (κs : _) (a : _) (r : _) (s : _) → gm-register-read.Learnt κs a r s → a.1.0.now ≡ x
      → Done ts vs x z → Done (Read a.0 a.1.1.0 ∷ ts) (record { status = r; byte = unless r (some s.1.1.1.0.now) none } ∷ vs) x z
  write : {ts : List Step} {vs : List Shown} {x y z : List ℕ} (κs : _) (a : _) (r : _) (s : _) → gm-register-write.Learnt κs a r s → a.1.0.now ≡ x → s.1.0.now ≡ y
      → Done ts vs y z → Done (Write a.0 a.1.1.0 a.1.1.1.0 ∷ ts) (record { status = r; byte = none } ∷ vs) x z
  cycle : {ts : List Step} {vs : List Shown} {x y z : List ℕ} (κs : _) (a : _) (r : _) (s : _) → gm-register-cycle.Learnt κs a r s → a.1.0.now ≡ x → s.1.0.now ≡ y
      → Done ts vs y z
      → Done (Cycle a.0 a.1.1.0 a.1.1.1.0 a.1.1.1.1.0 a.1.1.1.1.1.0.now a.1.1.1.1.1.1.0 ∷ ts)
      (record { status = r; byte = none } ∷ vs) x z
  write_cycle : {ts : List Step} {vs : List Shown} {x y z : List ℕ} (κs : _) (a : _) (r : _) (s : _) → gm-register-write-cycle.Learnt κs a r s
      → a.1.0.now ≡ x → s.1.0.now ≡ y → Done ts vs y z
      → Done (WriteCycle a.0 a.1.1.0 a.1.1.1.0 a.1.1.1.1.0 a.1.1.1.1.1.0 a.1.1.1.1.1.1.0 a.1.1.1.1.1.1.1.0.now a.1.1.1.1.1.1.1.1.0 ∷ ts)
      (record { status = r; byte = none } ∷ vs) x z

-- on the block of any machine, in whatever modes, the calls show and leave what the machine does
abbrev pub OverBlocks : Type 1
OverBlocks =
    (m : Machine) (ts : List Step) (vs : List Shown) (z : List ℕ) → formed_machine true m ≡ true → Done ts vs (block_of m) z
    → (vs ≡ shows m ts) × (z ≡ block_of (after m ts))
