-- `frame_reading::heartbeat_of` meets its contract: each arm is a case of `heartbeat_of`. Assumes nothing.
use mathlib.Core.Path.{◌≡◌, refl}
use mathlib.Core.Bool.{Bool, true, false, not, cond}
use Prim.Native.Nat.{ℕ}
use lib.Dec.{eqb}
use borrow.Author.Tests.{ne_eqb}
use Rattle.std.specs.Prelude.{Result, Err}
use Rattle.frames.specs.declared.Fault.{Fault}
use Rattle.frames.specs.declared.Fault.TheVariants.{Content}
use Rattle.frames.specs.declared.Heartbeat.{Heartbeat}
use Rattle.frames.specs.Read.{heartbeat_of}
use Rattle.frame_reading.proofs.heartbeat_of.Goals as goal

-- a second byte that is not 0, and a first byte that is none of the three
second : (quiet : Bool) (a b : ℕ) → (b ≡ 0 → ⊥) → Err Content ≡ heartbeat_of quiet a b
unfolding heartbeat_of
second quiet a b n = simp (ne_eqb b 0 n)

other : (quiet : Bool) (a b : ℕ) → (a ≡ 0 → ⊥) → (a ≡ 128 → ⊥) → (a ≡ 64 → ⊥) → Err Content ≡ heartbeat_of quiet a b
unfolding heartbeat_of
other quiet a b n j r = simp (ne_eqb a 0 n, ne_eqb a 128 j, ne_eqb a 64 r) (go (eqb b 0))
  where
    go : (z : Bool) → ◌≡◌ {A = Result Heartbeat Fault} (Err Content) (cond (not z) (Err Content) (Err Content))
    go true = refl
    go false = refl

pub returns-in-0-eq0 : goal.returns-in-0-eq0
unfolding heartbeat_of
returns-in-0-eq0 c = simp (c.in-0-eq0.is-0, c.in-0-eq0.is-1)

pub returns-in-128-eq0 : goal.returns-in-128-eq0
unfolding heartbeat_of
returns-in-128-eq0 c = simp (c.in-128-eq0.is-0, c.in-128-eq0.is-1)

-- above what is left: a request with another bit is wrong here
pub returns-in-64-eq0 : goal.returns-in-64-eq0
unfolding heartbeat_of
returns-in-64-eq0 c = simp (c.in-64-eq0.is-0, c.in-64-eq0.is-1, c.if-quiet.true)

pub returns-in_default-3 : goal.returns-in_default-3
unfolding heartbeat_of
returns-in_default-3 c = simp (c.in-64-eq0.is-0, c.in-64-eq0.is-1, c.if-quiet.false)

pub returns-in_default : goal.returns-in_default
returns-in_default c = second _ _ _ c.in_default.is-1.1

pub returns-in_default-2 : goal.returns-in_default-2
returns-in_default-2 c = second _ _ _ c.in_default.is-1.1

pub returns-in_default-4 : goal.returns-in_default-4
returns-in_default-4 c = second _ _ _ c.in_default.is-1.1

pub returns-in_default-5 : goal.returns-in_default-5
returns-in_default-5 c = let z = c.in_default.is-0 in other _ _ _ z.0.0.1 z.0.1 z.1
