-- Three flags are the low three bits of a byte. Assumes nothing.
use mathlib.Core.Path.{◌≡◌, refl}
use mathlib.Core.Bool.{Bool, true, false}
use Prim.Native.Nat.{ℕ, zero, suc, ◌<◌}
use native.Mathlib.Omega.{arith}
use lib.Dec.{ltb}
use Rattle.sets.specs.Sets.{has}
use Rattle.sets.proofs.Booleans.{ltb-lt}
use Rattle.registers.specs.Block.{Flags, flags_byte, flags_in}

abbrev pub three : Bool → Bool → Bool → Flags
three c h e = record { changed = c; halted = h; entered = e }

-- "bit 0 the set changed .., bit 1 halted, bit 2 entered"
pub places : (flags_byte (three true false false) ≡ 1) × (flags_byte (three false true false) ≡ 2) × (flags_byte (three false false true) ≡ 4)
places = (refl, refl, refl)

-- written and read, and below 8
both : (f : Flags) → (flags_in (flags_byte f) ≡ f) × (ltb (flags_byte f) 8 ≡ true)
unfolding has
both f = go f.changed f.halted f.entered
  where
    go : (c h e : Bool) → (flags_in (flags_byte (three c h e)) ≡ three c h e) × (ltb (flags_byte (three c h e)) 8 ≡ true)
    go true true true = (refl, refl)
    go true true false = (refl, refl)
    go true false true = (refl, refl)
    go true false false = (refl, refl)
    go false true true = (refl, refl)
    go false true false = (refl, refl)
    go false false true = (refl, refl)
    go false false false = (refl, refl)

pub flags_back : (f : Flags) → flags_in (flags_byte f) ≡ f
flags_back f = (both f).0

pub flags_few : (f : Flags) → ltb (flags_byte f) 8 ≡ true
flags_few f = (both f).1

-- a byte that has no other bits
pub byte_back : (b : ℕ) → ltb b 8 ≡ true → flags_byte (flags_in b) ≡ b
unfolding has
byte_back zero h = refl
byte_back (suc zero) h = refl
byte_back (suc (suc zero)) h = refl
byte_back (suc (suc (suc zero))) h = refl
byte_back (suc (suc (suc (suc zero)))) h = refl
byte_back (suc (suc (suc (suc (suc zero))))) h = refl
byte_back (suc (suc (suc (suc (suc (suc zero)))))) h = refl
byte_back (suc (suc (suc (suc (suc (suc (suc zero))))))) h = refl
byte_back (suc (suc (suc (suc (suc (suc (suc (suc b)))))))) h = let l : suc (suc (suc (suc (suc (suc (suc (suc b))))))) < 8 = ltb-lt h in absurd (omega arith)
