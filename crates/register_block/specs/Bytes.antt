-- The bytes behind the state of a lent block, as the code looks at them and writes them.
-- Assumes nothing.
use Rattle.std.specs.Prelude.{cond, List, ◌∷◌, ◌++◌, ℕ, ◌%◌, eqb, length, take, drop}
use Rattle.sets.specs.Sets.{◌∩◌, ◌∖◌}
use Rattle.registers.specs.Block.{reads_so}

-- 1 if two bytes share a bit
abbrev pub shares : ℕ → ℕ → ℕ
shares flags enables = cond (eqb (flags ∩ enables) 0) 0 1

-- 3 and 4 of a lent block, apart from its state
unfoldable pub rest_status : List ℕ → ℕ
rest_status s = cond (eqb (length s) 64) (cond (reads_so s) 0 4) 3

-- a block with other flags and enables, and the byte that follows from both
unfoldable pub with_flags : ℕ → ℕ → List ℕ → List ℕ
with_flags flags enables s = take 24 s ++ (flags ∷ enables ∷ shares flags enables ∷ drop 27 s)

-- bytes 24 and 25 after a write
abbrev pub flags_after : ℕ → ℕ → ℕ → ℕ
flags_after a v flags = cond (eqb a 24) (flags ∖ v) flags

abbrev pub enables_after : ℕ → ℕ → ℕ → ℕ
enables_after a v enables = cond (eqb a 25) (v % 8) enables
