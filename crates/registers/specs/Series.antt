-- Request 1: "Any series of reads, writes and cycles must show what a plain machine of state, flags and enables shows."
-- Assumes nothing.
use Rattle.std.specs.Prelude.{◌≡◌, true, not, List, [], ◌∷◌, ℕ}
use Rattle.std.proofs.Math.Option.{Option, none}
use Rattle.refusal.specs.Refusal.{when, first, unless}
use Rattle.rules.specs.OneCycle.{wrong_mode, quiet_in}
use Rattle.registers.specs.Block.{Machine, block_of, formed_machine}
use Rattle.registers.specs.Steps.{Step, mode_of, stepped, read_in, wrong_address, wrong_votes, step_status, step_left, step_read}

-- what a step shows: its status, and for a read that is not refused the byte
pub record Shown : Type 0 where
  pub status : ℕ
  pub byte : Option ℕ

-- ---- the plain machine: it refuses a step for its mode, its votes, a request that there is none of in that mode, or its address, and then stays

abbrev pub answer : Step → Machine → ℕ
answer t m =
    first
    (when (wrong_mode (mode_of t)) 2
    ∷ when (wrong_votes t) 3
    ∷ when (not (formed_machine (quiet_in (mode_of t)) m)) 4
    ∷ when (wrong_address t) 14
    ∷ [])

abbrev pub next : Step → Machine → Machine
next t m = unless (answer t m) (stepped t m) m

unfoldable pub shows : Machine → List Step → List Shown
shows m [] = []
shows m (t ∷ ts) = record { status = answer t m; byte = unless (answer t m) (read_in t m) none } ∷ shows (next t m) ts

unfoldable pub after : Machine → List Step → Machine
after m [] = m
after m (t ∷ ts) = after (next t m) ts

-- ---- a lent block, by what the entries' contracts say

unfoldable pub block_shows : List ℕ → List Step → List Shown
block_shows s [] = []
block_shows s (t ∷ ts) = record { status = step_status t s; byte = step_read t s } ∷ block_shows (step_left t s) ts

unfoldable pub block_after : List ℕ → List Step → List ℕ
block_after s [] = s
block_after s (t ∷ ts) = block_after (step_left t s) ts

-- every series, in whatever modes, on the block of every machine shows and leaves what the machine does
abbrev pub SameSeries : Type 0
SameSeries =
    (m : Machine) (ts : List Step) → formed_machine true m ≡ true → (block_shows (block_of m) ts ≡ shows m ts) × (block_after (block_of m) ts ≡ block_of (after m ts))
