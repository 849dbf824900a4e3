-- Quorums of a base. Everything above knows them by three laws only (proofs/Quorum.antt), so that the definition can change alone.
-- Assumes nothing.
use Rattle.std.specs.Prelude.{Bool, ℕ, ◌*◌, ltb}
use Rattle.sets.specs.Sets.{size}

-- Rule 5: "Some V has a quorum if twice its count is more than the size of B." S is the set of those who voted for it.
unfoldable pub quorum : ℕ → ℕ → Bool
quorum S B = ltb (size B) (2 * size S)
