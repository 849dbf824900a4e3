-- Paper 01, "Who can be refused, and for what": the conditions that the caller's numbers and buffers can meet.
-- Assumes nothing.
use Rattle.std.specs.Prelude.{Bool, not, ◌||◌, List, [], ◌∷◌, ℕ, eqb, ltb, leb, length}
use Rattle.refusal.specs.Refusal.{Condition, when}
use Rattle.sets.specs.Sets.{below}
use Rattle.state.specs.Image.{decoded, refusal}

-- "1: N outside 2 to 64, where it is given as a number"
unfoldable pub wrong_count : ℕ → Bool
wrong_count n = ltb n 2 || ltb 64 n

-- "2: node not below N, cycle count above 63, channel neither 0 (A) nor 1 (B)"
abbrev pub wrong_node : ℕ → ℕ → Bool
wrong_node n q = leb n q

abbrev pub wrong_cycle : ℕ → Bool
wrong_cycle cycle = ltb 63 cycle

abbrev pub wrong_channel : ℕ → Bool
wrong_channel channel = ltb 1 channel

-- "2: .. to be written, join, sync or startup neither 0 nor 1, or startup without sync."
abbrev pub wrong_bit : ℕ → Bool
wrong_bit b = ltb 1 b

unfoldable pub wrong_indicators : ℕ → ℕ → Bool
wrong_indicators sync startup = wrong_bit sync || wrong_bit startup || ltb sync startup

-- "3: a lent buffer of another length than named here"
abbrev pub wrong_length : ℕ → List ℕ → Bool
wrong_length k s = not (eqb (length s) k)

-- "4: a state image not well formed"; an image of another length is 3
abbrev pub malformed : Bool → List ℕ → Bool
malformed quiet s = eqb (refusal (decoded quiet s)) 4

-- 3 and 4 of a call that is lent a state image, and a buffer where k bytes are due
abbrev pub lent_conditions : Bool → List ℕ → ℕ → List ℕ → List Condition
lent_conditions quiet s k f = when (wrong_length 24 s || wrong_length k f) 3 ∷ when (malformed quiet s) 4 ∷ []

-- "13: founding set empty; a bit .. beyond its limit"
unfoldable pub wrong_founding : ℕ → ℕ → Bool
wrong_founding n F = eqb F 0 || not (eqb (below n F) F)
