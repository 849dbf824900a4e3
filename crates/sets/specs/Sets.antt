-- Sets of nodes. Paper 01: "A set is 64 bits, bit q for node q, nodes numbered from 0." A set is its mask, a number.
-- Assumes nothing.
--     has: node q is in m
--     single: node q alone
--     _∪_, _∩_, _∖_: in one or both; in both; in the first and not in the second
--     those: the nodes below n of which a test holds
--     below: the nodes of m below n
--     subset: every node of a is in b
--     size: how many nodes are in m
--     lowest: the lowest node below n of which a test holds
--     any, every: a test holds of some node below n; of every one
use Rattle.std.specs.Prelude.{Bool, true, false, ◌&&◌, ◌||◌, cond, ℕ, zero, suc, ◌+◌, ◌-◌, ◌/◌, ◌%◌, ◌^◌, eqb}
use Rattle.std.specs.Int.Bits.{bit_and, bit_or}
use Rattle.std.specs.Int.Count.{ones}

infixl 60 ◌∪◌
infixl 65 ◌∩◌
infixl 65 ◌∖◌
-- node q is in m
unfoldable pub has : ℕ → ℕ → Bool
has q m = eqb (m / 2 ^ q % 2) 1

-- node q alone
unfoldable pub single : ℕ → ℕ
single q = 2 ^ q

-- in a or in b; in both; in a and not in b
unfoldable pub ◌∪◌ : ℕ → ℕ → ℕ
◌∪◌ a b = bit_or a b

unfoldable pub ◌∩◌ : ℕ → ℕ → ℕ
◌∩◌ a b = bit_and a b

unfoldable pub ◌∖◌ : ℕ → ℕ → ℕ
◌∖◌ a b = a - bit_and a b

-- those of the nodes below n of which p holds
unfoldable pub those : ℕ → (ℕ → Bool) → ℕ
those zero p = 0
those (suc n) p = cond (p n) (2 ^ n + those n p) (those n p)

-- the nodes of m below n
unfoldable pub below : ℕ → ℕ → ℕ
below n m = m % 2 ^ n

-- every node of a is in b
unfoldable pub subset : ℕ → ℕ → Bool
subset a b = eqb (a ∩ b) a

-- how many nodes are in m
unfoldable pub size : ℕ → ℕ
size m = ones m

-- the lowest of the nodes below n of which p holds; n if there is none
unfoldable pub lowest : ℕ → (ℕ → Bool) → ℕ
lowest zero p = 0
lowest (suc n) p = let r = suc (lowest n (λ q. p (suc q))) in cond (p 0) 0 r

-- p holds of a node below n; of every node below n
unfoldable pub any : ℕ → (ℕ → Bool) → Bool
any zero p = false
any (suc n) p = p n || any n p

unfoldable pub every : ℕ → (ℕ → Bool) → Bool
every zero p = true
every (suc n) p = p n && every n p
