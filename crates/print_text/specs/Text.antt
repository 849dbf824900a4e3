-- Numbers as text, and what it is to append text to a buffer. Text is a list of ASCII codes.
-- Assumes nothing.
use Rattle.std.specs.Prelude.{◌≡◌, cond, List, [], ◌∷◌, ◌++◌, ℕ, zero, suc, ◌+◌, ◌/◌, ◌%◌, ◌≤◌, ltb, length}
use Prim.Native.Char.{code}
use Prim.Native.String as string
use Prim.Native.String.{String}
use Rattle.parts.specs.Parts.{with_part}

-- words
unfoldable pub ascii : String → List ℕ
ascii string.[] = []
ascii (string.◌∷◌ c s) = code c ∷ ascii s

-- a digit below 16: `0` to `9`, then `a` to `f`
unfoldable pub glyph : ℕ → ℕ
glyph d = cond (ltb d 10) (48 + d) (87 + d)

-- the last k digits of n in base b, the most significant first
unfoldable pub digits : ℕ → ℕ → ℕ → List ℕ
digits b zero n = []
digits b (suc k) n = digits b k (n / b) ++ (glyph (n % b) ∷ [])

-- "Masks are printed as 16 lower-case hexadecimal digits"
unfoldable pub hex_text : ℕ → List ℕ
hex_text m = digits 16 16 m

-- "other numbers are decimal": how many digits n has, of at most `most` and one more
unfoldable pub places : ℕ → ℕ → ℕ
places zero n = 1
places (suc most) n = cond (ltb n 10) 1 (suc (places most (n / 10)))

-- a number below 10 ^ 20, as every number of 64 bits is
unfoldable pub decimal_text : ℕ → List ℕ
decimal_text n = digits 10 (places 19 n) n

-- The text t is written into s from place `at` on, which gives s' and ends before r; every other byte of s stays.
pub record Appended (s : List ℕ) (at : ℕ) (t s' : List ℕ) (r : ℕ) : Type 0 where
  pub written : s' ≡ with_part at t s
  pub end : r ≡ at + length t
  pub within : r ≤ length s
