-- Paper 01: "Numbers of several bytes stand highest byte first."
-- Assumes nothing.
use Rattle.std.specs.Prelude.{List, [], ◌∷◌, ℕ, zero, suc, ◌+◌, ◌*◌, ◌/◌, ◌%◌, ◌^◌, get_or}

-- x in k bytes
unfoldable pub bytes_of : ℕ → ℕ → List ℕ
bytes_of zero x = []
bytes_of (suc k) x = (x / 256 ^ k % 256) ∷ bytes_of k x

-- the number in the k bytes of s from place i on
unfoldable pub number_at : List ℕ → ℕ → ℕ → ℕ
number_at s i zero = 0
number_at s i (suc k) = number_at s i k * 256 + get_or s (i + k) 0
