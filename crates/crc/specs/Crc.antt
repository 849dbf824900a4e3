-- The checks of FlexRay frames (ISO 17458-2), bit by bit: no reflection, no final exclusive or.
-- Assumes nothing.
use Rattle.std.specs.Prelude.{cond, List, [], ◌∷◌, ◌++◌, ℕ, zero, suc, ◌-◌, ◌*◌, ◌/◌, ◌%◌, ◌^◌, ◌<◌, eqb}
use Rattle.std.specs.Int.Bits.{bit_xor}

-- a register of k bits that holds r, and a polynomial that fits it; below 32, so that 2 ^ k fits a machine word
pub record Register (k poly r : ℕ) : Type 0 where
  pub some_bits : 0 < k
  pub few_bits : k < 32
  pub poly_fits : poly < 2 ^ k
  pub fits : r < 2 ^ k

-- one message bit b: the register r of k bits moves up by one, and the polynomial is added where the bit that leaves r differs from b
unfoldable pub bit_step : ℕ → ℕ → ℕ → ℕ → ℕ
bit_step k poly r b = cond (eqb (r / 2 ^ (k - 1)) b) (r * 2 % 2 ^ k) (bit_xor (r * 2 % 2 ^ k) poly)

-- a message, given as its bits in the order sent, from the register r
unfoldable pub check : ℕ → ℕ → ℕ → List ℕ → ℕ
check k poly r [] = r
check k poly r (b ∷ bits) = check k poly (bit_step k poly r b) bits

-- the lowest n bits of x, highest bit first
unfoldable pub bits_of : ℕ → ℕ → List ℕ
bits_of zero x = []
bits_of (suc n) x = x / 2 ^ n % 2 ∷ bits_of n x

-- bytes in the order sent, each highest bit first
unfoldable pub bits_of_bytes : List ℕ → List ℕ
bits_of_bytes [] = []
bits_of_bytes (b ∷ s) = bits_of 8 b ++ bits_of_bytes s

-- "Header check: polynomial hex 385, start value hex 1A, over sync, startup, frame number and length. Frame check: polynomial hex 5D6DCB,
-- over header and payload, start value hex FEDCBA on channel A and ABCDEF on B, highest bit first."
abbrev pub header_poly : ℕ
header_poly = 0x385

abbrev pub header_start : ℕ
header_start = 0x1A

unfoldable pub header_check : ℕ → ℕ → ℕ → ℕ → ℕ
header_check sync startup number length =
    check 11 header_poly header_start (bits_of 1 sync ++ bits_of 1 startup ++ bits_of 11 number ++ bits_of 7 length)

abbrev pub frame_poly : ℕ
frame_poly = 0x5D6DCB

unfoldable pub frame_check : ℕ → List ℕ → ℕ
frame_check start s = check 24 frame_poly start (bits_of_bytes s)

abbrev pub start_a : ℕ
start_a = 0xFEDCBA

abbrev pub start_b : ℕ
start_b = 0xABCDEF

-- channel 0 is A, any other B
unfoldable pub channel_start : ℕ → ℕ
channel_start channel = cond (eqb channel 0) start_a start_b
