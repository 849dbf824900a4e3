-- A rest without a whole record is shorter than the longest. Assumes nothing.
use mathlib.Core.Path.{◌≡◌}
use mathlib.Core.Bool.{false}
use mathlib.Core.List.{List}
use Prim.Native.Nat.{ℕ, ◌<◌}
use lib.ListN.{length, get_or}
use Rattle.print_pieces.specs.Pieces.{longest, Print, is_begun_if, whole}
use Rattle.print_pieces.proofs.Windows.{not_whole_short}

pub short : (p : Print) (s : List ℕ) → ((i : ℕ) → get_or s i 0 < 256) → whole p s ≡ false → length s < longest
short p s byte e = not_whole_short (is_begun_if p.session) s (byte 35) e
