-- How long the parts of a line are. Assumes nothing.
use mathlib.Core.Bool.{Bool, true, false}
use mathlib.Core.Option.{Option, none, some}
use mathlib.Core.List.{List, ◌++◌}
use Prim.Native.Nat.{ℕ, ◌+◌, ◌≤◌}
use native.Mathlib.Omega.{arith}
use lib.ListN.{length, length-append}
use Rattle.state.specs.declared.Group.{Group}
use Rattle.print_text.specs.Text.{ascii, hex_text, decimal_text}
use Rattle.print_text.proofs.Digits.{hex_length, decimal_length}
use Rattle.print_run.specs.Printed.{header_line, promise_text, group_text, masks_text, fields}

both : (t u : List ℕ) (m n : ℕ) → length t ≤ m → length u ≤ n → length (t ++ u) ≤ m + n
both t u m n h l = omega (arith, length-append t u)

pub header-length : length header_line ≤ 39
unfolding header_line ascii
header-length = omega arith

pub promise_length : (kept : Bool) → length (promise_text kept) ≤ 8
unfolding promise_text ascii
promise_length true = omega arith
promise_length false = omega arith

pub group-length : (reference : Option Group) → length (group_text reference) ≤ 37
unfolding group_text ascii
group-length none = omega arith
group-length (some g) =
    both (decimal_text g.number) (ascii " " ++ hex_text g.set) 20 17 (decimal_length g.number)
    (both (ascii " ") (hex_text g.set) 1 16 (omega arith) (hex_length g.set))

masks_length : (halted entered : ℕ) → length (masks_text halted entered) ≤ 35
unfolding masks_text ascii
masks_length halted entered =
    both (ascii " ") (hex_text halted ++ (ascii " " ++ (hex_text entered ++ ascii "\n"))) 1 34 (omega arith)
    (both (hex_text halted) (ascii " " ++ (hex_text entered ++ ascii "\n")) 16 18 (hex_length halted)
    (both (ascii " ") (hex_text entered ++ ascii "\n") 1 17 (omega arith) (both (hex_text entered) (ascii "\n") 16 1 (hex_length entered) (omega arith))))

pub fields-length : (k : ℕ) (kept : Bool) (reference : Option Group) (halted entered : ℕ) → length (fields k kept reference halted entered) ≤ 100
unfolding fields
fields-length k kept reference halted entered =
    both (decimal_text k) (promise_text kept ++ (group_text reference ++ masks_text halted entered)) 20 80 (decimal_length k)
    (both (promise_text kept) (group_text reference ++ masks_text halted entered) 8 72 (promise_length kept)
    (both (group_text reference) (masks_text halted entered) 37 35 (group-length reference) (masks_length halted entered)))
