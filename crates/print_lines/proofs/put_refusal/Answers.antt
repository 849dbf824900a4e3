-- `print_lines::put_refusal` meets its contract. Assumes nothing.
use mathlib.Core.Path.{◌≡◌, refl, sym}
use mathlib.Core.List.{[], ◌++◌}
use Prim.Native.Nat.{ℕ}
use native.Mathlib.Omega.{arith}
use borrow.Author.Tests.{eq-eqb, ne_eqb}
use Rattle.std.proofs.Common.{rules}
use Rattle.print_text.specs.Text.{ascii, decimal_text}
use Rattle.print_text.proofs.Appending as append
use Rattle.print_text.proofs.Digits.{decimal_length}
use Rattle.print_text.proofs.Putting.{same, then, leaves}
use Rattle.print_run.specs.Printed.{refused_line}
use Rattle.print_lines.proofs.put_refusal.Goals as goal

-- the line of a refusal, where there is one
some-refused : (r n : ℕ) → (r ≡ 0 → ⊥) → n ≡ r → ascii "refused " ++ (decimal_text n ++ ascii "\n") ≡ refused_line r
unfolding refused_line
some-refused r n h e = rw (e, ne_eqb r 0 h)

none-refused : (r : ℕ) → r ≡ 0 → refused_line r ≡ []
unfolding refused_line
none-refused r h = rw (eq-eqb r 0 h)

pub returns-then-refusal-eq0 : goal.returns-then-refusal-eq0
returns-then-refusal-eq0 c =
    let a = c.args in append.same (sym (none-refused a.refusal c.if-refusal-eq0.true)) (append.none a.out.now a.at a.at (omega arith) refl)

pub put_decimal-requires : goal.put_decimal-requires
put_decimal-requires c = omega (arith, leaves 8 21 c.put.ensures (omega arith) c.requires)

pub put_byte-requires : goal.put_byte-requires
put_byte-requires c = leaves 20 1 c.put_decimal.ensures (decimal_length _) (leaves 8 21 c.put.ensures (omega arith) c.requires)

pub returns : goal.returns
unfolding ascii
returns c =
    let all = same (some-refused c.args.refusal c.from.result c.if-refusal-eq0.false c.from.ensures) (then c.put.ensures (then c.put_decimal.ensures c.put_byte.ensures)) in
    search (rules, all.appended, all.same_reference)
