-- `print_lines::put_header` meets its contract. Assumes nothing.
use Rattle.std.proofs.Common.{rules}
use Rattle.print_text.specs.declared.Text.{Text}
use Rattle.print_text.specs.Cursor.{Puts}
use Rattle.print_text.specs.Text.{ascii}
use Rattle.print_run.specs.Printed.{header_line}
use Rattle.print_lines.proofs.put_header.Goals as goal

header : {a b : Text} → Puts a (ascii "cycle promise group set halted entered\n") b → Puts a header_line b
unfolding header_line
header p = p

pub returns : goal.returns
unfolding ascii
returns c =
    let all = header c.put.ensures in
    search (rules, all.appended, all.same_reference)
