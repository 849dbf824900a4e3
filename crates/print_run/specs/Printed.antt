-- Paper 01, "Printed run": what a program prints for a table; with request 3, in its mode.
-- Assumes nothing.
use Rattle.std.specs.Prelude.{Bool, false, cond, List, [], ◌∷◌, ◌++◌, ℕ, suc, eqb}
use Rattle.std.proofs.Math.Option.{Option, none, some}
use Rattle.print_text.specs.Text.{ascii, hex_text, decimal_text}
use Rattle.state.specs.declared.Group.{Group}
use Rattle.rules.specs.declared.Faults.{Faults}
use Rattle.rules.specs.declared.Config.{Config}
use Rattle.rules.specs.OneCycle.{config_of}
use Rattle.rules.specs.Reference.{Cluster, beginning, keeps, step, halted_in, entered_in}
use Rattle.table.specs.Table.{Cycles, table_of}

-- "The header line is always printed."
unfoldable pub header_line : List ℕ
header_line = ascii "cycle promise group set halted entered\n"

-- "kept or broken"
unfoldable pub promise_text : Bool → List ℕ
promise_text kept = cond kept (ascii " kept ") (ascii " broken ")

-- "number and set of the group of record after the cycle, each `-` from the first broken cycle"
unfoldable pub group_text : Option Group → List ℕ
group_text none = ascii "- -"
group_text (some g) = decimal_text g.number ++ (ascii " " ++ hex_text g.set)

-- "nodes halted by rule 5; nodes made members by rule 6", and the line's end
unfoldable pub masks_text : ℕ → ℕ → List ℕ
masks_text halted entered = ascii " " ++ (hex_text halted ++ (ascii " " ++ (hex_text entered ++ ascii "\n")))

-- a line, by its fields
unfoldable pub fields : ℕ → Bool → Option Group → ℕ → ℕ → List ℕ
fields k kept reference halted entered = decimal_text k ++ (promise_text kept ++ (group_text reference ++ masks_text halted entered))

-- "Fields: cycle from 1; kept or broken; number and set of the group of record after the cycle ..; nodes halted by rule 5; nodes made members by rule 6."
unfoldable pub line : Config → ℕ → Cluster → Faults → List ℕ
line C k b c = fields k (keeps C b c) (step C b c).reference (halted_in C c b.row) (entered_in C c b.row)

-- the lines of cycles, the first of which is cycle k
unfoldable pub lines : Config → ℕ → Cluster → List Faults → List ℕ
lines C k b [] = []
lines C k b (c ∷ cs) = line C k b c ++ lines C (suc k) (step C b c) cs

-- "On a refusal a last line, `refused` and the number, follows the lines of the whole cycles."
unfoldable pub refused_line : ℕ → List ℕ
refused_line r = cond (eqb r 0) [] (ascii "refused " ++ (decimal_text r ++ ascii "\n"))

-- what follows the header: the lines of the whole cycles, the first of which is cycle k, and the refusal's
unfoldable pub reported : Config → ℕ → Cluster → Cycles → List ℕ
reported C k b t = lines C k b t.whole ++ refused_line t.refusal

-- "The program `grouprun` reads a table from standard input": s; it is lent no row. "`grouprun` runs mode 0, and a program like it mode 1."
unfoldable pub printed : Bool → List ℕ → List ℕ
printed quiet s =
    let t = table_of false 0 s in
    let C = config_of quiet t.nodes in
    header_line ++ reported C 1 (beginning C 0 t.founding) t.cycles
