-- Paper 01, "Printed run": `grouprun` reads its table from standard input, and a table may be larger than memory. What the calls print, in either mode, of a table
-- that is read in chunks of any size.
-- Assumes nothing.
use Rattle.std.specs.Prelude.{◌≡◌, Bool, List, [], ◌++◌, ℕ, take}
use Rattle.print_run.specs.Printed.{header_line, printed}
use Rattle.print_window.specs.Stream.{Called}
use Rattle.print_window.specs.Chunks.{joined, Streamed, Reached}
use Rattle.cluster_states.specs.declared.States.{States}
use Rattle.print_pieces.specs.Pieces.{longest, opening, Print, print_of, due, whole}
use Rattle.print_stream.specs.declared.Taken.{Taken}
use Rattle.print_stream.specs.Stream.{Begins}

-- a call, by what the contract of `take` says
abbrev pub Calls : Print → List ℕ → List ℕ → Print → List ℕ → Bool → List ℕ → Type 0
Calls = Called due whole longest

-- what `begin` says is to be written
abbrev pub first_text : List ℕ → Taken → List ℕ
first_text out' r = take r.at out'

-- after `begin`, with any states
abbrev pub begun : Taken → States → Print
begun r g = print_of r.session g

-- the header and the lines of the whole cycles of a file that may be cut anywhere, and no refusal
abbrev pub whole_lines : Bool → List ℕ → List ℕ
whole_lines quiet s = header_line ++ (opening quiet s).lines

-- For every file and every way to cut it into chunks, none of them empty, the texts one after the other are `printed` of the file.
abbrev pub ChunksPrint : Type 0
ChunksPrint = (quiet : Bool) (out out' : List ℕ) (r : Taken) (g : States) (chunks : List (List ℕ)) (t : List ℕ) → Begins quiet out out' r
    → Streamed Calls (begun r g) [] chunks t → first_text out' r ++ t ≡ printed quiet (joined chunks)

-- Where the read after some chunks fails, what was given are the header and the lines of the whole cycles before it.
abbrev pub FailedPrints : Type 0
FailedPrints = (quiet : Bool) (out out' : List ℕ) (r : Taken) (g : States) (chunks : List (List ℕ)) (b : Print) (kept t : List ℕ) → Begins quiet out out' r
    → Reached Calls (begun r g) [] chunks b kept t → first_text out' r ++ t ≡ whole_lines quiet (joined chunks)
