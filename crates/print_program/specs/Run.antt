-- What a program's calls are: those of the theorems of `print_stream`, one for each read.
-- Assumes nothing.
use Rattle.std.specs.Prelude.{◌≡◌, Bool, true, false, ◌||◌, List, [], ◌++◌, ℕ, ◌+◌, ◌*◌, ◌≤◌, ◌<◌, eqb, length, take, Option, None, Some, IsSome}
use Rattle.print_run.specs.Printed.{printed}
use Rattle.print_window.specs.Chunks.{joined, Streamed, Reached}
use Rattle.cluster_states.specs.declared.States.{States}
use Rattle.print_pieces.specs.Pieces.{longest, Print, print_of}
use Rattle.print_stream.specs.declared.Taken.{Taken}
use Rattle.print_stream.specs.Stream.{Begins, is_over}
use Rattle.print_stream.specs.Chunks.{Calls, begun, first_text, whole_lines}
use Rattle.print_program.specs.declared.Run.{Run}

-- the window has room for a read, as it holds the longest record, and the output for what a full window gives; and it is not over
pub record Ready (input out : List ℕ) (t : Taken) : Type 0 where
  pub few : t.kept < longest
  pub wide : longest ≤ length input
  pub room : t.at + (3 * length input + 128) ≤ length out
  pub going : IsSome t.session

-- a run between two reads
abbrev pub stands : Run → States → Print
stands r g = print_of r.last.session g

-- the bytes that the last call kept
abbrev pub kept_in : Run → List ℕ → List ℕ
kept_in r input = take r.last.kept input

-- one read, and the call on what it brought: a read that fails changes nothing
pub record Goes (r : Run) (g : States) (input : List ℕ) (q : Run) (g' : States) (input' out' : List ℕ) : Type 0 where
  pub calls : q.unread ≡ false → (read text : List ℕ) × Calls (stands r g) (kept_in r input) read (stands q g') (kept_in q input') (is_over q.last) text
  pub fails : q.unread ≡ true → (stands q g' ≡ stands r g) × (kept_in q input' ≡ kept_in r input) × (is_over q.last ≡ is_over r.last)
  pub ready : is_over q.last ≡ false → Ready input' out' q.last
  pub once : q.unread ≡ false → q.last.at ≡ 0

-- what a run in a mode has come to after any number of reads: some chunks were read, and each had its call
pub record Along (quiet : Bool) (r : Run) (g : States) (input : List ℕ) : Type 0 where
  pub out : List ℕ
  pub out' : List ℕ
  pub first : Taken
  pub founded : States
  pub begins : Begins quiet out out' first
  pub chunks : List (List ℕ)
  pub text : List ℕ
  pub goes : is_over r.last ≡ false → Reached Calls (begun first founded) [] chunks (stands r g) (kept_in r input) text
  pub over : is_over r.last ≡ true → Streamed Calls (begun first founded) [] chunks text
  pub counted : r.unread ≡ false → is_over r.last ≡ false → r.reads ≡ length chunks

-- The last text was given, or a read or a write failed. No run makes all the reads that 64 bits count.
unfoldable pub has_ended : Run → Bool
has_ended r = is_over r.last || (r.unread || (r.lost || eqb r.reads 18446744073709551615))

-- The end of a run, and what it has come to: what was given of the chunks read is all that is printed of them, or, where they are cut short, the whole cycles.
pub record Ended (quiet : Bool) (r : Run) (g : States) (input : List ℕ) : Type 0 where
  pub along : Along quiet r g input
  pub ended : has_ended r ≡ true
  pub all : is_over r.last ≡ true → first_text along.out' along.first ++ along.text ≡ printed quiet (joined along.chunks)
  pub cut : is_over r.last ≡ false → first_text along.out' along.first ++ along.text ≡ whole_lines quiet (joined along.chunks)

-- a run that has ended so, with anything in the window and any states
abbrev pub Prints : Bool → Run → Type 0
Prints quiet r = (g : States) × (input : List ℕ) × Ended quiet r g input

-- "`grouprun` runs mode 0, and a program like it mode 1": what a program did in its mode, where it printed
abbrev pub Does : Bool → Option Run → Type 0
Does quiet (Some r) = Prints quiet r
Does quiet None = Unit {0}
