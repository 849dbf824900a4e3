-- The programs and their modes, what their arguments ask for, and where the answers go.
-- Assumes nothing.
use Rattle.std.specs.Prelude.{◌≡◌, Bool, true, false, cond, List, ℕ, ◌≤◌, ◌<◌, ltb}
use Rattle.parts.specs.Compared.{same_bytes}
use Rattle.print_text.specs.Text.{ascii}
use Rattle.print_options.specs.declared.Program.{Program}
use Rattle.print_options.specs.declared.Program.TheVariants.{Group, Quiet}
use Rattle.print_options.specs.declared.Asked.{Asked}
use Rattle.print_options.specs.declared.Asked.TheVariants.{Run, Help, Version, Wrong}

-- "`grouprun` runs mode 0, and a program like it mode 1."
abbrev pub is_quiet : Program → Bool
is_quiet Group = false
is_quiet Quiet = true

-- one argument, by its text
unfoldable pub asked_by_one : List ℕ → Asked
asked_by_one first = cond (same_bytes first (ascii "--help")) Help (cond (same_bytes first (ascii "--version")) Version Wrong)

-- By so many arguments, the program's name among them, of which `first` follows the name: none asks for the run, and two or more for nothing that there is.
unfoldable pub asked_by : ℕ → List ℕ → Asked
asked_by count first = cond (ltb count 2) Run (cond (ltb 2 count) Wrong (asked_by_one first))

-- the bytes that there are for an argument; a longer one comes as empty
abbrev pub argument_room : ℕ
argument_room = 16

-- what is known of the arguments by what they ask for
abbrev pub Known : ℕ → List ℕ → Asked → Type 0
Known count first Run = count < 2
Known count first Help = (count ≡ 2) × (first ≡ ascii "--help")
Known count first Version = (count ≡ 2) × (first ≡ ascii "--version")
Known count first Wrong = (2 ≤ count) × (first ≡ ascii "--help" → 2 < count) × (first ≡ ascii "--version" → 2 < count)

-- whether the answer goes to standard error, and not to standard output
abbrev pub goes_aside : Asked → Bool
goes_aside Run = true
goes_aside Help = false
goes_aside Version = false
goes_aside Wrong = true
