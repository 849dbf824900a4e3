-- What a walk over the records of a table's cycles gives. Assumes nothing.
use Rattle.std.specs.Prelude.{◌≡◌, Option, MatchOption, List, ℕ, ◌≤◌, length, drop}
use Rattle.std.specs.Iterator.{Count, at_most}
use Rattle.table.specs.declared.CycleRecord.{CycleRecord}
use Rattle.table.specs.Records.{cycle_length}
use Rattle.run_turns.specs.declared.Records.{Records}

-- all bytes of the record are there that the bytes begin with
abbrev pub IsWhole : List ℕ → Type 0
IsWhole s = cycle_length s ≤ length s

-- a call gave the record at the front and left what is behind it; or none, as not all of it is there
abbrev pub GivesRecord : Records → Option CycleRecord → Records → Type 0
GivesRecord s r t =
    MatchOption r (IsWhole s.rest.now → ⊥) (λ x. IsWhole s.rest.now × (x.bytes.now ≡ s.rest.now) × (t.rest.now ≡ drop (cycle_length s.rest.now) s.rest.now))

abbrev pub bytes_left : Records → Count
bytes_left s = at_most (length s.rest.now)
