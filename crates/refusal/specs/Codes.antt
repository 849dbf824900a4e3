-- Paper 01, "Who can be refused, and for what", and request 4: the numbers of the refusals, and the number that a result stands for.
-- Assumes nothing.
use Rattle.std.specs.Prelude.{ℕ, Result, Ok, Err}
use Rattle.refusal.specs.declared.Refusal.{Refusal}
use Rattle.refusal.specs.declared.Refusal.TheVariants.{NodeCount, Number, Length, Image, FrameLength, HeaderCheck, FrameCheck, NullFrame, NotDue, Content, CutRecord, Record, Limit, Address}

abbrev pub code_of : Refusal → ℕ
code_of NodeCount = 1
code_of Number = 2
code_of Length = 3
code_of Image = 4
code_of FrameLength = 5
code_of HeaderCheck = 6
code_of FrameCheck = 7
code_of NullFrame = 8
code_of NotDue = 9
code_of Content = 10
code_of CutRecord = 11
code_of Record = 12
code_of Limit = 13
code_of Address = 14

-- "A refusal returns only its number": that of a result, which may hold what was found; 0 of one that is no refusal
abbrev pub status_of : {A : Type 0} → Result A Refusal → ℕ
status_of (Ok a) = 0
status_of (Err r) = code_of r
