-- What the parts of a reader answer: the lengths and indicators that are due in each kind of frame, refusals 8 and 9, and the
-- refusals as an answer.
-- Assumes nothing.
use Rattle.std.specs.Prelude.{Bool, Option, None, Some, Result, Ok, Err, ◌&&◌, cond, List, ℕ}
use Rattle.frames.specs.declared.Kind.{Kind}
use Rattle.frames.specs.declared.Kind.TheVariants.{Heartbeat, Vote}
use Rattle.frames.specs.declared.Fault.{Fault}
use Rattle.frames.specs.declared.Fault.TheVariants.{NullFrame, NotDue}
use Rattle.frames.specs.Read.{is_null, is_due, heartbeat_words, vote_words, heartbeat_indicators, vote_indicators}

-- of a heartbeat, or else of a vote
unfoldable pub words_due : Kind → List ℕ → Bool
words_due Heartbeat s = heartbeat_words s
words_due Vote s = vote_words s

unfoldable pub indicators_of : Kind → List ℕ → Bool
indicators_of Heartbeat s = heartbeat_indicators s
indicators_of Vote s = vote_indicators s

-- refusals 8 and 9
unfoldable pub due_fault : ℕ → ℕ → Bool → Bool → List ℕ → Option Fault
due_fault number cycle words indicators s = cond (is_null s) (Some NullFrame) (cond (is_due number cycle s && words && indicators) None (Some NotDue))

abbrev pub looked : Option Fault → Result (Unit {0}) Fault
looked None = Ok tt
looked (Some f) = Err f
