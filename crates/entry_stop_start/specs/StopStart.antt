-- What the entries stop and start answer and leave.
-- Assumes nothing.
use Rattle.std.specs.Prelude.{Bool, true, false, List, ℕ, Result, Ok, Err}
use Rattle.state.specs.declared.Node.{Node}
use Rattle.state.specs.Image.{image_of}
use Rattle.rules.specs.OneCycle.{stop_and_start}
use Rattle.refusal.specs.declared.Refusal.{Refusal}
use Rattle.entry_lent.specs.Found.{lent_state}

-- stop and start: rule 1 on the node whose image is lent
abbrev pub stopped_and_started : Bool → Bool → Node → Node
stopped_and_started stop start n = record { state = stop_and_start stop start n.state; id = n.id; nodes = n.nodes }

abbrev pub rule_one_of : Bool → Bool → Result Node Refusal → List ℕ → List ℕ
rule_one_of stop start (Ok n) s = image_of (stopped_and_started stop start n)
rule_one_of stop start (Err r) s = s

unfoldable pub stop_left : ℕ → List ℕ → List ℕ
stop_left mode s = rule_one_of true false (lent_state mode s) s

unfoldable pub start_left : ℕ → List ℕ → List ℕ
start_left mode s = rule_one_of false true (lent_state mode s) s
