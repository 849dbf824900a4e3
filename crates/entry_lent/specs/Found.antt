-- What a call finds that is lent a state image and a buffer: a node, or a refusal.
-- Assumes nothing.
use Rattle.std.specs.Prelude.{Bool, cond, List, ℕ, eqb, Result, Err}
use Rattle.refusal.specs.declared.Refusal.{Refusal}
use Rattle.refusal.specs.declared.Refusal.TheVariants.{Number, Length}
use Rattle.refusal.specs.Codes.{status_of}
use Rattle.state.specs.declared.Node.{Node}
use Rattle.state.specs.Image.{decoded}
use Rattle.rules.specs.OneCycle.{wrong_mode, quiet_in}

-- "of several the lowest": 2 where a number is wrong, 3 where the buffer has another length than is due, then what the image gives
unfoldable pub lent_node : Bool → Bool → List ℕ → ℕ → ℕ → Result Node Refusal
lent_node quiet wrong s given due = cond wrong (Err Number) (cond (eqb given due) (decoded quiet s) (Err Length))

-- the same of a call that is lent a state image alone
unfoldable pub lent_state : ℕ → List ℕ → Result Node Refusal
lent_state mode s = cond (wrong_mode mode) (Err Number) (decoded (quiet_in mode) s)

-- what it answers: "2 for a mode", 3 and 4 of the image
unfoldable pub image_status : ℕ → List ℕ → ℕ
image_status mode s = status_of (lent_state mode s)
