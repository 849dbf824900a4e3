-- The row after a list of cycles. Assumes nothing.
use Rattle.std.specs.Prelude.{List, [], ◌∷◌}
use Rattle.rules.specs.declared.Faults.{Faults}
use Rattle.rules.specs.declared.Config.{Config}
use Rattle.rules.specs.Faults.{Row, cycle}

-- the row after a list of cycles
unfoldable pub row_after : Config → Row → List Faults → Row
row_after C row [] = row
row_after C row (c ∷ cs) = row_after C (cycle C c row) cs
