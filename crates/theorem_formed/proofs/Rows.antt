-- What a well-formed row is: each of its states is. Assumes nothing.
use mathlib.Core.Path.{◌≡◌}
use mathlib.Core.Bool.{true}
use Prim.Native.Nat.{ℕ, ◌<◌}
use Rattle.state.specs.State.{formed_state}
use Rattle.rules.specs.declared.Config.{Config}
use Rattle.rules.specs.Faults.{Row, at}

abbrev pub FormedRow : Config → Row → Type 0
FormedRow C row = (q : ℕ) → q < C.nodes → formed_state C.quiet q C.nodes (at row q) ≡ true
