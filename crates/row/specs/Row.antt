-- Paper 01: "the caller lends the states of all units as one row, one entry per unit", here as node structs.
-- Assumes nothing.
use Rattle.std.specs.Prelude.{Bool, true, ◌&&◌, List, [], ◌∷◌, ℕ, suc, eqb}
use Rattle.state.specs.declared.Node.{Node}
use Rattle.state.specs.State.{formed}
use Rattle.rules.specs.Faults.{Row, at, tabulate}

-- the states of the entries
unfoldable pub states_in : List Node → Row
states_in [] = []
states_in (x ∷ xs) = x.state ∷ states_in xs

-- the entries of a cluster of n nodes in the given states
unfoldable pub nodes_of : ℕ → Row → List Node
nodes_of n row = tabulate n (λ q. record { state = at row q; id = q; nodes = n })

-- "4: a state image not well formed, or in a row an entry q that is not node q of that N"
unfoldable pub in_place : Bool → ℕ → ℕ → Node → Bool
in_place quiet n q x = formed quiet x && eqb x.id q && eqb x.nodes n

-- whether every entry, from place q on, is in its place
unfoldable pub in_order : Bool → ℕ → ℕ → List Node → Bool
in_order quiet n q [] = true
in_order quiet n q (x ∷ xs) = in_place quiet n q x && in_order quiet n (suc q) xs
