-- What the walk over a row gathers: the states of its entries, or none where one is not the node of its place.
-- Assumes nothing.
use Rattle.std.specs.Prelude.{◌≡◌, Bool, true, false, ◌||◌, cond, Option, Some, None, List, [], ◌∷◌, ℕ, suc, ◌<◌, eqb, ltb, length, get_or}
use Rattle.state.specs.Image.{no_group}
use Rattle.state.specs.declared.State.{State}
use Rattle.state.specs.declared.Node.{Node}
use Rattle.rules.specs.Ballots.{with_group, one_group}
use Rattle.cluster_states.specs.declared.States.{States}
use Rattle.cluster_states.specs.Decided.{held_by, with_state}
use Rattle.cluster_states.specs.States.{no_roles, state_at}
use Rattle.row.specs.Row.{in_place}

-- the states with that of node q put in
unfoldable pub with_node : States → ℕ → State → States
with_node s q d = record { roles = with_state s.roles q d; groups = with_group s.groups q (held_by d) }

-- before the first entry
abbrev pub no_states : States
no_states = record { roles = no_roles; groups = one_group no_group }

unfoldable pub nothing_of : Option States
nothing_of = Some no_states

-- one more entry, that of place q; no cluster has more than 64. The walk knows no mode
unfoldable pub push_of : ℕ → Option States → ℕ → Node → Option States
push_of n None q x = None
push_of n (Some s) q x = cond (ltb q 64) (cond (in_place true n q x) (Some (with_node s q x.state)) None) (Some s)

-- the entries from place q on
unfoldable pub gathered : ℕ → Option States → ℕ → List Node → Option States
gathered n g q [] = g
gathered n g q (x ∷ xs) = gathered n (push_of n g q x) (suc q) xs

-- the entries of the row, of which there are so many, are those that a call may give for their places
abbrev pub Gives : (ℕ → Node → Type 0) → ℕ → List Node → Type 0
Gives gives count row = (length row ≡ count) × ((q : ℕ) (x d : Node) → q < count → gives q x → x ≡ get_or row q d)

-- whether every entry gathered is in its place: in a press that votes in every cycle nobody is asking
abbrev pub ordered : Bool → Option States → Bool
ordered quiet None = false
ordered quiet (Some s) = quiet || eqb s.roles.asking 0

-- node q of n, in its state
abbrev pub placed_node : ℕ → States → ℕ → Node
placed_node n s q = record { state = state_at s q; id = q; nodes = n }

-- the entry of place q, x past the last place
unfoldable pub node_of : ℕ → States → ℕ → Node → Node
node_of n s q x = cond (ltb q 64) (placed_node n s q) x

-- each entry, from place q on, replaced by what f makes of its place and itself
unfoldable pub each : (ℕ → Node → Node) → ℕ → List Node → List Node
each f q [] = []
each f q (x ∷ xs) = f q x ∷ each f (suc q) xs
