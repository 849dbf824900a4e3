-- Paper 01: "The press host is written in C and calls the node end with numbers and byte buffers only. For a run the caller lends the states of all units
-- as one row, one entry per unit." For C the row is N images of 24 bytes, one after the other.
-- Assumes nothing.
use Rattle.std.specs.Prelude.{true, cond, Result, Ok, Err, List, [], ◌∷◌, ◌++◌, ℕ, ◌*◌, ◌/◌, ◌%◌, eqb, length, take, drop}
use Rattle.refusal.specs.declared.Refusal.{Refusal}
use Rattle.state.specs.declared.Reason.TheVariants.{Stopped}
use Rattle.state.specs.declared.State.TheVariants.{Out}
use Rattle.state.specs.declared.Node.{Node}
use Rattle.state.specs.Image.{image_of, decoded}
use Rattle.rules.specs.Faults.{tabulate}

-- "4: a state image not well formed, or in a row an entry q that is not node q of that N": such an image stands for a node of no place
abbrev pub no_node : Node
no_node = record { state = Out Stopped; id = 0; nodes = 0 }

abbrev pub node_or : Result Node Refusal → Node
node_or (Ok x) = x
node_or (Err e) = no_node

-- the node of image q
unfoldable pub node_in : List ℕ → ℕ → Node
node_in s q = node_or (decoded true (take 24 (drop (24 * q) s)))

-- how many images there are. "3: .. a row not of N entries": bytes that are no whole number of images have none
unfoldable pub entries_in : List ℕ → ℕ
entries_in s = cond (eqb (length s % 24) 0) (length s / 24) 0

unfoldable pub nodes_in : List ℕ → List Node
nodes_in s = tabulate (entries_in s) (node_in s)

-- the images of the nodes, one after the other
unfoldable pub images_of : List Node → List ℕ
images_of [] = []
images_of (x ∷ xs) = image_of x ++ images_of xs
