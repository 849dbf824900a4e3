-- What the entry that takes a state apart leaves: the numbers that its image lays out (`layout`).
-- Assumes nothing.
use Rattle.std.specs.Prelude.{List, ℕ, Result, Ok, Err}
use Rattle.state.specs.declared.Node.{Node}
use Rattle.state.specs.Image.{kind_code, reason_byte, group_bytes}
use Rattle.refusal.specs.declared.Refusal.{Refusal}
use Rattle.entry_lent.specs.Found.{lent_state}

-- a number of the node whose image is lent; as it came in where the image is refused
abbrev pub of_node : (Node → ℕ) → Result Node Refusal → ℕ → ℕ
of_node f (Ok n) before = f n
of_node f (Err r) before = before

-- "kind (0 out, 1 joining, 2 member), reason, node, N, G in 4, M in 8, B in 8"
unfoldable pub kind_left : ℕ → List ℕ → ℕ → ℕ
kind_left mode s before = of_node (λ (n : Node). kind_code n.state) (lent_state mode s) before

-- "the reason is 0 unless out, G, M and B are 0 unless member"; request 3: "A member's reason byte is 1 when it will request"
unfoldable pub reason_left : ℕ → List ℕ → ℕ → ℕ
reason_left mode s before = of_node (λ (n : Node). reason_byte n.state) (lent_state mode s) before

unfoldable pub node_left : ℕ → List ℕ → ℕ → ℕ
node_left mode s before = of_node (λ (n : Node). n.id) (lent_state mode s) before

unfoldable pub count_left : ℕ → List ℕ → ℕ → ℕ
count_left mode s before = of_node (λ (n : Node). n.nodes) (lent_state mode s) before

unfoldable pub number_left : ℕ → List ℕ → ℕ → ℕ
number_left mode s before = of_node (λ (n : Node). (group_bytes n.state).number) (lent_state mode s) before

unfoldable pub set_left : ℕ → List ℕ → ℕ → ℕ
set_left mode s before = of_node (λ (n : Node). (group_bytes n.state).set) (lent_state mode s) before

unfoldable pub base_left : ℕ → List ℕ → ℕ → ℕ
base_left mode s before = of_node (λ (n : Node). (group_bytes n.state).base) (lent_state mode s) before
