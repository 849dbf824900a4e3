-- Paper 01, "Faults": the group of record (here the reference group), the premise of agreement, and runs over lists of cycles; who halted and
-- who entered in a cycle.
-- Assumes nothing.
use Rattle.std.specs.Prelude.{Bool, false, not, ◌&&◌, cond, List, [], ◌∷◌, ℕ}
use Rattle.std.proofs.Math.Option.{Option, none, some}
use Rattle.sets.specs.Sets.{has, those, lowest}
use Rattle.sets.specs.Quorum.{quorum}
use Rattle.state.specs.declared.Group.{Group}
use Rattle.state.specs.State.{group_of, halted, founding_group}
use Rattle.rules.specs.declared.Faults.{Faults}
use Rattle.rules.specs.declared.Config.{Config}
use Rattle.rules.specs.OneCycle.{sends_member, sends_join}
use Rattle.rules.specs.Faults.{Row, at, founding, disturbed, rule_one, cycle}

-- A cluster after a cycle: the nodes' states, the reference group, and the nodes disturbed in that cycle.
pub record Cluster : Type 0 where
  pub row : Row
  pub reference : Option Group
  pub lately : ℕ

-- "The group of record is the founding set at first"; "No node is touched before cycle 1."
unfoldable pub beginning : Config → ℕ → ℕ → Cluster
beginning C G F = record { row = founding C.nodes G F; reference = some (founding_group G F); lately = 0 }

-- "the nodes in the group of record, untouched in this cycle and the one before"
unfoldable pub steady : Config → Cluster → Faults → Group → ℕ
steady C k c g = those C.nodes (λ q. has q g.set && not (disturbed c q) && not (has q k.lately))

-- "A cycle keeps the promise if the nodes in the group of record, untouched in this cycle and the one before, are more than half of its base."
abbrev pub keeps_with : Config → Cluster → Faults → Option Group → Bool
keeps_with C k c none = false
keeps_with C k c (some g) = quorum (steady C k c g) g.base

unfoldable pub keeps : Config → Cluster → Faults → Bool
keeps C k c = keeps_with C k c k.reference

-- "after each cycle what the rules give the lowest-numbered node of it that was untouched in that cycle and the one before .. From the first cycle
-- that does not" meet the premise, "the group of record is undefined for good, and that cycle and all later ones are broken."
abbrev pub reference_after : Config → Cluster → Faults → Row → Option Group → Option Group
reference_after C k c row none = none
reference_after C k c row (some g) =
    let U = steady C k c g in
    cond (quorum U g.base) (group_of (at row (lowest C.nodes (λ q. has q U)))) none

-- one cycle
unfoldable pub step : Config → Cluster → Faults → Cluster
step C k c =
    let row = cycle C c k.row in
    record { row = row; reference = reference_after C k c row k.reference; lately = those C.nodes (disturbed c) }

-- a list of cycles, one after the other
unfoldable pub after : Config → Cluster → List Faults → Cluster
after C k [] = k
after C k (c ∷ cs) = after C (step C k c) cs

-- "nodes halted by rule 5": those that were members as the rule came to them, and halted
unfoldable pub halted_in : Config → Faults → Row → ℕ
halted_in C c row = those C.nodes (λ q. sends_member (at (rule_one C.nodes c row) q) && halted (at (cycle C c row) q))

-- "nodes made members by rule 6": those that were joining as the rule came to them, and are members
unfoldable pub entered_in : Config → Faults → Row → ℕ
entered_in C c row = those C.nodes (λ q. sends_join (at (rule_one C.nodes c row) q) && sends_member (at (cycle C c row) q))
