-- A cluster as the code holds it with its reference group.
-- Assumes nothing.
use Rattle.std.specs.Prelude.{Bool, false, cond, List, ℕ, get_or, Option as Optional, None, Some}
use Rattle.std.proofs.Math.Option.{Option, none, some}
use Rattle.sets.specs.Sets.{has, ◌∪◌, ◌∖◌, below, lowest}
use Rattle.sets.specs.Quorum.{quorum}
use Rattle.state.specs.declared.Group.{Group}
use Rattle.rules.specs.declared.Groups.{Groups}
use Rattle.rules.specs.Ballots.{group_at}
use Rattle.rules.specs.Faults.{misses_other}
use Rattle.rules.specs.Reference.{Cluster}
use Rattle.cluster_states.specs.declared.States.{States}
use Rattle.cluster_states.specs.States.{row_of}
use Rattle.cluster_watched.specs.declared.Watch.{Watch}

-- the reference group, none where it is undefined
abbrev pub defined : Optional Group → Option Group
defined None = none
defined (Some g) = some g

abbrev pub reference_of : Watch → Option Group
reference_of w = defined w.group

abbrev pub cluster_of : ℕ → States → Watch → Cluster
cluster_of n s w = record { row = row_of n s; reference = reference_of w; lately = w.lately }

-- whether node q misses a heartbeat or a vote of another node, of the senders that each node misses
abbrev pub misses_at : List ℕ → List ℕ → ℕ → Bool
misses_at heartbeats votes q = misses_other q (get_or heartbeats q 0 ∪ get_or votes q 0)

-- the nodes of a reference group that are disturbed neither in this cycle nor lately
abbrev pub steady_set : ℕ → Optional Group → ℕ → ℕ → ℕ
steady_set n None disturbed lately = 0
steady_set n (Some g) disturbed lately = below n (g.set ∖ disturbed ∖ lately)

-- whether these are a quorum of a reference group
abbrev pub keeps_over : Optional Group → ℕ → Bool
keeps_over None steady = false
keeps_over (Some g) steady = quorum steady g.base

-- the first, where they are the second
abbrev pub steady_of : ℕ → Optional Group → ℕ → ℕ → Optional ℕ
steady_of n o disturbed lately = let m = steady_set n o disturbed lately in cond (keeps_over o m) (Some m) None

-- the group that the lowest steady node holds
abbrev pub held_after : Optional ℕ → ℕ → Groups → Optional Group
held_after None members s = None
held_after (Some m) members s = let q = lowest 64 (λ p. has p m) in cond (has q members) (Some (group_at s.numbers s.sets s.bases q)) None
