-- Demand 3 of paper 01 over histories: what is promised of every list of cycles that meets the premise.
-- Assumes nothing.
use Rattle.std.specs.Prelude.{◌≡◌, ◌⊎◌, ◌≢◌, Bool, true, false, ◌&&◌, List, [], ◌∷◌, ◌++◌, ℕ, ◌<◌}
use Rattle.std.proofs.Math.Option.{some}
use Rattle.sets.specs.Sets.{has}
use Rattle.state.specs.declared.Group.{Group}
use Rattle.state.specs.declared.State.TheVariants.{Joining}
use Rattle.state.specs.State.{group_of, halted}
use Rattle.rules.specs.declared.Faults.{Faults}
use Rattle.rules.specs.declared.Config.{Config}
use Rattle.rules.specs.OneCycle.{stop_and_start}
use Rattle.rules.specs.Faults.{at, disturbed}
use Rattle.rules.specs.Reference.{Cluster, beginning, keeps, step, after}

-- The premise: "in every cycle up to the last one named more than half of the present and previous group together are present members untouched in it
-- and the cycle before".
unfoldable pub all_keep : Config → Cluster → List Faults → Bool
all_keep C k [] = true
all_keep C k (c ∷ cs) = keeps C k c && all_keep C (step C k c) cs

-- the cluster after the cycles `past`, from the founding set F with group number G; all of them meet the premise
abbrev pub cluster_after : Config → ℕ → ℕ → List Faults → Cluster
cluster_after C G F past = after C (beginning C G F) past

abbrev pub Kept : Config → ℕ → ℕ → List Faults → Type 0
Kept C G F past = all_keep C (beginning C G F) past ≡ true

-- node q is a member of the group g; the reference group is g
abbrev pub Holds : Cluster → ℕ → Group → Type 0
Holds k q g = group_of (at k.row q) ≡ some g

abbrev pub Reference : Cluster → Group → Type 0
Reference k g = k.reference ≡ some g

-- the reference group is defined while cycles meet the premise: "From the first cycle that does not, the group of record is undefined for good"
abbrev pub ReferenceDefined : Config → ℕ → ℕ → Type 0
ReferenceDefined C G F = (past : List Faults) → Kept C G F past → (g : Group) × Reference (cluster_after C G F past) g

pub record Demand3 (C : Config) (G F : ℕ) : Type 0 where
  -- "all members after a cycle that were untouched in it have equal set and group number, those of the group of record"
  pub agreement : (past : List Faults) → Kept C G F past → (q : ℕ) (g : Group) → q < C.nodes → Holds (cluster_after C G F past) q g
      → has q (cluster_after C G F past).lately ≡ false → Reference (cluster_after C G F past) g
  -- "a member that holds another set was touched in that cycle": "Another set is one that differs from the group of record after that cycle."
  pub stray_disturbed : (past : List Faults) → Kept C G F past → (q : ℕ) (g R : Group) → q < C.nodes → Holds (cluster_after C G F past) q g
      → Reference (cluster_after C G F past) R → g.set ≢ R.set → has q (cluster_after C G F past).lately ≡ true
  -- "and halts or is stopped in the next"
  pub stray_halts : (past : List Faults) (c : Faults) → Kept C G F (past ++ (c ∷ [])) → (q : ℕ) (g R : Group) → q < C.nodes
      → Holds (cluster_after C G F past) q g → Reference (cluster_after C G F past) R → g.set ≢ R.set
      → (halted (at (cluster_after C G F (past ++ (c ∷ []))).row q) ≡ true) ⊎ (has q c.stop ≡ true)
  -- "a unit joining as the heartbeats go out, untouched in that cycle and the next, is a member after the second": "A unit is joining as the heartbeats go
  -- out if it is joining after rule 1." It holds the reference group.
  pub joins : (past : List Faults) (c d : Faults) → Kept C G F (past ++ (c ∷ d ∷ [])) → (q : ℕ) → q < C.nodes
      → stop_and_start (has q c.stop) (has q c.start) (at (cluster_after C G F past).row q) ≡ Joining → disturbed c q ≡ false → disturbed d q ≡ false
      → (g : Group) × Holds (cluster_after C G F (past ++ (c ∷ d ∷ []))) q g × Reference (cluster_after C G F (past ++ (c ∷ d ∷ []))) g
