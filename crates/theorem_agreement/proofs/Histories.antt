-- Demand 3 over histories. Assumes nothing.
use mathlib.Core.Path.{◌≡◌, refl, sym, ap, ap₂, ◌∙◌, subst}
use mathlib.Core.Logic.{◌⊎◌, inl, inr, ◌≢◌}
use mathlib.Core.Bool.{Bool, true, false, ◌&&◌}
use mathlib.Core.List.{List, [], ◌∷◌, ◌++◌}
use mathlib.Core.Option.{Option, some}
use Prim.Native.Nat.{ℕ, ◌<◌}
use Rattle.sets.specs.Sets.{has}
use Rattle.sets.proofs.Booleans.{bool, and_l, and_r}
use Rattle.state.specs.declared.Group.{Group}
use Rattle.state.specs.declared.State.TheVariants.{Joining}
use Rattle.state.specs.State.{halted, founding_group}
use Rattle.rules.specs.declared.Faults.{Faults}
use Rattle.rules.specs.declared.Config.{Config}
use Rattle.rules.specs.OneCycle.{stop_and_start}
use Rattle.rules.specs.Faults.{at, disturbed}
use Rattle.rules.specs.Reference.{Cluster, beginning, keeps, step, after}
use Rattle.rules.proofs.States.{some_inj}
use Rattle.theorem_agreement.specs.Demand3.{all_keep, cluster_after, Kept, Holds, Reference, ReferenceDefined, Demand3}
use Rattle.theorem_agreement.proofs.Invariant.{Agreed, at_first, next, lately-is, step-agreed, step-stray, EntersOrWaits, step-joins, step-enters, step_stays}

-- ---- the invariant after every history

through : (C : Config) (k : Cluster) (g : Group) (cs : List Faults) → Agreed C k g → all_keep C k cs ≡ true → (h : Group) × Agreed C (after C k cs) h
unfolding after all_keep
through C k g [] a e = (g, a)
through C k g (c ∷ cs) a e =
    let here = and_l (keeps C k c) (all_keep C (step C k c) cs) e in
    through C (step C k c) (next C k c g a here) cs (step-agreed C k c g a here) (and_r (keeps C k c) (all_keep C (step C k c) cs) e)

-- ---- a list of cycles and then another

pub after-append : (C : Config) (k : Cluster) (cs ds : List Faults) → after C k (cs ++ ds) ≡ after C (after C k cs) ds
unfolding after
after-append C k [] ds = refl
after-append C k (c ∷ cs) ds = after-append C (step C k c) cs ds

keep_first : (C : Config) (k : Cluster) (cs ds : List Faults) → all_keep C k (cs ++ ds) ≡ true → all_keep C k cs ≡ true
unfolding all_keep
keep_first C k [] ds e = refl
keep_first C k (c ∷ cs) ds e =
    ap₂ (λ (x y : Bool). x && y) (and_l (keeps C k c) (all_keep C (step C k c) (cs ++ ds)) e)
    (keep_first C (step C k c) cs ds (and_r (keeps C k c) (all_keep C (step C k c) (cs ++ ds)) e))

pub keep_last : (C : Config) (k : Cluster) (cs ds : List Faults) → all_keep C k (cs ++ ds) ≡ true → all_keep C (after C k cs) ds ≡ true
unfolding all_keep after
keep_last C k [] ds e = e
keep_last C k (c ∷ cs) ds e = keep_last C (step C k c) cs ds (and_r (keeps C k c) (all_keep C (step C k c) (cs ++ ds)) e)

-- ---- from the beginning

module _ (C : Config) (G F : ℕ) where
  agreed : (past : List Faults) → Kept C G F past → (g : Group) × Agreed C (cluster_after C G F past) g
  agreed past e = through C (beginning C G F) (founding_group G F) past (at_first C G F) e

  pub defined : ReferenceDefined C G F
  defined past e = let w = agreed past e in (w.0, w.1.defined)

  agreement : (past : List Faults) → Kept C G F past → (q : ℕ) (g : Group) → q < C.nodes → Holds (cluster_after C G F past) q g
      → has q (cluster_after C G F past).lately ≡ false → Reference (cluster_after C G F past) g
  agreement past e q g l m t = let w = agreed past e in w.1.defined ∙ ap {B = Option Group} some (sym (w.1.calm q g l t m))

  stray_disturbed : (past : List Faults) → Kept C G F past → (q : ℕ) (g R : Group) → q < C.nodes → Holds (cluster_after C G F past) q g
      → Reference (cluster_after C G F past) R → g.set ≢ R.set → has q (cluster_after C G F past).lately ≡ true
  stray_disturbed past e q g R l m r d = go (bool (has q (cluster_after C G F past).lately))
    where
      go : (has q (cluster_after C G F past).lately ≡ true) ⊎ (has q (cluster_after C G F past).lately ≡ false) → has q (cluster_after C G F past).lately ≡ true
      go (inl t) = t
      go (inr t) = absurd (d (ap (λ (x : Group). x.set) (some_inj (sym (agreement past e q g l m t) ∙ r))))

  stray_halts : (past : List Faults) (c : Faults) → Kept C G F (past ++ (c ∷ [])) → (q : ℕ) (g R : Group) → q < C.nodes
      → Holds (cluster_after C G F past) q g → Reference (cluster_after C G F past) R → g.set ≢ R.set
      → (halted (at (cluster_after C G F (past ++ (c ∷ []))).row q) ≡ true) ⊎ (has q c.stop ≡ true)
  unfolding after all_keep
  stray_halts past c e q g R l m r d =
      let k = cluster_after C G F past in
      let w = agreed past (keep_first C (beginning C G F) past (c ∷ []) e) in
      let here : keeps C k c ≡ true = and_l (keeps C k c) true (keep_last C (beginning C G F) past (c ∷ []) e) in
      let other : g ≢ w.0 = λ x. d (ap (λ (y : Group). y.set) (x ∙ some_inj (sym w.1.defined ∙ r))) in
      subst (λ (x : Cluster). (halted (at x.row q) ≡ true) ⊎ (has q c.stop ≡ true)) (sym (after-append C (beginning C G F) past (c ∷ [])))
      (step-stray C k c w.0 w.1 here q g l m other)

  -- a member or a joining node after the first cycle is a member after the second
  second : (k : Cluster) (c : Faults) (g : Group) (a : Agreed C k g) (here : keeps C k c ≡ true) (d : Faults) (there : keeps C (step C k c) d ≡ true)
      → (q : ℕ) → q < C.nodes → disturbed c q ≡ false → disturbed d q ≡ false → EntersOrWaits C k c g a here q
      → Holds (step C (step C k c) d) q (next C (step C k c) d (next C k c g a here) (step-agreed C k c g a here) there)
  second k c g a here d there q l tc td (inl m) =
      step_stays C (step C k c) d (next C k c g a here) (step-agreed C k c g a here) there q l td (lately-is C k c g a here q l ∙ tc) m
  second k c g a here d there q l tc td (inr w) =
      step-enters C (step C k c) d (next C k c g a here) (step-agreed C k c g a here) there q l td w.0 w.1

  joins : (past : List Faults) (c d : Faults) → Kept C G F (past ++ (c ∷ d ∷ [])) → (q : ℕ) → q < C.nodes
      → stop_and_start (has q c.stop) (has q c.start) (at (cluster_after C G F past).row q) ≡ Joining → disturbed c q ≡ false → disturbed d q ≡ false
      → (g : Group) × Holds (cluster_after C G F (past ++ (c ∷ d ∷ []))) q g × Reference (cluster_after C G F (past ++ (c ∷ d ∷ []))) g
  unfolding after all_keep
  joins past c d e q l j tc td =
      let k = cluster_after C G F past in
      let w = agreed past (keep_first C (beginning C G F) past (c ∷ d ∷ []) e) in
      let both = keep_last C (beginning C G F) past (c ∷ d ∷ []) e in
      let here : keeps C k c ≡ true = and_l (keeps C k c) (keeps C (step C k c) d && true) both in
      let there : keeps C (step C k c) d ≡ true =
      and_l (keeps C (step C k c) d) true (and_r (keeps C k c) (keeps C (step C k c) d && true) both) in
      let a = step-agreed C k c w.0 w.1 here in
      let n = next C (step C k c) d (next C k c w.0 w.1 here) a there in
      subst (λ (x : Cluster). (g : Group) × Holds x q g × Reference x g) (sym (after-append C (beginning C G F) past (c ∷ d ∷ []))) (
        n,
        second k c w.0 w.1 here d there q l tc td (step-joins C k c w.0 w.1 here q l tc j),
        (step-agreed C (step C k c) d (next C k c w.0 w.1 here) a there).defined,
      )

-- the whole of demand 3, for every number of nodes, beginning and list of cycles
pub demand3 : (C : Config) (G F : ℕ) → Demand3 C G F
demand3 C G F =
    record { agreement = agreement C G F; stray_disturbed = stray_disturbed C G F; stray_halts = stray_halts C G F; joins = joins C G F }
