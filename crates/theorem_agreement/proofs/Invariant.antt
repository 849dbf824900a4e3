-- The invariant of agreement, that it holds at the beginning, and that one cycle which meets the premise keeps it. Assumes nothing.
use mathlib.Core.Path.{◌≡◌, refl, sym, ap, ◌∙◌, subst}
use mathlib.Core.Logic.{◌⊎◌, inl, inr, ◌≢◌}
use mathlib.Core.Bool.{Bool, true, false, not, ◌&&◌, cond}
use mathlib.Core.Option.{none, some}
use Prim.Native.Nat.{ℕ, ◌<◌}
use Rattle.sets.specs.Sets.{has, lowest}
use Rattle.sets.specs.Quorum.{quorum}
use Rattle.sets.proofs.Booleans.{bool, and_l, and_r, and_i, not-e, not-i}
use Rattle.sets.proofs.Membership.{◌⊆◌}
use Rattle.sets.proofs.Nodes.{those_in, in_those, of_those, lowest_in}
use Rattle.sets.proofs.Quorum.{quorum_meet}
use Rattle.state.specs.declared.Group.{Group}
use Rattle.state.specs.declared.State.TheVariants.{Joining, Member}
use Rattle.state.specs.State.{group_of, halted, founding_group, initial}
use Rattle.rules.specs.declared.Faults.{Faults}
use Rattle.rules.specs.declared.Config.{Config}
use Rattle.rules.specs.OneCycle.{stopped, stop_and_start, sends_member, asks}
use Rattle.rules.specs.Faults.{Row, at, founding, disturbed, rule_one, cycle}
use Rattle.rules.specs.Reference.{Cluster, beginning, steady, keeps_with, keeps, reference_after, step}
use Rattle.rules.proofs.Rows.{get-tabulate}
use Rattle.rules.proofs.Undisturbed.{undisturbed}
use Rattle.rules.proofs.States.{none-some, some_inj, sends-held, rule1_member, rule1_joining, rule1_back}
use Rattle.theorem_agreement.proofs.OneVote.{done, Overruled, Caller, Stirs, Given}
use Rattle.theorem_agreement.proofs.Outcome.{Done, whole}

-- `g` is the reference group. Each member's set lies in its base; a member that was not disturbed lately holds `g`, and so does every node of `g` that was
-- not; a member that holds another group is overruled by whatever quorum holds `g`, and called to vote in a quiet press. (Nothing is said of all members having
-- one base.)
pub record Agreed (C : Config) (k : Cluster) (g : Group) : Type 0 where
  pub defined : k.reference ≡ some g
  pub inside : ◌⊆◌ g.set g.base
  pub formed : (q : ℕ) (h : Group) → q < C.nodes → group_of (at k.row q) ≡ some h → ◌⊆◌ h.set h.base
  pub overruled : (q : ℕ) (h : Group) → q < C.nodes → group_of (at k.row q) ≡ some h → h ≢ g
      → (W : ℕ) → ◌⊆◌ W g.base → quorum W g.base ≡ true → ((x : ℕ) → has x W ≡ true → group_of (at k.row x) ≡ some g) → Overruled C k.row h
  pub calm : (q : ℕ) (h : Group) → q < C.nodes → has q k.lately ≡ false → group_of (at k.row q) ≡ some h → h ≡ g
  pub hold : (q : ℕ) → q < C.nodes → has q g.set ≡ true → has q k.lately ≡ false → group_of (at k.row q) ≡ some g
  pub stirs : Stirs C k.row g

-- ---- at the beginning

founded : (N G F q : ℕ) → q < N → at (founding N G F) q ≡ initial G F q
unfolding founding
founded N G F q l = get-tabulate N q (initial G F) stopped l

pub at_first : (C : Config) (G F : ℕ) → Agreed C (beginning C G F) (founding_group G F)
unfolding beginning
at_first C G F =
    record {
      defined = refl;
      inside = λ q h. h;
      formed = λ q h l e. subst (λ (x : Group). ◌⊆◌ x.set x.base) (sym (is-first q h l e)) (λ z u. u);
      overruled = λ q h l e d W i m a. absurd (d (is-first q h l e));
      calm = λ q h l t e. is-first q h l e;
      hold = λ q l m t. ap group_of (founded C.nodes G F q l ∙ ap (λ (b : Bool). cond b (Member (founding_group G F) false) stopped) m);
      stirs = λ y q h l e d. absurd (d (is-first q h l e));
    }
  where
    is-first : (q : ℕ) (h : Group) → q < C.nodes → group_of (at (founding C.nodes G F) q) ≡ some h → h ≡ founding_group G F
    is-first q h l e = go (has q F) (sym (ap group_of (founded C.nodes G F q l)) ∙ e)
      where
        go : (b : Bool) → group_of (cond b (Member (founding_group G F) false) stopped) ≡ some h → h ≡ founding_group G F
        go true f = some_inj (sym f)
        go false f = absurd (none-some f)

-- ---- one cycle that meets the premise

after_rule1 : (N : ℕ) (c : Faults) (row : Row) (q : ℕ) → q < N
    → at (rule_one N c row) q ≡ stop_and_start (has q c.stop) (has q c.start) (at row q)
unfolding rule_one
after_rule1 N c row q l = get-tabulate N q (λ x. stop_and_start (has x c.stop) (has x c.start) (at row x)) stopped l

-- the nodes that q is one of as a steady node
abbrev is_steady : Cluster → Faults → Group → ℕ → Bool
is_steady k c g q = has q g.set && not (disturbed c q) && not (has q k.lately)

record Steady (C : Config) (k : Cluster) (c : Faults) (g : Group) (q : ℕ) : Type 0 where
  pub below : q < C.nodes
  pub part : has q g.set ≡ true
  pub now : disturbed c q ≡ false
  pub before : has q k.lately ≡ false

of_steady : (C : Config) (k : Cluster) (c : Faults) (g : Group) (q : ℕ) → has q (steady C k c g) ≡ true → Steady C k c g q
unfolding steady
of_steady C k c g q h =
    let w = of_those q C.nodes (is_steady k c g) h in
    let l = and_l (has q g.set && not (disturbed c q)) (not (has q k.lately)) w.1 in
    record {
      below = w.0;
      part = and_l (has q g.set) (not (disturbed c q)) l;
      now = not-e (disturbed c q) (and_r (has q g.set) (not (disturbed c q)) l);
      before = not-e (has q k.lately) (and_r (has q g.set && not (disturbed c q)) (not (has q k.lately)) w.1);
    }

in_steady : (C : Config) (k : Cluster) (c : Faults) (g : Group) (q : ℕ) → Steady C k c g q → has q (steady C k c g) ≡ true
unfolding steady
in_steady C k c g q s =
    in_those q C.nodes (is_steady k c g) s.below
    (and_i (has q g.set && not (disturbed c q)) (not (has q k.lately))
    (and_i (has q g.set) (not (disturbed c q)) s.part (not-i (disturbed c q) s.now)) (not-i (has q k.lately) s.before))

module _ (C : Config) (k : Cluster) (c : Faults) (g : Group) (a : Agreed C k g) (kept : keeps C k c ≡ true) where
  abbrev U : ℕ
  U = steady C k c g

  -- the row after rule 1
  abbrev now : Row
  now = rule_one C.nodes c k.row

  premise : quorum U g.base ≡ true
  unfolding keeps
  premise = ap (keeps_with C k c) (sym a.defined) ∙ kept

  steady-inside : ◌⊆◌ U g.base
  steady-inside x u = a.inside x (of_steady C k c g x u).part

  -- a member that is not stopped is what it was; who is a member now was the same
  still : (q : ℕ) (h : Group) → q < C.nodes → has q c.stop ≡ false → group_of (at k.row q) ≡ some h → group_of (at now q) ≡ some h
  still q h l s e =
      ap group_of (after_rule1 C.nodes c k.row q l ∙ rule1_member (has q c.stop) (has q c.start) (at k.row q) h s e) ∙ e

  was : (q : ℕ) (h : Group) → q < C.nodes → group_of (at now q) ≡ some h → at now q ≡ at k.row q
  was q h l e =
      let f = after_rule1 C.nodes c k.row q l in
      f ∙ rule1_back (has q c.stop) (has q c.start) (at k.row q) h (sym (ap group_of f) ∙ e)

  held : (q : ℕ) (h : Group) → q < C.nodes → group_of (at now q) ≡ some h → group_of (at k.row q) ≡ some h
  held q h l e = sym (ap group_of (was q h l e)) ∙ e

  steady-held : (q : ℕ) → has q U ≡ true → group_of (at k.row q) ≡ some g
  steady-held q u = let s = of_steady C k c g q u in a.hold q s.below s.part s.before

  steady-holds : (q : ℕ) → has q U ≡ true → group_of (at now q) ≡ some g
  steady-holds q u = let s = of_steady C k c g q u in still q g s.below (undisturbed c q s.now).runs (steady-held q u)

  overruled : (q : ℕ) (h : Group) → q < C.nodes → group_of (at now q) ≡ some h → h ≢ g → Overruled C now h
  overruled q h l e d =
      let o = a.overruled q h l (held q h l e) d U steady-inside premise steady-held in
      record { rest = o.rest; inside = o.inside; most = o.most; others = λ x b u f. o.others x b u (held x h b f) }

  -- whoever called a member and still sends as one requests as it did
  stirs : Stirs C now g
  stirs y q h l e d = go (a.stirs y q h l (held q h l e) d)
    where
      go : (asks (at k.row q) ≡ true) ⊎ Caller C k.row g h → (asks (at now q) ≡ true) ⊎ Caller C now g h
      go (inl t) = inl (ap asks (was q h l e) ∙ t)
      go (inr w) = inr (record { node = w.node; below = w.below; own = w.own; reference = w.reference; requests = again })
        where
          again : sends_member (at now w.node) ≡ true → asks (at now w.node) ≡ true
          again s =
              let m = sends-held (at now w.node) s in
              let same = was w.node m.0 w.below m.1 in
              ap asks same ∙ w.requests (sym (ap sends_member same) ∙ s)

  given : Given C c now g U
  given =
      record {
        inside = a.inside;
        below = λ q u. (of_steady C k c g q u).below;
        part = λ q u. (of_steady C k c g q u).part;
        calm = λ q u. undisturbed c q (of_steady C k c g q u).now;
        hold = steady-holds;
        most = premise;
        formed = λ q h l e. a.formed q h l (held q h l e);
        overruled = overruled;
        stirs = stirs;
      }

  -- the next reference group
  pub next : Group
  next = (whole C c now g U given).0

  its : Done C c now g U next
  unfolding next
  its = (whole C c now g U given).1

  row_is : (step C k c).row ≡ done C c now
  unfolding step cycle
  row_is = refl

  pub lately-is : (q : ℕ) → q < C.nodes → has q (step C k c).lately ≡ disturbed c q
  unfolding step
  lately-is q l = those_in q C.nodes (disturbed c) l

  reference-is : (step C k c).reference ≡ some next
  unfolding step cycle
  reference-is =
      let one = quorum_meet U U g.base steady-inside steady-inside premise premise in
      let low = lowest_in C.nodes one.0 (λ q. has q U) (of_steady C k c g one.0 one.1).below one.1 in
      ap (reference_after C k c (done C c now)) a.defined
      ∙ ap (λ (b : Bool). cond b (group_of (at (done C c now) (lowest C.nodes (λ q. has q U)))) none) premise
      ∙ its.goes (lowest C.nodes (λ q. has q U)) low.1

  pub step-agreed : Agreed C (step C k c) next
  unfolding step cycle
  step-agreed =
      record {
        defined = reference-is;
        inside = its.inside;
        formed = its.formed;
        overruled = its.overruled;
        calm = λ q h l t e. its.calm q h l (undisturbed c q (sym (lately-is q l) ∙ t)) e;
        hold = λ q l m t. its.hold q (undisturbed c q (sym (lately-is q l) ∙ t)) m;
        stirs = its.stirs;
      }

  -- a member that does not hold the reference group halts, or is stopped
  pub step-stray : (q : ℕ) (h : Group) → q < C.nodes → group_of (at k.row q) ≡ some h → h ≢ g
      → (halted (at (step C k c).row q) ≡ true) ⊎ (has q c.stop ≡ true)
  step-stray q h l e d = go (bool (has q c.stop))
    where
      go : (has q c.stop ≡ true) ⊎ (has q c.stop ≡ false) → (halted (at (step C k c).row q) ≡ true) ⊎ (has q c.stop ≡ true)
      go (inl s) = inr s
      go (inr s) = inl (ap (λ (x : Row). halted (at x q)) row_is ∙ its.strays q h l (still q h l s e) d)

  -- a node that is joining after rule 1 and is not disturbed enters now, or waits outside the new set
  abbrev pub EntersOrWaits : ℕ → Type 0
  EntersOrWaits q = (has q next.set ≡ true) ⊎ ((at (step C k c).row q ≡ Joining) × (has q next.set ≡ false))

  pub step-joins : (q : ℕ) → q < C.nodes → disturbed c q ≡ false
      → stop_and_start (has q c.stop) (has q c.start) (at k.row q) ≡ Joining → EntersOrWaits q
  unfolding step cycle
  step-joins q l t e = go (bool (has q g.set))
    where
      joining : at now q ≡ Joining
      joining = after_rule1 C.nodes c k.row q l ∙ e

      go : (has q g.set ≡ true) ⊎ (has q g.set ≡ false) → EntersOrWaits q
      go (inl m) = inr (its.waits q l joining m)
      go (inr m) = inl (its.enters q l (undisturbed c q t) joining m).1

  -- a joining node outside the set that is not disturbed enters; a steady member stays
  pub step-enters : (q : ℕ) → q < C.nodes → disturbed c q ≡ false → at k.row q ≡ Joining → has q g.set ≡ false
      → group_of (at (step C k c).row q) ≡ some next
  unfolding step cycle
  step-enters q l t e m =
      let u = undisturbed c q t in
      let joining : at now q ≡ Joining =
      after_rule1 C.nodes c k.row q l ∙ ap (stop_and_start (has q c.stop) (has q c.start)) e
      ∙ rule1_joining (has q c.stop) (has q c.start) u.runs in
      (its.enters q l u joining m).0

  pub step_stays : (q : ℕ) → q < C.nodes → disturbed c q ≡ false → has q k.lately ≡ false → has q g.set ≡ true
      → group_of (at (step C k c).row q) ≡ some next
  unfolding step cycle
  step_stays q l t b m = its.goes q (in_steady C k c g q (record { below = l; part = m; now = t; before = b }))
