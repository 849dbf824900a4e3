-- What is watched of a cycle: the nodes that it disturbs, the steady ones, the reference group after it, and who halted and entered. Assumes nothing.
use mathlib.Core.Path.{◌≡◌, refl, sym, ap, ap₂, subst, ◌∙◌}
use mathlib.Core.Bool.{Bool, true, false, not, ◌&&◌, ◌||◌, cond, false≢true}
use mathlib.Core.Option.{Option, none, some}
use Rattle.std.specs.Prelude.{Option as Optional, None, Some, IfSome, is_some}
use Prim.Native.Nat.{ℕ, ◌≤◌, ◌<◌}
use native.Mathlib.Omega.{arith}
use lib.Dec.{eqb, ltb}
use Rattle.sets.specs.Sets.{has, single, ◌∪◌, ◌∩◌, ◌∖◌, those, below, lowest, any}
use Rattle.sets.specs.Quorum.{quorum}
use Rattle.sets.proofs.Booleans.{eqb_self, eqb-true, ltb-lt, both, and_l, and_r, or_f_l, or_f_r}
use Rattle.sets.proofs.Membership.{has_union, has_inter, has_diff, has-none, set_ext}
use Rattle.sets.proofs.Nodes.{has-those, those_in, of_those, has-below, lowest_in, lowest_least}
use Rattle.state.specs.declared.Reason.TheVariants.{NoQuorum, Outvoted}
use Rattle.state.specs.declared.Group.{Group}
use Rattle.state.specs.declared.State.{State}
use Rattle.state.specs.declared.State.TheVariants.{Out, Joining, Member}
use Rattle.state.specs.State.{group_of, halted}
use Rattle.rules.specs.declared.Faults.{Faults}
use Rattle.rules.specs.declared.Vote.{Vote}
use Rattle.rules.specs.declared.Config.{Config}
use Rattle.rules.specs.OneCycle.{Ballots, stopped, sends_member, sends_join, wins, member_on, with_own, without, rival, member_decides, rests, silent_decides}
use Rattle.rules.specs.Faults.{Row, at, heartbeats_missed, votes_missed, misses_other, disturbed, rule_one, own_vote, votes_now, votes, arrived_at, decides, decisions, cycle}
use Rattle.rules.specs.Reference.{Cluster, steady, keeps_with, keeps, reference_after, step, halted_in, entered_in}
use Rattle.rules.proofs.Rows.{get-tabulate}
use Rattle.rules.proofs.Counting.{quorum_node}
use Rattle.cluster_states.specs.declared.Roles.{Roles}
use Rattle.cluster_states.specs.declared.States.{States}
use Rattle.cluster_states.specs.States.{roles_of, group_at, state_at, row_of}
use Rattle.cluster_states.specs.Decided.{roles_after}
use Rattle.cluster_states.proofs.Whole.{by_role, no_member, member_role, members-high, joining-high, sends-member, sends-join}
use Rattle.cluster_watched.specs.declared.Watch.{Watch}
use Rattle.cluster_watched.specs.Watched.{defined, cluster_of, misses_at, steady_of, held_after}

-- ---- the nodes that a cycle disturbs

empty_union : (a b : ℕ) → eqb (a ∪ b) 0 ≡ (eqb a 0 && eqb b 0)
empty_union a b = both (eqb (a ∪ b) 0) (eqb a 0 && eqb b 0) to from
  where
    is-empty : (m : ℕ) → ((q : ℕ) → has q m ≡ false) → eqb m 0 ≡ true
    is-empty m f = let e : m ≡ 0 = set_ext (λ q. f q ∙ sym (has-none q)) in ap (λ (x : ℕ). eqb x 0) e ∙ eqb_self 0

    to : eqb (a ∪ b) 0 ≡ true → (eqb a 0 && eqb b 0) ≡ true
    to e =
        let none : (q : ℕ) → (has q a || has q b) ≡ false = λ q. sym (has_union q a b) ∙ ap (has q) (eqb-true e) ∙ has-none q in
        ap₂ (λ (x y : Bool). x && y) (is-empty a (λ q. or_f_l (has q a) (has q b) (none q))) (is-empty b (λ q. or_f_r (has q a) (has q b) (none q)))

    from : (eqb a 0 && eqb b 0) ≡ true → eqb (a ∪ b) 0 ≡ true
    from e =
        let x : a ≡ 0 = eqb-true (and_l (eqb a 0) (eqb b 0) e) in
        let y : b ≡ 0 = eqb-true (and_r (eqb a 0) (eqb b 0) e) in
        is-empty (a ∪ b) (λ q. has_union q a b ∙ ap₂ (λ (u v : ℕ). has q u || has q v) x y ∙ ap (λ (z : Bool). z || z) (has-none q))

misses_either : (q a b : ℕ) → misses_other q (a ∪ b) ≡ (misses_other q a || misses_other q b)
misses_either q a b = ap (λ (x : ℕ). not (eqb x 0)) parts ∙ ap not (empty_union (a ∖ single q) (b ∖ single q)) ∙ not-both (eqb (a ∖ single q) 0) (eqb (b ∖ single q) 0)
  where
    not-both : (x y : Bool) → not (x && y) ≡ (not x || not y)
    not-both true y = refl
    not-both false y = refl

    spread : (x y z : Bool) → ((x || y) && z) ≡ ((x && z) || (y && z))
    spread true y true = refl
    spread true true false = refl
    spread true false false = refl
    spread false y z = refl

    parts : (a ∪ b) ∖ single q ≡ (a ∖ single q) ∪ (b ∖ single q)
    parts = set_ext (λ p.
        has_diff p (a ∪ b) (single q) ∙ ap (λ (x : Bool). x && not (has p (single q))) (has_union p a b) ∙ spread (has p a) (has p b) (not (has p (single q)))
        ∙ sym (has_union p (a ∖ single q) (b ∖ single q) ∙ ap₂ (λ (x y : Bool). x || y) (has_diff p a (single q)) (has_diff p b (single q))))

pub disturbed_are : (n marked d : ℕ) (f : Faults) → marked ≡ f.stop ∪ f.heartbeat_lost ∪ f.vote_lost → d ≡ below n marked ∪ those n (misses_at f.heartbeat_missed f.vote_missed)
    → d ≡ those n (disturbed f)
unfolding disturbed
disturbed_are n marked d f e k = k ∙ set_ext each
  where
    misses : ℕ → Bool
    misses = misses_at f.heartbeat_missed f.vote_missed

    spread : (l x y z : Bool) → ((l && x) || (l && (y || z))) ≡ (l && (x || y || z))
    spread true true y z = refl
    spread true false y z = refl
    spread false x y z = refl

    three : (q : ℕ) → has q marked ≡ (has q f.stop || has q f.heartbeat_lost || has q f.vote_lost)
    three q =
        ap (has q) e ∙ has_union q (f.stop ∪ f.heartbeat_lost) f.vote_lost
        ∙ ap (λ (x : Bool). x || has q f.vote_lost) (has_union q f.stop f.heartbeat_lost)

    each : (q : ℕ) → has q (below n marked ∪ those n misses) ≡ has q (those n (disturbed f))
    each q =
        has_union q (below n marked) (those n misses) ∙ ap₂ (λ (x y : Bool). x || y) (has-below q n marked ∙ ap (λ (x : Bool). ltb q n && x) (three q)) (has-those q n misses ∙ ap (λ (x : Bool). ltb q n && x) (misses_either q (heartbeats_missed f q) (votes_missed f q)))
        ∙ spread (ltb q n) (has q f.stop || has q f.heartbeat_lost || has q f.vote_lost) (misses_other q (heartbeats_missed f q)) (misses_other q (votes_missed f q))
        ∙ sym (has-those q n (disturbed f))

-- ---- the steady nodes and the reference group

-- the lowest of more nodes, where there is one among the first n
lowest_more : (n k q : ℕ) (p : ℕ → Bool) → n ≤ k → q < n → p q ≡ true → lowest k p ≡ lowest n p
lowest_more n k q p l h e =
    let few = lowest_in n q p h e in
    let many = lowest_in k q p (omega arith) e in
    let under : lowest n p < lowest k p → ⊥ = λ g. false≢true (sym (lowest_least k (lowest n p) p g) ∙ few.1) in
    let over : lowest k p < lowest n p → ⊥ = λ g. false≢true (sym (lowest_least n (lowest k p) p g) ∙ many.1) in
    omega arith

-- the group that a state holds, by its role
group_role : (m j u v : Bool) (g : Group) (a : Bool) → group_of (by_role m j u v g a) ≡ cond m (some g) none
group_role true j u v g a = refl
group_role false j u v g a = no_member group_of none refl (λ r. refl) j u v g a

module _ (C : Config) (s : States) (w : Watch) (f : Faults) where
  abbrev n : ℕ
  n = C.nodes

  abbrev watched : Cluster
  watched = cluster_of n s w

  -- the steady nodes as the rules have them, where they are a quorum
  abbrev steady_in : Optional Group → Optional ℕ
  steady_in None = None
  steady_in (Some g) = cond (quorum (steady C watched f g) g.base) (Some (steady C watched f g)) None

  steady-are : (d : ℕ) (g : Group) → d ≡ those n (disturbed f) → below n (g.set ∖ d ∖ w.lately) ≡ steady C watched f g
  unfolding steady
  steady-are d g e = set_ext (λ q. has-below q n (g.set ∖ d ∖ w.lately) ∙ go q (ltb q n) refl ∙ sym (has-those q n test))
    where
      test : ℕ → Bool
      test q = has q g.set && not (disturbed f q) && not (has q w.lately)

      go : (q : ℕ) (a : Bool) → ltb q n ≡ a → (a && has q (g.set ∖ d ∖ w.lately)) ≡ (a && test q)
      go q true h =
          has_diff q (g.set ∖ d) w.lately
          ∙ ap (λ (x : Bool). x && not (has q w.lately)) (has_diff q g.set d ∙ ap (λ (x : Bool). has q g.set && not x) (ap (has q) e ∙ those_in q n (disturbed f) (ltb-lt h)))
      go q false h = refl

  pub steady-known : (d : ℕ) (o : Optional Group) → d ≡ those n (disturbed f) → steady_of n o d w.lately ≡ steady_in o
  steady-known d None e = refl
  steady-known d (Some g) e = ap (λ (m : ℕ). cond (quorum m g.base) (Some m) None) (steady-are d g e)

  -- the lowest of the steady nodes is one of them
  lowest_steady : (g : Group) → n ≤ 64 → quorum (steady C watched f g) g.base ≡ true
      → (lowest 64 (λ q. has q (steady C watched f g)) ≡ lowest n (λ q. has q (steady C watched f g))) × (lowest n (λ q. has q (steady C watched f g)) < n)
  unfolding steady
  lowest_steady g small h =
      let x = quorum_node (steady C watched f g) g.base h in
      let y = of_those x.0 n (λ q. has q g.set && not (disturbed f q) && not (has q w.lately)) x.1 in
      (lowest_more n 64 x.0 (λ q. has q (steady C watched f g)) small y.0 x.1, (lowest_in n x.0 (λ q. has q (steady C watched f g)) y.0 x.1).0)

  module _ (u : Optional ℕ) (e : u ≡ steady_in w.group) where
    pub kept-is : is_some u ≡ keeps C watched f
    unfolding keeps
    kept-is = ap is_some e ∙ go w.group
      where
        there : (b : Bool) (m : ℕ) → is_some (cond b (Some m) None) ≡ b
        there true m = refl
        there false m = refl

        go : (o : Optional Group) → is_some (steady_in o) ≡ keeps_with C watched f (defined o)
        go None = refl
        go (Some g) = there (quorum (steady C watched f g) g.base) (steady C watched f g)

    pub first_in : n ≤ 64 → IfSome u (λ m. lowest 64 (λ q. has q m) < 64)
    first_in small = subst (λ (x : Optional ℕ). IfSome x (λ m. lowest 64 (λ q. has q m) < 64)) (sym e) (go w.group)
      where
        there : (g : Group) (b : Bool) → quorum (steady C watched f g) g.base ≡ b → IfSome (cond b (Some (steady C watched f g)) None) (λ m. lowest 64 (λ q. has q m) < 64)
        there g true h = let low = lowest_steady g small h in omega (arith, low.0, low.1)
        there g false h = tt

        go : (o : Optional Group) → IfSome (steady_in o) (λ m. lowest 64 (λ q. has q m) < 64)
        go None = tt
        go (Some g) = there g (quorum (steady C watched f g) g.base) refl

    module _ (small : n ≤ 64) (next : States) (same : row_of n next ≡ cycle C f (row_of n s)) where
      -- the group of a node after the cycle
      held : (q : ℕ) → q < n → group_of (at (cycle C f (row_of n s)) q) ≡ cond (has q next.roles.members) (some (group_at next q)) none
      unfolding row_of state_at
      held q h =
          ap (λ (r : Row). group_of (at r q)) (sym same) ∙ ap group_of (get-tabulate n q (state_at next) stopped h)
          ∙ group_role (has q next.roles.members) (has q next.roles.joining) (has q next.roles.no_quorum) (has q next.roles.outvoted) (group_at next q) (has q next.roles.asking)

      reference-is : defined (held_after u next.roles.members next.groups) ≡ reference_after C watched f (cycle C f (row_of n s)) (defined w.group)
      reference-is = ap (λ (x : Optional ℕ). defined (held_after x next.roles.members next.groups)) e ∙ go w.group
        where
          choose : (b : Bool) (g : Group) → ◌≡◌ {A = Option Group} (defined (cond b (Some g) None)) (cond b (some g) none)
          choose true g = refl
          choose false g = refl

          there : (g : Group) (b : Bool) → quorum (steady C watched f g) g.base ≡ b
              → ◌≡◌ {A = Option Group} (defined (held_after (cond b (Some (steady C watched f g)) None) next.roles.members next.groups)) (cond b (group_of (at (cycle C f (row_of n s)) (lowest n (λ q. has q (steady C watched f g))))) none)
          there g false h = refl
          there g true h =
              let low = lowest_steady g small h in
              let q : ℕ = lowest n (λ q. has q (steady C watched f g)) in
              ap (λ (l : ℕ). defined (cond (has l next.roles.members) (Some (group_at next l)) None)) low.0
              ∙ choose (has q next.roles.members) (group_at next q)
              ∙ sym (held q low.1)

          go : (o : Optional Group) → ◌≡◌ {A = Option Group} (defined (held_after (steady_in o) next.roles.members next.groups)) (reference_after C watched f (cycle C f (row_of n s)) (defined o))
          go None = refl
          go (Some g) = there g (quorum (steady C watched f g) g.base) refl

      -- the cluster after the cycle
      pub stepped : (d : ℕ) (o : Optional Group) → d ≡ those n (disturbed f) → o ≡ held_after u next.roles.members next.groups
          → cluster_of n next (record { group = o; lately = d }) ≡ step C watched f
      unfolding step
      stepped d o k l = λ i. record { row = same i; reference = (ap defined l ∙ reference-is) i; lately = k i }

-- ---- who halted and entered

-- a member that is none after the cycle has halted
abbrev HaltsOrStays : State → Type 0
HaltsOrStays s = halted s ≡ not (sends_member s)

either : (x : Bool) (s t : State) → HaltsOrStays s → HaltsOrStays t → HaltsOrStays (cond x s t)
either true s t hs ht = hs
either false s t hs ht = ht

member_halts : (C : Config) (q : ℕ) (own : Vote) (arrived : Ballots) → HaltsOrStays (member_decides C q own arrived)
unfolding member_decides
member_halts C q own arrived =
    let b : Ballots = with_own q own arrived in
    either (wins C.nodes b own) (member_on C b own) _ refl (either (any C.nodes (λ p. rival C.nodes b own.group (b p))) (Out Outvoted) (Out NoQuorum) refl refl)

silent_halts : (C : Config) (q : ℕ) (g : Group) (arrived : Ballots) → HaltsOrStays (silent_decides C q g arrived)
unfolding silent_decides
silent_halts C q g arrived =
    let b : Ballots = without q arrived in
    either (any C.nodes (λ p. rival C.nodes b g (b p))) (Out Outvoted) (Member (rests g) false) refl refl

stays_or_halts : (C : Config) (c : Faults) (r : Row) (q : ℕ) (s : State) (b : Ballots) → (sends_member s && halted (decides C c r q s b)) ≡ (sends_member s && not (sends_member (decides C c r q s b)))
stays_or_halts C c r q (Out k) b = refl
stays_or_halts C c r q Joining b = refl
stays_or_halts C c r q (Member g a) b =
    either (votes_now C c r q g a) (member_decides C q (own_vote C.nodes c r q g) b) (silent_decides C q g b) (member_halts C q (own_vote C.nodes c r q g) b) (silent_halts C q g b)

module _ (C : Config) (s : States) (f : Faults) (before : Roles) (next : States) (ruled : before ≡ roles_after C.nodes (roles_of s) f.stop f.start)
    (same : row_of C.nodes next ≡ cycle C f (row_of C.nodes s)) where
  member-next : (q : ℕ) → q < C.nodes → sends_member (at (cycle C f (row_of C.nodes s)) q) ≡ has q next.roles.members
  unfolding row_of state_at
  member-next q h =
      ap (λ (r : Row). sends_member (at r q)) (sym same) ∙ ap sends_member (get-tabulate C.nodes q (state_at next) stopped h)
      ∙ member_role (has q next.roles.members) (has q next.roles.joining) (has q next.roles.no_quorum) (has q next.roles.outvoted) (group_at next q) (has q next.roles.asking)

  gone : (q : ℕ) → q < C.nodes → (sends_member (at (rule_one C.nodes f (row_of C.nodes s)) q) && halted (at (cycle C f (row_of C.nodes s)) q)) ≡ (sends_member (at (rule_one C.nodes f (row_of C.nodes s)) q) && not (sends_member (at (cycle C f (row_of C.nodes s)) q)))
  unfolding cycle decisions
  gone q h = rw (get-tabulate C.nodes q (λ p. decides C f r p (at r p) (arrived_at f (votes C f r) p)) stopped h) (stays_or_halts C f r q (at r q) (arrived_at f (votes C f r) q))
    where
      r : Row
      r = rule_one C.nodes f (row_of C.nodes s)

  pub halted-are : (m : ℕ) → m ≡ before.members ∖ next.roles.members → m ≡ halted_in C f (row_of C.nodes s)
  unfolding halted_in
  halted-are m e = e ∙ ap (λ (x : Roles). x.members ∖ next.roles.members) ruled ∙ set_ext (λ q. has_diff q M next.roles.members ∙ go q (ltb q C.nodes) refl ∙ sym (has-those q C.nodes test))
    where
      M : ℕ
      M = (roles_after C.nodes (roles_of s) f.stop f.start).members

      test : ℕ → Bool
      test q = sends_member (at (rule_one C.nodes f (row_of C.nodes s)) q) && halted (at (cycle C f (row_of C.nodes s)) q)

      go : (q : ℕ) (a : Bool) → ltb q C.nodes ≡ a → (has q M && not (has q next.roles.members)) ≡ (a && test q)
      go q true h = sym (gone q (ltb-lt h) ∙ ap₂ (λ (x y : Bool). x && not y) (sends-member C s f q (ltb-lt h)) (member-next q (ltb-lt h)))
      go q false h = ap (λ (x : Bool). x && not (has q next.roles.members)) (members-high C s f q h)

  pub entered-are : (m : ℕ) → m ≡ before.joining ∩ next.roles.members → m ≡ entered_in C f (row_of C.nodes s)
  unfolding entered_in
  entered-are m e = e ∙ ap (λ (x : Roles). x.joining ∩ next.roles.members) ruled ∙ set_ext (λ q. has_inter q J next.roles.members ∙ go q (ltb q C.nodes) refl ∙ sym (has-those q C.nodes test))
    where
      J : ℕ
      J = (roles_after C.nodes (roles_of s) f.stop f.start).joining

      test : ℕ → Bool
      test q = sends_join (at (rule_one C.nodes f (row_of C.nodes s)) q) && sends_member (at (cycle C f (row_of C.nodes s)) q)

      go : (q : ℕ) (a : Bool) → ltb q C.nodes ≡ a → (has q J && has q next.roles.members) ≡ (a && test q)
      go q true h = sym (ap₂ (λ (x y : Bool). x && y) (sends-join C s f q (ltb-lt h)) (member-next q (ltb-lt h)))
      go q false h = ap (λ (x : Bool). x && has q next.roles.members) (joining-high C s f q h)
