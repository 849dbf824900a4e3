-- Request 3: what a silent member tells, and one cycle in which the reference group rests, since the steady nodes are silent. Assumes nothing.
use mathlib.Core.Path.{◌≡◌, refl, sym, ap, ap₂, ◌∙◌, subst}
use mathlib.Core.Logic.{◌⊎◌, inl, inr, ◌≢◌}
use mathlib.Core.Bool.{Bool, true, false, not, ◌&&◌, ◌||◌, cond, false≢true}
use mathlib.Core.Option.{Option, none, some}
use Prim.Native.Nat.{ℕ, ◌<◌}
use lib.Dec.{eqb}
use Rattle.sets.specs.Sets.{has, any}
use Rattle.sets.proofs.Booleans.{bool, and_l, and_r, and_i, eqb-true}
use Rattle.sets.proofs.Nodes.{in_those, of_those, any-e}
use Rattle.state.specs.declared.Reason.TheVariants.{Outvoted}
use Rattle.state.specs.declared.Group.{Group}
use Rattle.state.specs.declared.State.{State}
use Rattle.state.specs.declared.State.TheVariants.{Out, Joining, Member}
use Rattle.state.specs.State.{group_of, halted}
use Rattle.rules.specs.declared.Vote.{Vote}
use Rattle.rules.specs.declared.Faults.{Faults}
use Rattle.rules.specs.declared.Config.{Config}
use Rattle.rules.specs.OneCycle.{Ballots, sends_member, sends_join, asks, same_group, wins, with_own, without, rival, member_decides, rests, silent_decides, joiner_decides}
use Rattle.rules.specs.Faults.{Row, at, heartbeat_reaches, heard, own_vote, votes_now}
use Rattle.rules.proofs.Counting.{no}
use Rattle.rules.proofs.Votes.{group_same, view_own}
use Rattle.rules.proofs.Undisturbed.{Undisturbed}
use Rattle.rules.proofs.States.{none-some, some_inj, idle, which, held-sends, sends-held, not-halted, member-votes, silent_decides_lem, idle_decides, Silent, silent_because, silent_if}
use Rattle.theorem_agreement.proofs.OneVote.{passes, common_view, cast, got, done, arrived_cast, own_cast, cast_of, outcome, outcome_vote, outcome_joining, GoesOrHalts, goes_or_halts, EntersOrStays, enters_or_stays, has_own, view_common, Caller, Given, shared}

-- ---- what a silent member does

-- it keeps its group at rest, or halts on a vote of others that wins
abbrev RestsOrHalts : Config → ℕ → Group → Ballots → State → Type 0
RestsOrHalts C q g b s =
    (s ≡ Member (rests g) false) ⊎ ((halted s ≡ true) × (p : ℕ) × (v : Vote) × (without q b p ≡ some v) × (wins C.nodes (without q b) v ≡ true))

rests_or_halts : (C : Config) (q : ℕ) (g : Group) (b : Ballots) → RestsOrHalts C q g b (silent_decides C q g b)
unfolding silent_decides
rests_or_halts C q g b = go (any C.nodes (λ p. rival C.nodes box g (box p))) refl
  where
    box : Ballots
    box = without q b

    winner : (o : Option Vote) → rival C.nodes box g o ≡ true → (v : Vote) × (o ≡ some v) × (wins C.nodes box v ≡ true)
    winner none f = absurd (false≢true f)
    winner (some v) f = (v, refl, and_r (same_group g v.group) (wins C.nodes box v) f)

    go : (a : Bool) → any C.nodes (λ p. rival C.nodes box g (box p)) ≡ a → RestsOrHalts C q g b (cond a (Out Outvoted) (Member (rests g) false))
    go true f =
        let w = any-e C.nodes (λ p. rival C.nodes box g (box p)) f in
        let v = winner (box w.0) w.2 in
        inr (refl, w.0, v.0, v.1, v.2)
    go false f = inl refl

-- what the others sent was cast
others_cast : (C : Config) (c : Faults) (r : Row) (q p : ℕ) (w : Vote) → without q (got C c r q) p ≡ some w → cast C c r p ≡ some w
others_cast C c r q p w = go (eqb p q)
  where
    go : (b : Bool) → cond b none (got C c r q p) ≡ some w → cast C c r p ≡ some w
    go true e = absurd (none-some e)
    go false e = arrived_cast C c r q p w e

-- a member casts its own vote or, if it is silent, none
pub casts : (C : Config) (c : Faults) (r : Row) (q : ℕ) (h : Group) (b : Bool) → q < C.nodes → group_of (at r q) ≡ some h → votes_now C c r q h (asks (at r q)) ≡ b
    → cast C c r q ≡ cond b (some (own_vote C.nodes c r q h)) none
casts C c r q h b l e n = cast_of C c r q l ∙ member-votes C c r q (at r q) h e ∙ ap (λ (x : Bool). cond x (some (own_vote C.nodes c r q h)) none) n

outcome_silent : (C : Config) (c : Faults) (r : Row) (q : ℕ) (h : Group) → q < C.nodes → group_of (at r q) ≡ some h → votes_now C c r q h (asks (at r q)) ≡ false
    → at (done C c r) q ≡ silent_decides C q h (got C c r q)
outcome_silent C c r q h l e n = outcome C c r q l ∙ silent_decides_lem C c r q (at r q) h (got C c r q) e n

-- ---- what its silence tells

heard-is : (N : ℕ) (c : Faults) (r : Row) (sends : State → Bool) (x q : ℕ) → has x (heard N c r sends q) ≡ true
    → (x < N) × (sends (at r x) ≡ true) × (heartbeat_reaches c x q ≡ true)
unfolding heard
heard-is N c r sends x q h =
    let w = of_those x N (λ p. sends (at r p) && heartbeat_reaches c p q) h in
    (w.0, and_l (sends (at r x)) (heartbeat_reaches c x q) w.1, and_r (sends (at r x)) (heartbeat_reaches c x q) w.1)

-- a member that is heard is heard with its request
heard-asks : (N : ℕ) (c : Faults) (r : Row) (x q : ℕ) → has x (heard N c r sends_member q) ≡ true → asks (at r x) ≡ true → has x (heard N c r asks q) ≡ true
unfolding heard
heard-asks N c r x q h a =
    let w = heard-is N c r sends_member x q h in
    in_those x N (λ p. asks (at r p) && heartbeat_reaches c p q) w.0 (and_i (asks (at r x)) (heartbeat_reaches c x q) a w.2)

-- of the other nodes of its set a member sees those that it hears as members
sees_heard : (N : ℕ) (c : Faults) (r : Row) (q : ℕ) (h : Group) (x : ℕ) → eqb x q ≡ false → has x h.set ≡ true
    → has x (own_vote N c r q h).view ≡ has x (heard N c r sends_member q)
sees_heard N c r q h x k m =
    has_own N c r q h x
    ∙ ap₂ (λ (e i : Bool). e || (i && has x (heard N c r sends_member q)) || (has x (heard N c r sends_join q) && not i)) k m
    ∙ go (has x (heard N c r sends_member q)) (has x (heard N c r sends_join q))
  where
    go : (u j : Bool) → (u || (j && false)) ≡ u
    go true j = refl
    go false true = refl
    go false false = refl

-- the nodes of S send as members, and none requests
abbrev AtRest : Config → Row → ℕ → Type 0
AtRest C r S = (x : ℕ) → has x S ≡ true → (x < C.nodes) × (sends_member (at r x) ≡ true) × (asks (at r x) ≡ false)

-- a silent member heard its whole set, and no request from it
set_at_rest : (C : Config) (c : Faults) (r : Row) (q : ℕ) (h : Group) → q < C.nodes → group_of (at r q) ≡ some h → Silent C c r q h (asks (at r q)) → AtRest C r h.set
set_at_rest C c r q h l e s x m = go (eqb x q) refl
  where
    go : (b : Bool) → eqb x q ≡ b → (x < C.nodes) × (sends_member (at r x) ≡ true) × (asks (at r x) ≡ false)
    go true k = subst (λ (y : ℕ). (y < C.nodes) × (sends_member (at r y) ≡ true) × (asks (at r y) ≡ false)) (sym (eqb-true k)) (l, held-sends (at r q) h e, s.own)
    go false k =
        let there : has x (heard C.nodes c r sends_member q) ≡ true = sym (sees_heard C.nodes c r q h x k m) ∙ ap (has x) s.view ∙ m in
        let w = heard-is C.nodes c r sends_member x q there in
        (w.0, w.1, no (asks (at r x)) (λ a. false≢true (sym (s.others x m) ∙ heard-asks C.nodes c r x q there a)))

-- it is in its own set
in_own_set : (C : Config) (c : Faults) (r : Row) (q : ℕ) (h : Group) (a : Bool) → Silent C c r q h a → has q h.set ≡ true
unfolding own_vote
in_own_set C c r q h a s = ap (has q) (sym s.view) ∙ view_own C.nodes q h.set (heard C.nodes c r sends_member q) (heard C.nodes c r sends_join q)

-- g rests: in a quiet press its undisturbed nodes see M, and M is at rest
pub record Resting (C : Config) (c : Faults) (r : Row) (g : Group) : Type 0 where
  pub quiet : C.quiet ≡ true
  pub view : common_view C.nodes c r g ≡ g.set
  pub set : AtRest C r g.set

-- its undisturbed nodes are silent all or none: if one is, g rests, and then all are
pub silent_rests : (C : Config) (c : Faults) (r : Row) (g : Group) (q : ℕ) → q < C.nodes → Undisturbed c q → group_of (at r q) ≡ some g
    → votes_now C c r q g (asks (at r q)) ≡ false → Resting C c r g
silent_rests C c r g q l u e n =
    let s = silent_because C c r q g (asks (at r q)) n in
    record {
      quiet = s.quiet;
      view = sym (ap (λ (v : Vote). v.view) (view_common C.nodes c r g q l u e (in_own_set C c r q g (asks (at r q)) s))) ∙ s.view;
      set = set_at_rest C c r q g l e s;
    }

pub resting_silent : (C : Config) (c : Faults) (r : Row) (g : Group) → Resting C c r g → (q : ℕ) → q < C.nodes → Undisturbed c q → group_of (at r q) ≡ some g
    → has q g.set ≡ true → votes_now C c r q g (asks (at r q)) ≡ false
resting_silent C c r g s q l u e m =
    silent_if C c r q g (asks (at r q))
    (record {
      quiet = s.quiet;
      view = ap (λ (v : Vote). v.view) (view_common C.nodes c r g q l u e m) ∙ s.view;
      own = (s.set q m).2;
      others = λ x i. no (has x (heard C.nodes c r asks q)) (λ h. false≢true (sym (s.set x i).2 ∙ (heard-is C.nodes c r asks x q h).1));
    })

-- ---- every cycle that meets the premise

module _ (C : Config) (c : Faults) (r : Row) (g : Group) (U : ℕ) (k : Given C c r g U) where
  -- a member that does not request holds g, if whoever could call it is in a set at rest
  uncalled : (q : ℕ) (h : Group) (S : ℕ) → q < C.nodes → group_of (at r q) ≡ some h → C.quiet ≡ true → asks (at r q) ≡ false
      → AtRest C r S → ((w : Caller C r g h) → has w.node S ≡ true) → h ≡ g
  uncalled q h S l e y a rest in-set = go (group_same h g)
    where
      called : (asks (at r q) ≡ true) ⊎ Caller C r g h → ⊥
      called (inl i) = false≢true (sym a ∙ i)
      called (inr w) = let x = rest w.node (in-set w) in false≢true (sym x.2 ∙ w.requests x.1)

      go : (h ≡ g) ⊎ (h ≢ g) → h ≡ g
      go (inl s) = s
      go (inr d) = absurd (called (k.stirs y q h l e d))

  -- so whoever is silent holds g, and whoever holds another group votes
  silent-holds : (q : ℕ) (h : Group) → q < C.nodes → group_of (at r q) ≡ some h → votes_now C c r q h (asks (at r q)) ≡ false → h ≡ g
  silent-holds q h l e n =
      let s = silent_because C c r q h (asks (at r q)) n in
      uncalled q h h.set l e s.quiet s.own (set_at_rest C c r q h l e s) (λ w. w.own)

  pub stray-casts : (q : ℕ) (h : Group) → q < C.nodes → group_of (at r q) ≡ some h → h ≢ g → cast C c r q ≡ some (own_vote C.nodes c r q h)
  stray-casts q h l e d = casts C c r q h true l e (passes (votes_now C c r q h (asks (at r q))) (λ n. d (silent-holds q h l e n)))

  -- a member after the cycle was joining, voted, or was silent; the last keeps g at rest, and g rests if it is not disturbed
  abbrev pub Came : ℕ → Group → Type 0
  Came q h = (at r q ≡ Joining) ⊎ (((own : Vote) × (cast C c r q ≡ some own)) ⊎ ((h ≡ rests g) × (Undisturbed c q → Resting C c r g)))

  pub came : (q : ℕ) (h : Group) → q < C.nodes → group_of (at (done C c r) q) ≡ some h → Came q h
  came q h l f = go (which (at r q))
    where
      keeps : (x : Group) → at (done C c r) q ≡ silent_decides C q x (got C c r q) → h ≡ rests x
      keeps x o = pick (rests_or_halts C q x (got C c r q))
        where
          pick : RestsOrHalts C q x (got C c r q) (silent_decides C q x (got C c r q)) → h ≡ rests x
          pick (inl w) = some_inj (sym f ∙ ap group_of (o ∙ w))
          pick (inr w) = absurd (not-halted (at (done C c r) q) h f (ap halted o ∙ w.0))

      go : (idle (at r q) ≡ true) ⊎ ((at r q ≡ Joining) ⊎ ((x : Group) × (group_of (at r q) ≡ some x))) → Came q h
      go (inl i) = absurd (none-some (sym (ap group_of (outcome C c r q l) ∙ idle_decides C c r q (at r q) (got C c r q) i) ∙ f))
      go (inr (inl j)) = inl j
      go (inr (inr m)) = turn (bool (votes_now C c r q m.0 (asks (at r q))))
        where
          turn : (votes_now C c r q m.0 (asks (at r q)) ≡ true) ⊎ (votes_now C c r q m.0 (asks (at r q)) ≡ false) → Came q h
          turn (inl y) = inr (inl (own_vote C.nodes c r q m.0, casts C c r q m.0 true l m.1 y))
          turn (inr n) =
              let is-g : m.0 ≡ g = silent-holds q m.0 l m.1 n in
              inr (inr (
                keeps m.0 (outcome_silent C c r q m.0 l m.1 n) ∙ ap rests is-g,
                λ u. subst (Resting C c r) is-g (silent_rests C c r m.0 q l u m.1 n),
              ))

  -- ---- one in which g rests

  module _ (s : Resting C c r g) where
    -- no vote wins anywhere: it would be that of a steady node, and those are silent
    never : (b : Ballots) (p : ℕ) (v : Vote) → ((q : ℕ) (w : Vote) → b q ≡ some w → cast C c r q ≡ some w) → cast C c r p ≡ some v → wins C.nodes b v ≡ true → ⊥
    never b p v sound e w =
        let m = shared C c r g U k b p v sound e w in
        let x : ℕ = m.0 in
        let u : has x U ≡ true = m.1 in
        let silent = resting_silent C c r g s x (k.below x u) (k.calm x u) (k.hold x u) (k.part x u) in
        none-some (sym (casts C c r x g false (k.below x u) (k.hold x u) silent) ∙ m.2)

    -- so whoever votes halts, and whoever is joining waits
    voter-halts : (q : ℕ) (own : Vote) → cast C c r q ≡ some own → halted (at (done C c r) q) ≡ true
    voter-halts q own e = ap halted (outcome_vote C c r q own e) ∙ go (goes_or_halts C q own (got C c r q))
      where
        go : GoesOrHalts C q own (got C c r q) (member_decides C q own (got C c r q)) → halted (member_decides C q own (got C c r q)) ≡ true
        go (inl w) = absurd (never (with_own q own (got C c r q)) q own (λ p v. own_cast C c r q p own v e) e w.0)
        go (inr w) = w

    joiner-waits : (q : ℕ) → joiner_decides C q (got C c r q) ≡ Joining
    joiner-waits q = go (enters_or_stays C q (got C c r q))
      where
        b : Ballots
        b = got C c r q

        go : EntersOrStays C q b (joiner_decides C q b) → joiner_decides C q b ≡ Joining
        go (inl w) =
            let v : Vote = w.1 in
            absurd (never b w.0 v (λ x y. arrived_cast C c r q x y) (arrived_cast C c r q w.0 v w.2) (and_r (has q v.view && not (has q v.group.set)) (wins C.nodes b v) w.3))
        go (inr w) = w

    -- every member after the cycle holds g at rest
    pub rest-only : (q : ℕ) (h : Group) → q < C.nodes → group_of (at (done C c r) q) ≡ some h → h ≡ rests g
    rest-only q h l f = go (came q h l f)
      where
        go : Came q h → h ≡ rests g
        go (inl j) = absurd (none-some (sym (ap group_of (outcome_joining C c r q l j ∙ joiner-waits q)) ∙ f))
        go (inr (inl w)) = absurd (not-halted (at (done C c r) q) h f (voter-halts q w.0 w.1))
        go (inr (inr w)) = w.0

    -- and so does every undisturbed node of its set
    pub rest-held : (q : ℕ) → Undisturbed c q → has q g.set ≡ true → group_of (at (done C c r) q) ≡ some (rests g)
    rest-held q u m =
        let there = s.set q m in
        let h = sends-held (at r q) there.1 in
        let is-g : h.0 ≡ g = uncalled q h.0 g.set there.0 h.1 s.quiet there.2 s.set (λ w. w.reference) in
        keeps there.0 (h.1 ∙ ap {B = Option Group} some is-g)
      where
        keeps : q < C.nodes → group_of (at r q) ≡ some g → group_of (at (done C c r) q) ≡ some (rests g)
        keeps l e = ap group_of (outcome_silent C c r q g l e (resting_silent C c r g s q l u e m) ∙ go (rests_or_halts C q g (got C c r q)))
          where
            go : RestsOrHalts C q g (got C c r q) (silent_decides C q g (got C c r q)) → silent_decides C q g (got C c r q) ≡ Member (rests g) false
            go (inl w) = w
            go (inr w) = absurd (never (without q (got C c r q)) w.1 w.2 (λ p v. others_cast C c r q p v) (others_cast C c r q w.1 w.2 w.3) w.4)

    pub rest-strays : (q : ℕ) (h : Group) → q < C.nodes → group_of (at r q) ≡ some h → h ≢ g → halted (at (done C c r) q) ≡ true
    rest-strays q h l e d = voter-halts q (own_vote C.nodes c r q h) (stray-casts q h l e d)
