-- One cycle in which the steady nodes cast one vote, from rule 2 on: `r` is the row after rule 1, `g` the reference group, `U` its steady nodes.
-- Who else votes is left open. Assumes nothing.
use mathlib.Core.Path.{◌≡◌, refl, sym, ap, ap₂, ◌∙◌, subst}
use mathlib.Core.Logic.{◌⊎◌, inl, inr, ◌≢◌}
use mathlib.Core.Bool.{Bool, true, false, not, ◌&&◌, ◌||◌, cond, true≢false, false≢true}
use mathlib.Core.Option.{Option, none, some}
use Prim.Native.Nat.{ℕ, ◌<◌}
use lib.Dec.{eqb, ltb}
use lib.ListN.{get_or}
use Rattle.sets.specs.Sets.{has, ◌∪◌, ◌∩◌, ◌∖◌, those, lowest, any, every}
use Rattle.sets.specs.Quorum.{quorum}
use Rattle.sets.proofs.Booleans.{bool, and_l, and_r, and_i, or_l, or_r, not-e, not-i, eqb-true, ltb-lt, ltb-le}
use Rattle.sets.proofs.Membership.{◌⊆◌, has_union, has_inter, has_diff, set_ext}
use Rattle.sets.proofs.Nodes.{has-those, those-below, in_those, of_those, lowest_in, every-i}
use Rattle.sets.proofs.Quorum.{quorum_meet, quorum_mono}
use Rattle.state.specs.declared.Reason.TheVariants.{NoQuorum, Outvoted}
use Rattle.state.specs.declared.Group.{Group}
use Rattle.state.specs.declared.State.{State}
use Rattle.state.specs.declared.State.TheVariants.{Out, Joining}
use Rattle.state.specs.State.{group_of, halted}
use Rattle.rules.specs.declared.Vote.{Vote}
use Rattle.rules.specs.declared.Faults.{Faults}
use Rattle.rules.specs.declared.Config.{Config}
use Rattle.rules.specs.OneCycle.{Ballots, stopped, sends_member, sends_join, asks, is, voters, wins, new_group, request_after, member_on, with_own, rival, member_decides, rests, fits, enters_with, enter_on, joiner_decides}
use Rattle.rules.specs.Faults.{Row, at, heartbeat_reaches, vote_reaches, heard, own_vote, vote_of, votes, arrive_if, arrived_at, decides, decisions}
use Rattle.rules.proofs.Rows.{get-tabulate, get-tabulate-out}
use Rattle.rules.proofs.Counting.{quorum_node}
use Rattle.rules.proofs.Votes.{group_same, is_self, has_view, voters-sub, voters-is, in_voters, base_is, new_inside, in_new, new_in, voters_in, no_request_rests, wins_ext, group_ext, member_ext, enters_ext}
use Rattle.rules.proofs.Undisturbed.{Undisturbed, reach_heartbeat, reach_vote}
use Rattle.rules.proofs.States.{none-some, some_inj, is_joining, held-sends, not-halted, vote-group, vote-decides}

-- a test that cannot fail passes
pub passes : (b : Bool) → (b ≡ false → ⊥) → b ≡ true
passes true f = refl
passes false f = absurd (f refl)

-- ---- the vote of the steady nodes, and what a node that misses nothing gets

-- the nodes whose heartbeat was sent and not lost
unfoldable pub sent : ℕ → Faults → Row → (State → Bool) → ℕ
sent N c r sends = those N (λ p. sends (at r p) && not (has p c.heartbeat_lost))

unfoldable pub common_view : ℕ → Faults → Row → Group → ℕ
common_view N c r g = (g.set ∩ sent N c r sends_member) ∪ (sent N c r sends_join ∖ g.set)

abbrev pub common_vote : ℕ → Faults → Row → Group → Vote
common_vote N c r g = record { group = g; view = common_view N c r g }

abbrev pub cast : Config → Faults → Row → Ballots
cast C c r p = get_or (votes C c r) p none

-- what node q gets
abbrev pub got : Config → Faults → Row → ℕ → Ballots
got C c r q = arrived_at c (votes C c r) q

abbrev pub public : Config → Faults → Row → Ballots
public C c r p = arrive_if (not (has p c.vote_lost)) (cast C c r p)

-- the group that the one vote gives
unfoldable pub voted : Config → Faults → Row → Group → Group
voted C c r g = new_group C.nodes (public C c r) (common_vote C.nodes c r g)

-- the row after the cycle
abbrev pub done : Config → Faults → Row → Row
done C c r = decisions C c r (votes C c r)

-- ---- the box of a node

arrive_some : (b : Bool) (o : Option Vote) (w : Vote) → arrive_if b o ≡ some w → o ≡ some w
arrive_some true o w e = e
arrive_some false o w e = absurd (none-some e)

-- what arrives was cast
pub arrived_cast : (C : Config) (c : Faults) (r : Row) (q p : ℕ) (w : Vote) → got C c r q p ≡ some w → cast C c r p ≡ some w
arrived_cast C c r q p w e = arrive_some (vote_reaches c p q) (cast C c r p) w e

pub own_cast : (C : Config) (c : Faults) (r : Row) (q p : ℕ) (own w : Vote) → cast C c r q ≡ some own → with_own q own (got C c r q) p ≡ some w → cast C c r p ≡ some w
own_cast C c r q p own w k e = go (eqb p q) refl e
  where
    go : (b : Bool) → eqb p q ≡ b → cond b (some own) (got C c r q p) ≡ some w → cast C c r p ≡ some w
    go true h e = ap (cast C c r) (eqb-true h) ∙ k ∙ e
    go false h e = arrived_cast C c r q p w e

-- a node that is not disturbed gets what is public
arrived_public : (C : Config) (c : Faults) (r : Row) (q : ℕ) → Undisturbed c q → cast C c r q ≡ none → (p : ℕ) → got C c r q p ≡ public C c r p
arrived_public C c r q u k p = go (eqb p q) refl
  where
    silent : (b : Bool) → arrive_if b none ≡ none
    silent true = refl
    silent false = refl

    go : (b : Bool) → eqb p q ≡ b → got C c r q p ≡ public C c r p
    go true h =
        let n : cast C c r p ≡ none = ap (cast C c r) (eqb-true h) ∙ k in
        ap (arrive_if (vote_reaches c p q)) n ∙ silent (vote_reaches c p q)
        ∙ sym (ap (arrive_if (not (has p c.vote_lost))) n ∙ silent (not (has p c.vote_lost)))
    go false h = ap (λ (b : Bool). arrive_if b (cast C c r p)) (reach_vote c p q u h)

own_public : (C : Config) (c : Faults) (r : Row) (q : ℕ) (own : Vote) → Undisturbed c q → cast C c r q ≡ some own → (p : ℕ) → with_own q own (got C c r q) p ≡ public C c r p
own_public C c r q own u k p = go (eqb p q) refl
  where
    go : (b : Bool) → eqb p q ≡ b → cond b (some own) (got C c r q p) ≡ public C c r p
    go true h =
        let same : p ≡ q = eqb-true h in
        sym (ap (public C c r) same ∙ ap (λ (b : Bool). arrive_if (not b) (cast C c r q)) u.votes ∙ k)
    go false h = ap (λ (b : Bool). arrive_if b (cast C c r p)) (reach_vote c p q u h)

-- who casts a vote is a member, with the vote's group, and goes by rule 5
pub cast_of : (C : Config) (c : Faults) (r : Row) (p : ℕ) → p < C.nodes → cast C c r p ≡ vote_of C c r p (at r p)
unfolding votes
cast_of C c r p h = get-tabulate C.nodes p (λ q. vote_of C c r q (at r q)) none h

pub cast_lt : (C : Config) (c : Faults) (r : Row) (p : ℕ) (v : Vote) → cast C c r p ≡ some v → p < C.nodes
unfolding votes
cast_lt C c r p v e = go (bool (ltb p C.nodes))
  where
    go : (ltb p C.nodes ≡ true) ⊎ (ltb p C.nodes ≡ false) → p < C.nodes
    go (inl h) = ltb-lt h
    go (inr h) = absurd (none-some (sym (get-tabulate-out C.nodes p (λ q. vote_of C c r q (at r q)) none (ltb-le h)) ∙ e))

pub voter : (C : Config) (c : Faults) (r : Row) (p : ℕ) (v : Vote) → cast C c r p ≡ some v → group_of (at r p) ≡ some v.group
voter C c r p v e = vote-group C c r p (at r p) v (sym (cast_of C c r p (cast_lt C c r p v e)) ∙ e)

silent_joiner : (C : Config) (c : Faults) (r : Row) (p : ℕ) → p < C.nodes → at r p ≡ Joining → cast C c r p ≡ none
silent_joiner C c r p h e = cast_of C c r p h ∙ ap (vote_of C c r p) e

pub outcome : (C : Config) (c : Faults) (r : Row) (q : ℕ) → q < C.nodes → at (done C c r) q ≡ decides C c r q (at r q) (got C c r q)
unfolding decisions
outcome C c r q h = get-tabulate C.nodes q (λ x. decides C c r x (at r x) (arrived_at c (votes C c r) x)) stopped h

pub outcome_vote : (C : Config) (c : Faults) (r : Row) (q : ℕ) (own : Vote) → cast C c r q ≡ some own → at (done C c r) q ≡ member_decides C q own (got C c r q)
outcome_vote C c r q own e =
    let l = cast_lt C c r q own e in
    outcome C c r q l ∙ vote-decides C c r q (at r q) own (got C c r q) (sym (cast_of C c r q l) ∙ e)

pub outcome_joining : (C : Config) (c : Faults) (r : Row) (q : ℕ) → q < C.nodes → at r q ≡ Joining → at (done C c r) q ≡ joiner_decides C q (got C c r q)
outcome_joining C c r q l e = outcome C c r q l ∙ ap (λ (s : State). decides C c r q s (got C c r q)) e

-- ---- rules 5 and 6

-- a member that votes goes on with its own vote, which has a quorum then, or halts
abbrev pub GoesOrHalts : Config → ℕ → Vote → Ballots → State → Type 0
GoesOrHalts C q own b s = ((wins C.nodes (with_own q own b) own ≡ true) × (s ≡ member_on C (with_own q own b) own)) ⊎ (halted s ≡ true)

pub goes_or_halts : (C : Config) (q : ℕ) (own : Vote) (b : Ballots) → GoesOrHalts C q own b (member_decides C q own b)
unfolding member_decides
goes_or_halts C q own b = go (wins C.nodes box own) (any C.nodes (λ p. rival C.nodes box own.group (box p))) refl
  where
    box : Ballots
    box = with_own q own b

    go : (w a : Bool) → wins C.nodes box own ≡ w → GoesOrHalts C q own b (cond w (member_on C box own) (cond a (Out Outvoted) (Out NoQuorum)))
    go true a f = inl (f, refl)
    go false true f = inr refl
    go false false f = inr refl

-- a joining node enters on a vote that fits it, or stays joining
abbrev pub EntersOrStays : Config → ℕ → Ballots → State → Type 0
EntersOrStays C q b s = ((p : ℕ) × (v : Vote) × (b p ≡ some v) × (fits C.nodes q b (some v) ≡ true) × (s ≡ enters_with C b v)) ⊎ (s ≡ Joining)

pub enters_or_stays : (C : Config) (q : ℕ) (b : Ballots) → EntersOrStays C q b (joiner_decides C q b)
unfolding joiner_decides
enters_or_stays C q b = go (b low) refl
  where
    low : ℕ
    low = lowest C.nodes (λ p. fits C.nodes q b (b p))

    go : (o : Option Vote) → b low ≡ o → EntersOrStays C q b (enter_on C q b o)
    go none e = inr refl
    go (some v) e = pick (fits C.nodes q b (some v)) (every C.nodes (λ p. not (fits C.nodes q b (b p)) || is v (b p))) refl
      where
        pick : (f a : Bool) → fits C.nodes q b (some v) ≡ f → EntersOrStays C q b (cond (f && a) (enters_with C b v) Joining)
        pick true true f = inl (low, v, e, f, refl)
        pick true false f = inr refl
        pick false a f = inr refl

-- ---- views

pub heard_sent : (N : ℕ) (c : Faults) (r : Row) (sends : State → Bool) (x q : ℕ) → Undisturbed c q → eqb x q ≡ false
    → has x (heard N c r sends q) ≡ has x (sent N c r sends)
unfolding heard sent
heard_sent N c r sends x q u n =
    has-those x N (λ p. sends (at r p) && heartbeat_reaches c p q)
    ∙ ap (λ (b : Bool). ltb x N && (sends (at r x) && b)) (reach_heartbeat c x q u n)
    ∙ sym (has-those x N (λ p. sends (at r p) && not (has p c.heartbeat_lost)))

pub has_common : (N : ℕ) (c : Faults) (r : Row) (g : Group) (x : ℕ)
    → has x (common_view N c r g) ≡ ((has x g.set && has x (sent N c r sends_member)) || (has x (sent N c r sends_join) && not (has x g.set)))
unfolding common_view
has_common N c r g x =
    has_union x (g.set ∩ sent N c r sends_member) (sent N c r sends_join ∖ g.set)
    ∙ ap₂ (λ (a b : Bool). a || b) (has_inter x g.set (sent N c r sends_member)) (has_diff x (sent N c r sends_join) g.set)

pub in_sent : (N : ℕ) (c : Faults) (r : Row) (sends : State → Bool) (q : ℕ) → q < N → sends (at r q) ≡ true → has q c.heartbeat_lost ≡ false → has q (sent N c r sends) ≡ true
unfolding sent
in_sent N c r sends q h s l =
    in_those q N (λ p. sends (at r p) && not (has p c.heartbeat_lost)) h (and_i (sends (at r q)) (not (has q c.heartbeat_lost)) s (not-i (has q c.heartbeat_lost) l))

pub has_own : (N : ℕ) (c : Faults) (r : Row) (q : ℕ) (g : Group) (x : ℕ) → has x (own_vote N c r q g).view
    ≡ (eqb x q || (has x g.set && has x (heard N c r sends_member q)) || (has x (heard N c r sends_join q) && not (has x g.set)))
unfolding own_vote heard
has_own N c r q g x =
    has_view x N q g.set (heard N c r sends_member q) (heard N c r sends_join q)
    ∙ ap₂ (λ (a b : Bool). eqb x q || (has x g.set && a) || (b && not (has x g.set))) (heard-below sends_member) (heard-below sends_join)
  where
    heard-below : (sends : State → Bool) → (ltb x N && has x (heard N c r sends q)) ≡ has x (heard N c r sends q)
    heard-below sends = those-below x N (λ p. sends (at r p) && heartbeat_reaches c p q)

-- an undisturbed member of g casts the common vote
pub view_common : (N : ℕ) (c : Faults) (r : Row) (g : Group) (q : ℕ) → q < N → Undisturbed c q → group_of (at r q) ≡ some g → has q g.set ≡ true
    → own_vote N c r q g ≡ common_vote N c r g
unfolding own_vote
view_common N c r g q h u e m = votes-eq (set_ext (λ x. has_own N c r q g x ∙ go x (eqb x q) refl ∙ sym (has_common N c r g x)))
  where
    votes-eq : (own_vote N c r q g).view ≡ common_view N c r g → own_vote N c r q g ≡ common_vote N c r g
    votes-eq e i = record { group = g; view = e i }

    go : (x : ℕ) (b : Bool) → eqb x q ≡ b
        → (b || (has x g.set && has x (heard N c r sends_member q)) || (has x (heard N c r sends_join q) && not (has x g.set)))
        ≡ ((has x g.set && has x (sent N c r sends_member)) || (has x (sent N c r sends_join) && not (has x g.set)))
    go x true k =
        let same : x ≡ q = eqb-true k in
        let mx : has x g.set ≡ true = ap (λ (y : ℕ). has y g.set) same ∙ m in
        let sx : has x (sent N c r sends_member) ≡ true =
        ap (λ (y : ℕ). has y (sent N c r sends_member)) same ∙ in_sent N c r sends_member q h (held-sends (at r q) g e) u.beats in
        sym (or_l (has x g.set && has x (sent N c r sends_member)) (has x (sent N c r sends_join) && not (has x g.set)) (and_i (has x g.set) (has x (sent N c r sends_member)) mx sx))
    go x false k =
        ap₂ (λ (a b : Bool). (has x g.set && a) || (b && not (has x g.set))) (heard_sent N c r sends_member x q u k) (heard_sent N c r sends_join x q u k)

pub sent_is : (N : ℕ) (c : Faults) (r : Row) (sends : State → Bool) (x : ℕ) → has x (sent N c r sends) ≡ true
    → (x < N) × (sends (at r x) ≡ true) × (has x c.heartbeat_lost ≡ false)
unfolding sent
sent_is N c r sends x h =
    let w = of_those x N (λ p. sends (at r p) && not (has p c.heartbeat_lost)) h in
    (w.0, and_l (sends (at r x)) (not (has x c.heartbeat_lost)) w.1, not-e (has x c.heartbeat_lost) (and_r (sends (at r x)) (not (has x c.heartbeat_lost)) w.1))

-- a joining node outside M that is not disturbed is in V
pub in_common : (C : Config) (c : Faults) (r : Row) (g : Group) (q : ℕ) → q < C.nodes → Undisturbed c q → at r q ≡ Joining → has q g.set ≡ false → has q (common_view C.nodes c r g) ≡ true
in_common C c r g q h u e m =
    has_common C.nodes c r g q
    ∙ or_r (has q g.set && has q (sent C.nodes c r sends_member)) (has q (sent C.nodes c r sends_join) && not (has q g.set))
    (and_i (has q (sent C.nodes c r sends_join)) (not (has q g.set)) (in_sent C.nodes c r sends_join q h (ap sends_join e) u.beats) (not-i (has q g.set) m))

-- ---- what is known after rule 1 of a cycle that meets the premise

-- whoever holds h is overruled: some quorum of h's own base holds something else
pub record Overruled (C : Config) (r : Row) (h : Group) : Type 0 where
  pub rest : ℕ
  pub inside : ◌⊆◌ rest h.base
  pub most : quorum rest h.base ≡ true
  pub others : (x : ℕ) → x < C.nodes → has x rest ≡ true → group_of (at r x) ≢ some h

-- a node of h's set and of g's that requests, if it is a member at all
pub record Caller (C : Config) (r : Row) (g h : Group) : Type 0 where
  pub node : ℕ
  pub below : node < C.nodes
  pub own : has node h.set ≡ true
  pub reference : has node g.set ≡ true
  pub requests : sends_member (at r node) ≡ true → asks (at r node) ≡ true

-- in a quiet press whoever holds another group than g is called to vote: it requests, or such a node does
abbrev pub Stirs : Config → Row → Group → Type 0
Stirs C r g =
    C.quiet ≡ true → (q : ℕ) (h : Group) → q < C.nodes → group_of (at r q) ≡ some h → h ≢ g → (asks (at r q) ≡ true) ⊎ Caller C r g h

pub record Given (C : Config) (c : Faults) (r : Row) (g : Group) (U : ℕ) : Type 0 where
  pub inside : ◌⊆◌ g.set g.base
  pub below : (q : ℕ) → has q U ≡ true → q < C.nodes
  pub part : ◌⊆◌ U g.set
  pub calm : (q : ℕ) → has q U ≡ true → Undisturbed c q
  pub hold : (q : ℕ) → has q U ≡ true → group_of (at r q) ≡ some g
  pub most : quorum U g.base ≡ true
  pub formed : (q : ℕ) (h : Group) → q < C.nodes → group_of (at r q) ≡ some h → ◌⊆◌ h.set h.base
  pub overruled : (q : ℕ) (h : Group) → q < C.nodes → group_of (at r q) ≡ some h → h ≢ g → Overruled C r h
  pub stirs : Stirs C r g

-- a vote that wins anywhere is a steady node's: its voters share a node with the steady nodes, or would with those that overrule it
pub shared : (C : Config) (c : Faults) (r : Row) (g : Group) (U : ℕ) → Given C c r g U → (b : Ballots) (p : ℕ) (v : Vote)
    → ((q : ℕ) (w : Vote) → b q ≡ some w → cast C c r q ≡ some w) → cast C c r p ≡ some v → wins C.nodes b v ≡ true
    → (q : ℕ) × (has q U ≡ true) × (cast C c r q ≡ some v)
unfolding wins
shared C c r g U k b p v sound e w = go (group_same v.group g)
  where
    in_b : ◌⊆◌ (voters C.nodes b v) v.group.base
    in_b q x = k.formed p v.group (cast_lt C c r p v e) (voter C c r p v e) q (voters-sub C.nodes b v q x)

    its : (x : ℕ) → has x (voters C.nodes b v) ≡ true → cast C c r x ≡ some v
    its x y = sound x v (voters-is C.nodes b v x y).1

    go : (v.group ≡ g) ⊎ (v.group ≢ g) → (q : ℕ) × (has q U ≡ true) × (cast C c r q ≡ some v)
    go (inl s) =
        let base : v.group.base ≡ g.base = ap (λ (x : Group). x.base) s in
        let m = quorum_meet (voters C.nodes b v) U v.group.base in_b (λ q x. subst (λ (B : ℕ). has q B ≡ true) (sym base) (k.inside q (k.part q x))) w (subst (λ (B : ℕ). quorum U B ≡ true) (sym base) k.most) in
        (m.0, m.2, its m.0 m.1)
    go (inr s) =
        let o = k.overruled p v.group (cast_lt C c r p v e) (voter C c r p v e) s in
        let m = quorum_meet (voters C.nodes b v) o.rest v.group.base in_b o.inside w o.most in
        absurd (o.others m.0 (cast_lt C c r m.0 v (its m.0 m.1)) m.2 (voter C c r m.0 v (its m.0 m.1)))

-- ---- the one vote

module _ (C : Config) (c : Faults) (r : Row) (g : Group) (U : ℕ) (k : Given C c r g U)
    (speak : (q : ℕ) → has q U ≡ true → cast C c r q ≡ some (common_vote C.nodes c r g)) where
  abbrev common : Vote
  common = common_vote C.nodes c r g

  -- no other vote wins anywhere
  only : (b : Ballots) (p : ℕ) (v : Vote) → ((q : ℕ) (w : Vote) → b q ≡ some w → cast C c r q ≡ some w) → cast C c r p ≡ some v → wins C.nodes b v ≡ true
      → v ≡ common
  only b p v sound e w = let m = shared C c r g U k b p v sound e w in some_inj (sym m.2 ∙ speak m.0 m.1)

  -- a node that misses nothing sees that vote win
  public-steady : (q : ℕ) → has q U ≡ true → public C c r q ≡ some common
  public-steady q u = ap (λ (b : Bool). arrive_if (not b) (cast C c r q)) (k.calm q u).votes ∙ speak q u

  pub public-voters : ◌⊆◌ U (voters C.nodes (public C c r) common)
  public-voters q u = in_voters C.nodes (public C c r) common q (k.below q u) (k.part q u) (public-steady q u)

  public-wins : wins C.nodes (public C c r) common ≡ true
  unfolding wins
  public-wins = quorum_mono U (voters C.nodes (public C c r) common) g.base public-voters k.most

  -- rule 5: either on the one vote, or the node halts
  rule5-is : (q : ℕ) (own : Vote) → cast C c r q ≡ some own
      → ((own ≡ common) × (member_decides C q own (got C c r q) ≡ member_on C (with_own q own (got C c r q)) common))
      ⊎ (halted (member_decides C q own (got C c r q)) ≡ true)
  rule5-is q own e = go (goes_or_halts C q own (got C c r q))
    where
      b : Ballots
      b = with_own q own (got C c r q)

      go : GoesOrHalts C q own (got C c r q) (member_decides C q own (got C c r q))
          → ((own ≡ common) × (member_decides C q own (got C c r q) ≡ member_on C b common)) ⊎ (halted (member_decides C q own (got C c r q)) ≡ true)
      go (inl w) =
          let same : own ≡ common = only b q own (λ p v. own_cast C c r q p own v e) e w.0 in
          inl (same, w.1 ∙ ap (λ (v : Vote). member_on C b v) same)
      go (inr w) = inr w

  -- rule 6: either on the one vote, which has the node in V and not in M, or the node stays joining
  fits-is : (q p : ℕ) (o : Option Vote) → got C c r q p ≡ o → fits C.nodes q (got C c r q) o ≡ true
      → (o ≡ some common) × (has q common.view ≡ true) × (has q g.set ≡ false)
  fits-is q p none e f = absurd (false≢true f)
  fits-is q p (some v) e f =
      let b = got C c r q in
      let ab : (has q v.view && not (has q v.group.set)) ≡ true = and_l (has q v.view && not (has q v.group.set)) (wins C.nodes b v) f in
      let w : wins C.nodes b v ≡ true = and_r (has q v.view && not (has q v.group.set)) (wins C.nodes b v) f in
      let same : v ≡ common = only b p v (λ x y. arrived_cast C c r q x y) (arrived_cast C c r q p v e) w in (
        ap {B = Option Vote} some same,
        ap (λ (x : Vote). has q x.view) (sym same) ∙ and_l (has q v.view) (not (has q v.group.set)) ab,
        ap (λ (x : Vote). has q x.group.set) (sym same) ∙ not-e (has q v.group.set) (and_r (has q v.view) (not (has q v.group.set)) ab),
      )

  abbrev Entered : ℕ → State → Type 0
  Entered q s = ((has q common.view ≡ true) × (has q g.set ≡ false) × (s ≡ enters_with C (got C c r q) common)) ⊎ (s ≡ Joining)

  rule6-is : (q : ℕ) → Entered q (joiner_decides C q (got C c r q))
  rule6-is q = go (enters_or_stays C q (got C c r q))
    where
      go : EntersOrStays C q (got C c r q) (joiner_decides C q (got C c r q)) → Entered q (joiner_decides C q (got C c r q))
      go (inl w) =
          let z = fits-is q w.0 (some w.1) w.2 w.3 in
          inl (z.1, z.2, w.4 ∙ ap (λ (x : Vote). enters_with C (got C c r q) x) (some_inj z.0))
      go (inr w) = inr w

  -- a joining node that is in V and not in M, and is not disturbed, enters
  rule6-in : (q : ℕ) → Undisturbed c q → cast C c r q ≡ none → has q common.view ≡ true → has q g.set ≡ false
      → joiner_decides C q (got C c r q) ≡ enters_with C (public C c r) common
  unfolding joiner_decides
  rule6-in q u n s m =
      let b = got C c r q in
      let same : (p : ℕ) → p < C.nodes → b p ≡ public C c r p = λ p h. arrived_public C c r q u n p in
      let won : wins C.nodes b common ≡ true = wins_ext C.nodes b (public C c r) common same ∙ public-wins in
      let fit : fits C.nodes q b (some common) ≡ true =
      and_i (has q common.view && not (has q g.set)) (wins C.nodes b common) (and_i (has q common.view) (not (has q g.set)) s (not-i (has q g.set) m)) won in
      let one = quorum_meet U U g.base (λ x h. k.inside x (k.part x h)) (λ x h. k.inside x (k.part x h)) k.most k.most in
      let seen : b one.0 ≡ some common = same one.0 (k.below one.0 one.1) ∙ public-steady one.0 one.1 in
      let least = lowest_in C.nodes one.0 (λ p. fits C.nodes q b (b p)) (k.below one.0 one.1) (ap (fits C.nodes q b) seen ∙ fit) in
      let low : b (lowest C.nodes (λ p. fits C.nodes q b (b p))) ≡ some common = (fits-is q (lowest C.nodes (λ p. fits C.nodes q b (b p))) (b (lowest C.nodes (λ p. fits C.nodes q b (b p)))) refl least.1).0 in
      let all : every C.nodes (λ p. not (fits C.nodes q b (b p)) || is common (b p)) ≡ true = every-i C.nodes (λ p. not (fits C.nodes q b (b p)) || is common (b p)) (λ p h. agree p (bool (fits C.nodes q b (b p)))) in
      ap (enter_on C q b) low
      ∙ ap (λ (x : Bool). cond x (enters_with C b common) Joining) (and_i (fits C.nodes q b (some common)) (every C.nodes (λ p. not (fits C.nodes q b (b p)) || is common (b p))) fit all)
      ∙ enters_ext C b (public C c r) common same
    where
      agree : (p : ℕ) → (fits C.nodes q (got C c r q) (got C c r q p) ≡ true) ⊎ (fits C.nodes q (got C c r q) (got C c r q p) ≡ false)
          → (not (fits C.nodes q (got C c r q) (got C c r q p)) || is common (got C c r q p)) ≡ true
      agree p (inl f) = or_r (not (fits C.nodes q (got C c r q) (got C c r q p))) (is common (got C c r q p)) (is_self common (got C c r q p) (fits-is q p (got C c r q p) refl f).0)
      agree p (inr f) = or_l (not (fits C.nodes q (got C c r q) (got C c r q p))) (is common (got C c r q p)) (not-i (fits C.nodes q (got C c r q) (got C c r q p)) f)

  -- ---- what the cycle gives

  -- a member that casts the one vote, and is not disturbed, goes on
  pub stays : (q : ℕ) → Undisturbed c q → cast C c r q ≡ some common → at (done C c r) q ≡ member_on C (public C c r) common
  unfolding member_decides
  stays q u e =
      let b = with_own q common (got C c r q) in
      let same : (p : ℕ) → p < C.nodes → b p ≡ public C c r p = λ p h. own_public C c r q common u e p in
      let won : wins C.nodes b common ≡ true = wins_ext C.nodes b (public C c r) common same ∙ public-wins in
      outcome_vote C c r q common e
      ∙ ap (λ (x : Bool). cond x (member_on C b common) (cond (any C.nodes (λ p. rival C.nodes b g (b p))) (Out Outvoted) (Out NoQuorum))) won
      ∙ member_ext C b (public C c r) common same

  holds-voted : (q : ℕ) → Undisturbed c q → cast C c r q ≡ some common → group_of (at (done C c r) q) ≡ some (voted C c r g)
  unfolding voted
  holds-voted q u e = ap group_of (stays q u e)

  -- a steady node goes on
  pub steady-stays : (q : ℕ) → has q U ≡ true → group_of (at (done C c r) q) ≡ some (voted C c r g)
  steady-stays q u = holds-voted q (k.calm q u) (speak q u)

  -- and calls, in a quiet press, whoever has g at rest where that is not the new group: its set changed then
  pub steady-calls : C.quiet ≡ true → (h : Group) → h ≡ rests g → voted C c r g ≢ rests g → Caller C (done C c r) (voted C c r g) h
  unfolding voted
  steady-calls y h e d =
      let one = quorum_node U g.base k.most in
      let u : has one.0 U ≡ true = one.1 in
      record {
        node = one.0;
        below = k.below one.0 u;
        own = ap (λ (x : Group). has one.0 x.set) e ∙ k.part one.0 u;
        reference = voters_in C.nodes (public C c r) common one.0 (public-voters one.0 u);
        requests = λ m.
            ap asks (stays one.0 (k.calm one.0 u) (speak one.0 u))
            ∙ passes (request_after C (public C c r) common) (λ n. d (no_request_rests C (public C c r) common y n));
      }

  -- a joining node outside M that is not disturbed enters, and is in the new set
  pub enters : (q : ℕ) → q < C.nodes → Undisturbed c q → at r q ≡ Joining → has q g.set ≡ false
      → (group_of (at (done C c r) q) ≡ some (voted C c r g)) × (has q (voted C c r g).set ≡ true)
  unfolding voted
  enters q h u e m =
      let s = in_common C c r g q h u e m in (
        ap group_of (outcome_joining C c r q h e ∙ rule6-in q u (silent_joiner C c r q h e) s m),
        new_in C.nodes (public C c r) common q s m,
      )

  -- a node of V outside M is joining
  common-joins : (q : ℕ) → has q common.view ≡ true → has q g.set ≡ false → (q < C.nodes) × (at r q ≡ Joining)
  common-joins q s m =
      let e : ((has q g.set && has q (sent C.nodes c r sends_member)) || (has q (sent C.nodes c r sends_join) && not (has q g.set))) ≡ true = sym (has_common C.nodes c r g q) ∙ s in
      let f : (has q (sent C.nodes c r sends_join) && not (has q g.set)) ≡ true = ap (λ (b : Bool). (b && has q (sent C.nodes c r sends_member)) || (has q (sent C.nodes c r sends_join) && not (has q g.set))) (sym m) ∙ e in
      let w = sent_is C.nodes c r sends_join q (and_l (has q (sent C.nodes c r sends_join)) (not (has q g.set)) f) in
      (w.0, is_joining (at r q) w.1)

  public-cast : (q : ℕ) (v : Vote) → has q (voters C.nodes (public C c r) v) ≡ true → cast C c r q ≡ some v
  public-cast q v h = arrive_some (not (has q c.vote_lost)) (cast C c r q) v (voters-is C.nodes (public C c r) v q h).1

  -- every node of the new set that is not disturbed holds the new group
  pub new-holds : (q : ℕ) → Undisturbed c q → has q (voted C c r g).set ≡ true → group_of (at (done C c r) q) ≡ some (voted C c r g)
  unfolding voted
  new-holds q u m = go (in_new C.nodes (public C c r) common q m)
    where
      go : (has q (voters C.nodes (public C c r) common) ≡ true) ⊎ ((has q common.view ≡ true) × (has q g.set ≡ false)) → group_of (at (done C c r) q) ≡ some (voted C c r g)
      go (inl h) = holds-voted q u (public-cast q common h)
      go (inr h) = let j = common-joins q h.0 h.1 in (enters q j.0 u j.1 h.1).0

  -- a joining node that is still in M waits, and is not in the new set
  pub waits : (q : ℕ) → q < C.nodes → at r q ≡ Joining → has q g.set ≡ true → (at (done C c r) q ≡ Joining) × (has q (voted C c r g).set ≡ false)
  unfolding voted
  waits q l f m = (outcome_joining C c r q l f ∙ pick (rule6-is q), stays_out (bool (has q (new_group C.nodes (public C c r) common).set)))
    where
      pick : Entered q (joiner_decides C q (got C c r q)) → joiner_decides C q (got C c r q) ≡ Joining
      pick (inl w) = absurd (false≢true (sym w.1 ∙ m))
      pick (inr w) = w

      stays_out : (has q (new_group C.nodes (public C c r) common).set ≡ true) ⊎ (has q (new_group C.nodes (public C c r) common).set ≡ false)
          → has q (new_group C.nodes (public C c r) common).set ≡ false
      stays_out (inl h) = absurd (no_way (in_new C.nodes (public C c r) common q h))
        where
          no_way : (has q (voters C.nodes (public C c r) common) ≡ true) ⊎ ((has q common.view ≡ true) × (has q g.set ≡ false)) → ⊥
          no_way (inl v) = none-some (sym (silent_joiner C c r q l f) ∙ public-cast q common v)
          no_way (inr v) = false≢true (sym v.1 ∙ m)
      stays_out (inr h) = h

  -- ---- a member after the cycle that voted or was joining is one on the one vote; what it heard decides only the set; if it does not request it kept that

  pub record OnVote (q : ℕ) (h : Group) : Type 0 where
    pub box : Ballots
    pub is-new : h ≡ new_group C.nodes box common
    pub same : Undisturbed c q → (p : ℕ) → box p ≡ public C c r p
    pub kept : C.quiet ≡ true → asks (at (done C c r) q) ≡ false → h ≡ rests g

  pub from-vote : (q : ℕ) (own : Vote) (h : Group) → cast C c r q ≡ some own → group_of (at (done C c r) q) ≡ some h → OnVote q h
  from-vote q own h e f = go (rule5-is q own e)
    where
      go : ((own ≡ common) × (member_decides C q own (got C c r q) ≡ member_on C (with_own q own (got C c r q)) common)) ⊎ (halted (member_decides C q own (got C c r q)) ≡ true) → OnVote q h
      go (inl w) =
          let b = with_own q own (got C c r q) in
          let now : at (done C c r) q ≡ member_on C b common = outcome_vote C c r q own e ∙ w.1 in
          let new : h ≡ new_group C.nodes b common = some_inj (sym f ∙ ap group_of now) in
          record {
            box = b;
            is-new = new;
            same = λ u p. own_public C c r q own u e p;
            kept = λ y n. new ∙ no_request_rests C b common y (sym (ap asks now) ∙ n);
          }
      go (inr w) = absurd (not-halted (at (done C c r) q) h f (ap halted (outcome_vote C c r q own e) ∙ w))

  pub from-join : (q : ℕ) (h : Group) → q < C.nodes → at r q ≡ Joining → group_of (at (done C c r) q) ≡ some h → OnVote q h
  from-join q h l e f = go (rule6-is q)
    where
      go : Entered q (joiner_decides C q (got C c r q)) → OnVote q h
      go (inl w) =
          let now : at (done C c r) q ≡ enters_with C (got C c r q) common = outcome_joining C c r q l e ∙ w.2 in
          record {
            box = got C c r q;
            is-new = some_inj (sym f ∙ ap group_of now);
            same = λ u p. arrived_public C c r q u (silent_joiner C c r q l e) p;
            kept = λ y n. absurd (true≢false (sym y ∙ sym (ap asks now) ∙ n));
          }
      go (inr w) = absurd (none-some (sym (ap group_of (outcome_joining C c r q l e ∙ w)) ∙ f))

  pub on-base : (q : ℕ) (h : Group) → OnVote q h → h.base ≡ (voted C c r g).base
  unfolding voted
  on-base q h w = ap (λ (x : Group). x.base) w.is-new ∙ base_is C.nodes w.box common ∙ sym (base_is C.nodes (public C c r) common)

  pub on-formed : (q : ℕ) (h : Group) → OnVote q h → ◌⊆◌ h.set h.base
  on-formed q h w = subst (λ (x : Group). ◌⊆◌ x.set x.base) (sym w.is-new) (new_inside C.nodes w.box common)

  pub on-calm : (q : ℕ) (h : Group) → OnVote q h → Undisturbed c q → h ≡ voted C c r g
  unfolding voted
  on-calm q h w u = w.is-new ∙ group_ext C.nodes w.box (public C c r) common (λ p x. w.same u p)

  pub voted-inside : ◌⊆◌ (voted C c r g).set (voted C c r g).base
  unfolding voted
  voted-inside = new_inside C.nodes (public C c r) common

  -- a member with another group that votes halts
  pub vote-halts : (q : ℕ) (own : Vote) → cast C c r q ≡ some own → own.group ≢ g → halted (at (done C c r) q) ≡ true
  vote-halts q own e d = go (rule5-is q own e)
    where
      go : ((own ≡ common) × (member_decides C q own (got C c r q) ≡ member_on C (with_own q own (got C c r q)) common)) ⊎ (halted (member_decides C q own (got C c r q)) ≡ true)
          → halted (at (done C c r) q) ≡ true
      go (inl w) = absurd (d (ap (λ (v : Vote). v.group) w.0))
      go (inr w) = ap halted (outcome_vote C c r q own e) ∙ w
