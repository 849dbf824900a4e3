-- On a bus that carries a fault record the units' cycle is the rules' cycle under that record. Assumes nothing.
use mathlib.Core.Path.{◌≡◌, refl, sym, ap, ap₂, ◌∙◌}
use mathlib.Core.Bool.{Bool, true, false, not, ◌&&◌, cond}
use mathlib.Core.Option.{Option, none, some}
use Prim.Native.Nat.{ℕ, ◌<◌}
use lib.Dec.{eqb, ltb}
use lib.ListN.{get_or}
use Rattle.std.specs.Prelude as std
use Rattle.sets.specs.Sets.{has, those, any}
use Rattle.sets.proofs.Booleans.{eqb_self, eqb-true, ltb-lt, ltb-le}
use Rattle.sets.proofs.Membership.{set_ext}
use Rattle.sets.proofs.Nodes.{has-those, those_in}
use Rattle.state.specs.declared.Reason.TheVariants.{NoQuorum, Outvoted}
use Rattle.state.specs.declared.Group.{Group}
use Rattle.state.specs.declared.State.{State}
use Rattle.state.specs.declared.State.TheVariants.{Out, Joining, Member}
use Rattle.rules.specs.declared.Vote.{Vote}
use Rattle.rules.specs.declared.Faults.{Faults}
use Rattle.rules.specs.declared.Config.{Config}
use Rattle.rules.specs.OneCycle.{Ballots, sends_member, sends_join, asks, called, will_vote, wins, member_on, rival, member_decides, rests, silent_decides, joiner_decides}
use Rattle.rules.specs.Faults.{Row, at, rule_one, heartbeat_reaches, vote_reaches, heard, own_vote, votes_now, vote_of, votes, arrive_if, arrived_at, decides, decisions, cycle}
use Rattle.rules.proofs.Rows.{get-tabulate, get-tabulate-out, tabulate-ext}
use Rattle.rules.proofs.Votes.{view_others}
use Rattle.frames.specs.declared.Heartbeat.{Heartbeat}
use Rattle.bus_units.specs.Units.{Bus, heartbeat_got, is_alive, is_join, is_request, unit_hears, unit_vote, unit_votes, vote_cast, vote_got, received, unit_ballots, unit_decides, units_cycle}
use Rattle.bus_units.specs.Carried.{heartbeat_kind, Carries}

module _ (C : Config) (count : ℕ) (bus : Bus) (c : Faults) (r : Row) (carried : Carries C count bus c r) where
  abbrev N : ℕ
  N = C.nodes

  -- the others that are heard are those that send and reach
  hears : (kind : std.Option Heartbeat → Bool) (sends : State → Bool) → ((t : Bool) (s : State) → kind (cond t (heartbeat_kind s) std.None) ≡ (sends s && t))
      → (q x : ℕ) → q < N → x < N → eqb x q ≡ false → has x (unit_hears C count bus.heartbeats kind q) ≡ has x (heard N c r sends q)
  unfolding unit_hears heard
  hears kind sends same q x lq lx o =
      those_in x N (λ p. not (eqb p q) && kind (heartbeat_got C.quiet count bus.heartbeats q p)) lx
      ∙ ap (λ (b : Bool). not b && kind (heartbeat_got C.quiet count bus.heartbeats q x)) o
      ∙ ap kind (carried.beats x q lx lq o)
      ∙ same (heartbeat_reaches c x q) (at r x)
      ∙ sym (those_in x N (λ p. sends (at r p) && heartbeat_reaches c p q) lx)

  alive : (t : Bool) (s : State) → is_alive (cond t (heartbeat_kind s) std.None) ≡ (sends_member s && t)
  alive true (Out z) = refl
  alive true Joining = refl
  alive true (Member g true) = refl
  alive true (Member g false) = refl
  alive false (Out z) = refl
  alive false Joining = refl
  alive false (Member g a) = refl

  joins : (t : Bool) (s : State) → is_join (cond t (heartbeat_kind s) std.None) ≡ (sends_join s && t)
  joins true (Out z) = refl
  joins true Joining = refl
  joins true (Member g true) = refl
  joins true (Member g false) = refl
  joins false (Out z) = refl
  joins false Joining = refl
  joins false (Member g a) = refl

  requests : (t : Bool) (s : State) → is_request (cond t (heartbeat_kind s) std.None) ≡ (asks s && t)
  requests true (Out z) = refl
  requests true Joining = refl
  requests true (Member g true) = refl
  requests true (Member g false) = refl
  requests false (Out z) = refl
  requests false Joining = refl
  requests false (Member g true) = refl
  requests false (Member g false) = refl

  pub vote-is : (q : ℕ) (g : Group) → q < N → unit_vote C count bus.heartbeats q g ≡ own_vote N c r q g
  unfolding unit_vote own_vote
  vote-is q g l =
      ap (λ (x : ℕ). record { group = g; view = x })
      (view_others N q g.set (unit_hears C count bus.heartbeats is_alive q) (unit_hears C count bus.heartbeats is_join q) (heard N c r sends_member q) (heard N c r sends_join q)
      (λ x k o. hears is_alive sends_member alive q x l k o) (λ x k o. hears is_join sends_join joins q x l k o))

  -- of a unit that does not request itself
  requests-heard : (q : ℕ) → q < N → asks (at r q) ≡ false → unit_hears C count bus.heartbeats is_request q ≡ heard N c r asks q
  unfolding unit_hears heard
  requests-heard q l e = set_ext (λ x. go x (ltb x N) refl (eqb x q) refl)
    where
      mine : ℕ → Bool
      mine p = not (eqb p q) && is_request (heartbeat_got C.quiet count bus.heartbeats q p)

      theirs : ℕ → Bool
      theirs p = asks (at r p) && heartbeat_reaches c p q

      go : (x : ℕ) (low : Bool) → ltb x N ≡ low → (own : Bool) → eqb x q ≡ own → has x (those N mine) ≡ has x (those N theirs)
      go x false h own o = has-those x N mine ∙ ap (λ (b : Bool). b && mine x) h ∙ sym (has-those x N theirs ∙ ap (λ (b : Bool). b && theirs x) h)
      go x true h false o = hears is_request asks requests q x l (ltb-lt h) o
      go x true h true o =
          those_in x N mine (ltb-lt h) ∙ ap (λ (b : Bool). not b && is_request (heartbeat_got C.quiet count bus.heartbeats q x)) o
          ∙ sym (those_in x N theirs (ltb-lt h) ∙ ap (λ (b : Bool). b && heartbeat_reaches c x q) (ap (λ (p : ℕ). asks (at r p)) (eqb-true o) ∙ e))

  pub votes-is : (q : ℕ) (g : Group) (a : Bool) → q < N → asks (at r q) ≡ a → unit_votes C count bus.heartbeats q g a ≡ votes_now C c r q g a
  unfolding unit_votes votes_now called
  votes-is q g true l e = ap (λ (v : Vote). will_vote C g.set v.view true) (vote-is q g l)
  votes-is q g false l e =
      ap₂ (λ (v : Vote) (x : ℕ). will_vote C g.set v.view (called g.set false x)) (vote-is q g l) (requests-heard q l e)

  pub cast_is : (q : ℕ) (s : State) → q < N → at r q ≡ s → vote_cast C count bus.heartbeats q s ≡ vote_of C c r q s
  cast_is q (Out z) l e = refl
  cast_is q Joining l e = refl
  cast_is q (Member g a) l e = ap₂ (λ (b : Bool) (v : Vote). cond b (some v) none) (votes-is q g a l (ap asks e)) (vote-is q g l)

  abbrev mine : ℕ → Ballots
  mine q = unit_ballots N count bus.votes q

  abbrev theirs : ℕ → Ballots
  theirs q = arrived_at c (votes C c r) q

  -- the votes of the others, and what stands past the last node
  ballot-is : (q p : ℕ) → q < N → eqb p q ≡ false → mine q p ≡ theirs q p
  unfolding unit_ballots votes
  ballot-is q p l o = go (ltb p N) refl
    where
      nothing : (b : Bool) → none ≡ arrive_if b none
      nothing true = refl
      nothing false = refl

      go : (low : Bool) → ltb p N ≡ low → cond (ltb p N && not (eqb p q)) (received (vote_got N count bus.votes q p)) none ≡ arrive_if (vote_reaches c p q) (get_or (votes C c r) p none)
      go true e =
          ap₂ (λ (a b : Bool). cond (a && not b) (received (vote_got N count bus.votes q p)) none) e o
          ∙ carried.ballots p q (ltb-lt e) l o
          ∙ ap (arrive_if (vote_reaches c p q)) (cast_is p (at r p) (ltb-lt e) refl ∙ sym (get-tabulate N p (λ x. vote_of C c r x (at r x)) none (ltb-lt e)))
      go false e =
          ap (λ (a : Bool). cond (a && not (eqb p q)) (received (vote_got N count bus.votes q p)) none) e
          ∙ nothing (vote_reaches c p q)
          ∙ ap (arrive_if (vote_reaches c p q)) (sym (get-tabulate-out N p (λ x. vote_of C c r x (at r x)) none (ltb-le e)))

  -- a joining unit sends no vote, so that none of its own arrives
  own-none : (q : ℕ) → q < N → at r q ≡ Joining → mine q q ≡ theirs q q
  unfolding unit_ballots votes
  own-none q l e =
      ap (λ (b : Bool). cond (ltb q N && not b) (received (vote_got N count bus.votes q q)) none) (eqb_self q)
      ∙ nothing (ltb q N) (vote_reaches c q q) (received (vote_got N count bus.votes q q))
      ∙ ap (arrive_if (vote_reaches c q q)) (sym (get-tabulate N q (λ x. vote_of C c r x (at r x)) none l ∙ ap (vote_of C c r q) e))
    where
      nothing : (low reach : Bool) (o : Option Vote) → cond (low && false) o none ≡ arrive_if reach none
      nothing true true o = refl
      nothing true false o = refl
      nothing false true o = refl
      nothing false false o = refl

  -- what a member decides does not depend on its own slot
  member_is : (q : ℕ) (g : Group) → q < N → member_decides C q (unit_vote C count bus.heartbeats q g) (mine q) ≡ member_decides C q (own_vote N c r q g) (theirs q)
  unfolding member_decides
  member_is q g l =
      ap (λ (v : Vote). member_decides C q v (mine q)) (vote-is q g l)
      ∙ ap (λ (b : Ballots). cond (wins N b own) (member_on C b own) (cond (any N (λ p. rival N b own.group (b p))) (Out Outvoted) (Out NoQuorum))) (λ i p. with p (eqb p q) refl i)
    where
      own : Vote
      own = own_vote N c r q g

      with : (p : ℕ) (b : Bool) → eqb p q ≡ b → cond b (some own) (mine q p) ≡ cond b (some own) (theirs q p)
      with p true k = refl
      with p false k = ballot-is q p l k

  silent-is : (q : ℕ) (g : Group) → q < N → silent_decides C q g (mine q) ≡ silent_decides C q g (theirs q)
  unfolding silent_decides
  silent-is q g l = ap (λ (b : Ballots). cond (any N (λ p. rival N b g (b p))) (Out Outvoted) (Member (rests g) false)) (λ i p. others p (eqb p q) refl i)
    where
      others : (p : ℕ) (b : Bool) → eqb p q ≡ b → cond b none (mine q p) ≡ cond b none (theirs q p)
      others p true k = refl
      others p false k = ballot-is q p l k

  decides-is : (q : ℕ) (s : State) → q < N → at r q ≡ s → unit_decides C count bus q s ≡ decides C c r q s (theirs q)
  decides-is q (Out z) l e = refl
  decides-is q Joining l e = ap (joiner_decides C q) (λ i p. every p (eqb p q) refl i)
    where
      every : (p : ℕ) (b : Bool) → eqb p q ≡ b → mine q p ≡ theirs q p
      every p true k = ap (mine q) (eqb-true k) ∙ own-none q l e ∙ ap (theirs q) (sym (eqb-true k))
      every p false k = ballot-is q p l k
  decides-is q (Member g a) l e =
      ap (λ (b : Bool). cond b (member_decides C q (unit_vote C count bus.heartbeats q g) (mine q)) (silent_decides C q g (mine q))) (votes-is q g a l (ap asks e))
      ∙ ap₂ (cond (votes_now C c r q g a)) (member_is q g l) (silent-is q g l)

pub units_follow : (C : Config) (count : ℕ) (bus : Bus) (c : Faults) (row : Row) → Carries C count bus c (rule_one C.nodes c row) → units_cycle C count bus c row ≡ cycle C c row
unfolding units_cycle cycle decisions
units_follow C count bus c row carried =
    let r = rule_one C.nodes c row in
    tabulate-ext C.nodes (λ q. unit_decides C count bus q (at r q)) (λ q. decides C c r q (at r q) (arrived_at c (votes C c r) q))
    (λ q l. decides-is C count bus c r carried q (at r q) l refl)
