-- A quiet press that is left alone sends no vote, and stays as it began. Assumes nothing.
use mathlib.Core.Path.{◌≡◌, refl, sym, ap, ap₂, ◌∙◌}
use mathlib.Core.Bool.{Bool, true, false, not, ◌&&◌, ◌||◌, cond, false≢true, and-false}
use mathlib.Core.List.{List, [], ◌∷◌}
use mathlib.Core.Option.{none, some}
use Prim.Native.Nat.{ℕ, zero, suc, ◌<◌}
use lib.Dec.{eqb, ltb}
use lib.ListN.{get_or}
use Rattle.sets.specs.Sets.{has, ◌∩◌, below}
use Rattle.sets.proofs.Booleans.{and_l, and_r, not-e, eqb_self, eqb-true, ltb-lt}
use Rattle.sets.proofs.Membership.{has_inter, has-none, set_ext}
use Rattle.sets.proofs.Nodes.{has-below, has-those, those_in, every-e}
use Rattle.state.specs.declared.Reason.TheVariants.{Stopped}
use Rattle.state.specs.declared.State.{State}
use Rattle.state.specs.declared.State.TheVariants.{Out, Member}
use Rattle.state.specs.State.{founding_group, initial}
use Rattle.rules.specs.declared.Faults.{Faults}
use Rattle.rules.specs.declared.Config.{Config}
use Rattle.rules.specs.OneCycle.{quietly, stopped, stop_and_start, sends_member, sends_join, asks, view_of, called, will_vote, member_decides, silent_decides}
use Rattle.rules.specs.Faults.{Row, at, tabulate, founding, heartbeat_reaches, disturbed, rule_one, heard, own_vote, votes_now, vote_of, votes, vote_reaches, arrive_if, arrived_at, decides, decisions, cycle}
use Rattle.rules.specs.Reference.{Cluster, beginning, step, after}
use Rattle.rules.proofs.Rows.{get-tabulate, tabulate-ext}
use Rattle.rules.proofs.Votes.{has_view}
use Rattle.rules.proofs.Undisturbed.{Undisturbed, undisturbed, reach_heartbeat}
use Rattle.rules.proofs.States.{rule1_member}
use Rattle.rules.proofs.Own.{rests_alone}
use Rattle.theorem_silence.specs.Silence.{left_alone, all_left, quiet_row, sent_in, no_votes, Silence}

-- ---- who hears all members with join 0, and nobody outside with join 1, has the set as its view

pub sees_set : (N q F heard0 heard1 : ℕ) → below N F ≡ F → has q F ≡ true → ((x : ℕ) → x < N → eqb x q ≡ false → has x F ≡ true → has x heard0 ≡ true)
    → ((x : ℕ) → x < N → eqb x q ≡ false → has x heard1 ≡ true → has x F ≡ true) → view_of N q F heard0 heard1 ≡ F
sees_set N q F heard0 heard1 low m all alone = set_ext (λ x. has_view x N q F heard0 heard1 ∙ go x (eqb x q) (ltb x N) (has x F) (has x heard1) refl refl refl refl)
  where
    under : (x : ℕ) → has x F ≡ true → ltb x N ≡ true
    under x f = and_l (ltb x N) (has x F) (sym (has-below x N F) ∙ ap (has x) low ∙ f)

    go : (x : ℕ) (own there in-set joins : Bool) → eqb x q ≡ own → ltb x N ≡ there → has x F ≡ in-set → has x heard1 ≡ joins
        → (own || (in-set && (there && has x heard0)) || ((there && joins) && not in-set)) ≡ in-set
    go x true there in-set joins e l f h = sym (sym f ∙ ap (λ (y : ℕ). has y F) (eqb-true e) ∙ m)
    go x false true true joins e l f h = ap (λ (b : Bool). b || (joins && false)) (all x (ltb-lt l) e f)
    go x false true false true e l f h = absurd (false≢true (sym f ∙ alone x (ltb-lt l) e h))
    go x false true false false e l f h = refl
    go x false false true joins e l f h = absurd (false≢true (sym l ∙ under x f))
    go x false false false joins e l f h = refl

-- ---- no votes at all

pub same-there {ℓ} : {A : Type ℓ} (n p : ℕ) (d : A) → get_or (tabulate n (λ q. d)) p d ≡ d
unfolding tabulate
same-there zero p d = refl
same-there (suc n) zero d = refl
same-there (suc n) (suc p) d = same-there n p d

-- ---- one cycle

module _ (N G F : ℕ) (low : below N F ≡ F) (c : Faults) (left : left_alone N F c ≡ true) where
  abbrev C : Config
  C = quietly N

  abbrev r : Row
  r = founding N G F

  abbrev founder : State
  founder = Member (founding_group G F) false

  left-each : (q : ℕ) → q < N → (not (disturbed c q) && (has q F || not (has q c.start))) ≡ true
  unfolding left_alone
  left-each q l = every-e N q (λ x. not (disturbed c x) && (has x F || not (has x c.start))) l left

  calm : (q : ℕ) → q < N → Undisturbed c q
  calm q l = undisturbed c q (not-e (disturbed c q) (and_l (not (disturbed c q)) (has q F || not (has q c.start)) (left-each q l)))

  -- nobody outside the founding set is started
  unstarted : (q : ℕ) → q < N → has q F ≡ false → has q c.start ≡ false
  unstarted q l e =
      not-e (has q c.start) (ap (λ (b : Bool). b || not (has q c.start)) (sym e) ∙ and_r (not (disturbed c q)) (has q F || not (has q c.start)) (left-each q l))

  at_first : (q : ℕ) → q < N → at r q ≡ initial G F q
  unfolding founding
  at_first q l = get-tabulate N q (initial G F) stopped l

  -- rule 1 leaves all as they are
  same-states : rule_one N c r ≡ r
  unfolding rule_one founding stop_and_start
  same-states = tabulate-ext N (λ q. stop_and_start (has q c.stop) (has q c.start) (at r q)) (initial G F) (λ q l. ap (stop_and_start (has q c.stop) (has q c.start)) (at_first q l) ∙ one q l (has q F) refl)
    where
      out : (stop start : Bool) → stop ≡ false → start ≡ false → stop_and_start stop start (Out Stopped) ≡ Out Stopped
      out stop start e f = rw (e, f)

      one : (q : ℕ) → q < N → (t : Bool) → has q F ≡ t → stop_and_start (has q c.stop) (has q c.start) (cond t founder (Out Stopped)) ≡ cond t founder (Out Stopped)
      one q l true e = rule1_member (has q c.stop) (has q c.start) founder (founding_group G F) (calm q l).runs refl
      one q l false e = out (has q c.stop) (has q c.start) (calm q l).runs (unstarted q l e)

  -- the founders alone send heartbeats, and without a request
  sends-as : (sends : State → Bool) (a : Bool) → sends founder ≡ a → sends (Out Stopped) ≡ false → (x : ℕ) → x < N → sends (at r x) ≡ (has x F && a)
  sends-as sends a m o x l = ap sends (at_first x l) ∙ pick (has x F)
    where
      pick : (t : Bool) → sends (cond t founder (Out Stopped)) ≡ (t && a)
      pick true = m
      pick false = o

  heard-founders : (q x : ℕ) → q < N → x < N → eqb x q ≡ false → has x (heard N c r sends_member q) ≡ has x F
  unfolding heard
  heard-founders q x l k n =
      those_in x N (λ p. sends_member (at r p) && heartbeat_reaches c p q) k
      ∙ ap₂ (λ (a b : Bool). a && b) (sends-as sends_member true refl refl x k) (reach_heartbeat c x q (calm q l) n ∙ ap not (calm x k).beats) ∙ and-twice (has x F)
    where
      and-twice : (b : Bool) → ((b && true) && true) ≡ b
      and-twice true = refl
      and-twice false = refl

  heard-none : (sends : State → Bool) → sends founder ≡ false → sends (Out Stopped) ≡ false → (q : ℕ) → heard N c r sends q ≡ 0
  unfolding heard
  heard-none sends m o q = set_ext (λ x. has-those x N (λ p. sends (at r p) && heartbeat_reaches c p q) ∙ go x (ltb x N) refl ∙ sym (has-none x))
    where
      go : (x : ℕ) (there : Bool) → ltb x N ≡ there → (there && (sends (at r x) && heartbeat_reaches c x q)) ≡ false
      go x true k = ap (λ (b : Bool). b && heartbeat_reaches c x q) (sends-as sends false m o x (ltb-lt k) ∙ and-false (has x F))
      go x false k = refl

  sees-all : (q : ℕ) → q < N → has q F ≡ true → view_of N q F (heard N c r sends_member q) (heard N c r sends_join q) ≡ F
  sees-all q l e =
      sees_set N q F (heard N c r sends_member q) (heard N c r sends_join q) low e (λ x k n f. heard-founders q x l k n ∙ f)
      (λ x k n f. absurd (false≢true (sym (ap (has x) (heard-none sends_join refl refl q) ∙ has-none x) ∙ f)))

  uncalled : (q : ℕ) → called F false (heard N c r asks q) ≡ false
  unfolding called
  uncalled q = ap (λ (m : ℕ). not (eqb (F ∩ m) 0)) (heard-none asks refl refl q) ∙ ap (λ (m : ℕ). not (eqb m 0)) nobody ∙ ap not (eqb_self 0)
    where
      nobody : F ∩ 0 ≡ 0
      nobody = set_ext (λ x. has_inter x F 0 ∙ ap (λ (b : Bool). has x F && b) (has-none x) ∙ and-false (has x F) ∙ sym (has-none x))

  mute : (q : ℕ) → q < N → has q F ≡ true → votes_now C c r q (founding_group G F) false ≡ false
  unfolding votes_now will_vote own_vote
  mute q l e =
      ap₂ (λ (m : ℕ) (b : Bool). not (eqb m F) || b) (sees-all q l e) (uncalled q) ∙ ap (λ (b : Bool). not b || false) (eqb_self F)

  nobody-votes : votes C c r ≡ no_votes N
  unfolding votes
  nobody-votes = tabulate-ext N (λ q. vote_of C c r q (at r q)) (λ q. none) (λ q l. ap (vote_of C c r q) (at_first q l) ∙ one q l (has q F) refl)
    where
      one : (q : ℕ) → q < N → (t : Bool) → has q F ≡ t → vote_of C c r q (cond t founder (Out Stopped)) ≡ none
      one q l true e = ap (λ (b : Bool). cond b (some (own_vote N c r q (founding_group G F))) none) (mute q l e)
      one q l false e = refl

  none-arrive : (q p : ℕ) → arrived_at c (no_votes N) q p ≡ none
  none-arrive q p = ap (arrive_if reached) (same-there N p none) ∙ nothing reached
    where
      reached : Bool
      reached = vote_reaches c p q

      nothing : (b : Bool) → arrive_if b none ≡ none
      nothing true = refl
      nothing false = refl

  all_rest : decisions C c r (no_votes N) ≡ r
  unfolding decisions founding
  all_rest = tabulate-ext N (λ q. decides C c r q (at r q) (arrived_at c (no_votes N) q)) (initial G F) (λ q l. ap (λ (s : State). decides C c r q s (arrived_at c (no_votes N) q)) (at_first q l) ∙ one q l (has q F) refl)
    where
      one : (q : ℕ) → q < N → (t : Bool) → has q F ≡ t → decides C c r q (cond t founder (Out Stopped)) (arrived_at c (no_votes N) q) ≡ cond t founder (Out Stopped)
      one q l true e =
          ap (λ (b : Bool). cond b (member_decides C q (own_vote N c r q (founding_group G F)) (arrived_at c (no_votes N) q)) (silent_decides C q (founding_group G F) (arrived_at c (no_votes N) q))) (mute q l e)
          ∙ rests_alone C q (founding_group G F) (arrived_at c (no_votes N) q) (none-arrive q)
      one q l false e = refl

  silent-cycle : sent_in N c r ≡ no_votes N
  silent-cycle = ap (votes C c) same-states ∙ nobody-votes

  same_after : cycle C c r ≡ r
  unfolding cycle
  same_after = ap (λ (x : Row). decisions C c x (votes C c x)) same-states ∙ ap (decisions C c r) nobody-votes ∙ all_rest

-- ---- histories

through : (N G F : ℕ) → below N F ≡ F → (k : Cluster) (cs : List Faults) → k.row ≡ founding N G F → all_left N F cs ≡ true
    → (after (quietly N) k cs).row ≡ founding N G F
unfolding after all_left step
through N G F low k [] e left = e
through N G F low k (c ∷ cs) e left =
    through N G F low (step (quietly N) k c) cs (ap (cycle (quietly N) c) e ∙ same_after N G F low c (and_l (left_alone N F c) (all_left N F cs) left)) (and_r (left_alone N F c) (all_left N F cs) left)

pub silence : (N G F : ℕ) → below N F ≡ F → Silence N G F
unfolding beginning
silence N G F low =
    let unchanged : (past : List Faults) → all_left N F past ≡ true → quiet_row N G F past ≡ founding N G F = λ past left. through N G F low (beginning (quietly N) G F) past refl left in
    record { silent = λ past c left now. ap (sent_in N c) (unchanged past left) ∙ silent-cycle N G F low c now; unchanged = unchanged }
