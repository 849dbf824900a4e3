-- A founder of a quiet press that hears the other founders and nothing new sends no vote, and its image stays. Assumes nothing.
use Rattle.std.specs.Prelude.{Ok, Result}
use mathlib.Core.Path.{◌≡◌, refl, sym, ap, ◌∙◌}
use mathlib.Core.Bool.{Bool, true, false, not, ◌&&◌, cond, false≢true, and-false}
use mathlib.Core.List.{List}
use mathlib.Core.Option.{none, some}
use Prim.Native.Nat.{ℕ, ◌<◌, ◌^◌}
use lib.Dec.{eqb, ltb}
use Rattle.sets.specs.Sets.{has, single, subset, below, ◌∩◌, ◌∖◌}
use Rattle.sets.proofs.Booleans.{and_l, and_r, and_i, eqb_self, eqb-true, ltb-true}
use Rattle.sets.proofs.Membership.{has_inter, has_diff, has-single, has-none, set_ext, subset_in, subset_of}
use Rattle.sets.proofs.Nodes.{has-below, has-those}
use Rattle.state.specs.declared.Group.{Group}
use Rattle.state.specs.declared.State.{State}
use Rattle.state.specs.declared.State.TheVariants.{Out, Member}
use Rattle.state.specs.declared.Reason.TheVariants.{Stopped}
use Rattle.state.specs.declared.Node.{Node}
use Rattle.refusal.specs.declared.Refusal.{Refusal}
use Rattle.state.specs.State.{formed_sets, formed_place, formed_state, formed, founding_group, initial}
use Rattle.state.specs.Image.{image_of, decoded}
use Rattle.state.proofs.RoundTrip.{round_trip}
use Rattle.refusal.specs.Refusal.{unless}
use Rattle.refusal.proofs.Laws.{unless-done}
use Rattle.rules.specs.OneCycle.{Ballots, view_of, called, will_vote, member_decides, silent_decides}
use Rattle.frames.specs.Written.{formed_vote}
use Rattle.entry_begin.specs.Begin.{begin_status, begin_left}
use Rattle.entry_slots.specs.Slots.{slot_vote, arrived_in, buffer_ballots}
use Rattle.entry_send_vote.specs.Voting.{own_view, press_of, requests_heard, votes_on, send_vote_status, votes_byte, voted_of, vote_in, vote_from, send_vote_sent, send_vote_left}
use Rattle.entry_decide.specs.Decide.{decide_status, decision, decided_from, decide_left}
use Rattle.theorem_silence.specs.Founder.{founder, begun, hears_founders, FounderRests, FoundersRest}
use Rattle.theorem_silence.proofs.Silence.{sees_set}
use Rattle.rules.proofs.Own.{rests_alone}

none_arrived : (n q : ℕ) (votes : List ℕ) (p : ℕ) → buffer_ballots n q votes 0 p ≡ none
unfolding buffer_ballots arrived_in
none_arrived n q votes p = ap (λ (b : Bool). cond b (some (slot_vote votes p)) none) (has-those p n (λ x. not (eqb x q) && has x 0 && formed_vote n x (slot_vote votes x)) ∙ ap (λ (b : Bool). ltb p n && (not (eqb p q) && b && formed_vote n p (slot_vote votes p))) (has-none p) ∙ go (ltb p n) (not (eqb p q)))
  where
    go : (a b : Bool) → (a && (b && false && formed_vote n p (slot_vote votes p))) ≡ false
    go true true = refl
    go true false = refl
    go false b = refl

-- what stays where it is done, stays
either_kept : (status : ℕ) (x y : List ℕ) → x ≡ y → unless status x y ≡ y
unfolding unless
either_kept status x y e = go (eqb status 0)
  where
    go : (b : Bool) → cond b x y ≡ y
    go true = e
    go false = refl

module _ (n q G F heard0 heard1 requests : ℕ) (good : formed true (founder n q G F) ≡ true) (m : has q F ≡ true)
    (hears : hears_founders n q F heard0 heard1 requests ≡ true) where
  abbrev g : Group
  g = founding_group G F

  abbrev node : Node
  node = founder n q G F

  begins : node.state ≡ Member g false
  begins = ap (λ (b : Bool). cond b (Member g false) (Out Stopped)) m

  -- the founding set has no node at n or above
  low : below n F ≡ F
  unfolding formed formed_sets
  low =
      let state = ap (formed_state true q n) (sym begins) ∙ and_r (formed_place q n) (formed_state true q n node.state) good in
      eqb-true (and_r (has q F && subset F F) (eqb (below n F) F) (and_r (ltb G (2 ^ 32)) (formed_sets q n F F) state))

  others : (subset (F ∖ single q) heard0 ≡ true) × (subset (below n heard1) F ≡ true) × ((F ∩ requests) ∖ single q ≡ 0)
  unfolding hears_founders
  others =
      let a = subset (F ∖ single q) heard0 in
      let b = subset (below n heard1) F in
      let c = eqb ((F ∩ requests) ∖ single q) 0 in
      let bc = and_r a (b && c) hears in
      (and_l a (b && c) hears, and_l b c bc, eqb-true (and_r b c bc))

  sees : view_of n q F heard0 heard1 ≡ F
  sees =
      sees_set n q F heard0 heard1 low m
      (λ x l e f. subset_in (F ∖ single q) heard0 others.0 x (has_diff x F (single q) ∙ rw (f, has-single x q, e)))
      (λ x l e h. subset_in (below n heard1) F others.1 x (has-below x n heard1 ∙ rw (ltb-true l, h)))

  uncalled : F ∩ requests_heard node heard0 requests ≡ 0
  uncalled = set_ext (λ x. has_inter x F (requests_heard node heard0 requests) ∙ ap (λ (b : Bool). has x F && b) (has_diff x (heard0 ∩ requests) (single q) ∙ ap (λ (b : Bool). b && not (has x (single q))) (has_inter x heard0 requests)) ∙ go (has x F) (has x heard0) (has x requests) (not (has x (single q))) (sym (has_diff x (F ∩ requests) (single q) ∙ ap (λ (b : Bool). b && not (has x (single q))) (has_inter x F requests)) ∙ ap (has x) others.2 ∙ has-none x) ∙ sym (has-none x))
    where
      go : (a b c d : Bool) → ((a && c) && d) ≡ false → (a && ((b && c) && d)) ≡ false
      go true true c d e = e
      go true false c d e = refl
      go false b c d e = refl

  silent : votes_on true node g false heard0 heard1 requests ≡ false
  unfolding will_vote called
  silent = rw (sees, eqb_self F, uncalled)

  found : decoded true (image_of node) ≡ Ok node
  found = round_trip true node good

  sends_none : (cycle channel sent : ℕ) (f : List ℕ)
      → send_vote_sent 1 (image_of node) heard0 heard1 requests cycle channel f sent ≡ unless (send_vote_status 1 (image_of node) cycle channel f) 0 sent
  unfolding send_vote_sent
  sends_none cycle channel sent f =
      ap (λ (x : ℕ). unless (send_vote_status 1 (image_of node) cycle channel f) x sent)
      (ap (λ (d : Result Node Refusal). voted_of true d heard0 heard1 requests) found
      ∙ ap (λ (s : State). votes_byte true node s heard0 heard1 requests) begins ∙ ap (λ (b : Bool). cond b 1 0) silent)

  writes-none : (cycle channel : ℕ) (f : List ℕ) → send_vote_left 1 (image_of node) heard0 heard1 requests cycle channel f ≡ f
  unfolding send_vote_left
  writes-none cycle channel f =
      either_kept (send_vote_status 1 (image_of node) cycle channel f) _ f
      (ap (λ (d : Result Node Refusal). vote_from true d heard0 heard1 requests cycle channel f) found
      ∙ ap (λ (s : State). vote_in true node s heard0 heard1 requests cycle channel f) begins ∙ rw silent)

  module _ (votes : List ℕ) where
    abbrev b : Ballots
    b = buffer_ballots n q votes 0

    rests-on : decision true node (Member g false) heard0 heard1 requests votes 0 ≡ Member g false
    rests-on =
        ap (λ (v : Bool). cond v (member_decides (press_of true node) q (record { group = g; view = own_view node heard0 heard1 g }) b) (silent_decides (press_of true node) q g b)) silent
        ∙ rests_alone (press_of true node) q g b (none_arrived n q votes)

    leaves : decide_left 1 (image_of node) heard0 heard1 requests votes 0 ≡ image_of node
    unfolding decide_left
    leaves =
        either_kept (decide_status 1 (image_of node) votes) _ (image_of node)
        (ap (λ (d : Result Node Refusal). decided_from true d heard0 heard1 requests votes 0 (image_of node)) found
        ∙ ap (λ (s : State). image_of (record { state = s; id = q; nodes = n })) (ap (λ (s : State). decision true node s heard0 heard1 requests votes 0) begins ∙ rests-on ∙ sym begins))

  rests-all : FounderRests n q G F heard0 heard1 requests
  rests-all = record { silent = sends_none; unwritten = writes-none; unchanged = leaves }

pub founder-rests : FoundersRest
founder-rests n q G F heard0 heard1 requests good m hears = rests-all n q G F heard0 heard1 requests good m hears

-- ---- the image is that of the beginning, and the premises can be met

pub begins_so : (n q F : ℕ) (s : List ℕ) → begin_status n q F s ≡ 0 → begin_left n q F s ≡ begun n q 0 F
unfolding begin_left
begins_so n q F s e = unless-done (begin_status n q F s) (begun n q 0 F) s e

pub founder_there : (n q G F : ℕ) → formed_place q n ≡ true → G < 2 ^ 32 → has q F ≡ true → below n F ≡ F
    → (formed true (founder n q G F) ≡ true) × (hears_founders n q F F 0 0 ≡ true)
unfolding formed formed_sets hears_founders
founder_there n q G F place small m bound = (whole, hears)
  where
    inside : subset F F ≡ true
    inside = subset_of F F (λ x h. h)

    whole : (formed_place q n && formed_state true q n (initial G F q)) ≡ true
    whole =
        and_i (formed_place q n) (formed_state true q n (initial G F q)) place
        (ap (λ (b : Bool). formed_state true q n (cond b (Member (founding_group G F) false) (Out Stopped))) m
        ∙ and_i (ltb G (2 ^ 32)) (formed_sets q n F F) (ltb-true small)
        (and_i (has q F && subset F F) (eqb (below n F) F) (and_i (has q F) (subset F F) m inside) (ap (λ (x : ℕ). eqb x F) bound ∙ eqb_self F)))

    others-in : subset (F ∖ single q) F ≡ true
    others-in = subset_of (F ∖ single q) F (λ x h. and_l (has x F) (not (has x (single q))) (sym (has_diff x F (single q)) ∙ h))

    nobody : below n 0 ≡ 0
    nobody = set_ext (λ x. has-below x n 0 ∙ ap (λ (b : Bool). ltb x n && b) (has-none x) ∙ and-false (ltb x n) ∙ sym (has-none x))

    none-asks : (F ∩ 0) ∖ single q ≡ 0
    none-asks = set_ext (λ x. has_diff x (F ∩ 0) (single q) ∙ ap (λ (b : Bool). b && not (has x (single q))) (has_inter x F 0 ∙ ap (λ (b : Bool). has x F && b) (has-none x) ∙ and-false (has x F)) ∙ sym (has-none x))

    hears : (subset (F ∖ single q) F && (subset (below n 0) F && eqb ((F ∩ 0) ∖ single q) 0)) ≡ true
    hears = and_i (subset (F ∖ single q) F) (subset (below n 0) F && eqb ((F ∩ 0) ∖ single q) 0) others-in
        (and_i (subset (below n 0) F) (eqb ((F ∩ 0) ∖ single q) 0)
        (ap (λ (x : ℕ). subset x F) nobody ∙ subset_of 0 F (λ x h. absurd (false≢true (sym (has-none x) ∙ h)))) (ap (λ (x : ℕ). eqb x 0) none-asks ∙ eqb_self 0))
