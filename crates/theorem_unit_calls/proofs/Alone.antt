-- One unit's calls in a cycle: its image, its frames and its decision are those of the definition. Assumes nothing.
use mathlib.Core.Path.{◌≡◌, refl, sym, ap, ap₂, ◌∙◌, subst}
use mathlib.Core.Logic.{◌⊎◌, inl, inr}
use mathlib.Core.Bool.{Bool, true, false, not, ◌&&◌, ◌||◌, cond, and-true, and-false}
use mathlib.Core.List.{List, []}
use mathlib.Core.Option.{Option, none, some}
use Prim.Native.Nat.{ℕ, ◌^◌, ◌<◌}
use native.Mathlib.Omega.{arith}
use lib.Dec.{eqb, lit<}
use Rattle.std.specs.Prelude as std
use Rattle.frames.specs.declared.Heartbeat.{Heartbeat}
use Rattle.sets.specs.Sets.{has, single, ◌∩◌}
use Rattle.sets.proofs.Membership.{set_ext, has_inter, has_diff, has-single}
use Rattle.refusal.proofs.Laws.{unless-done}
use Rattle.state.specs.declared.Group.{Group}
use Rattle.state.specs.declared.State.{State}
use Rattle.state.specs.declared.State.TheVariants.{Out, Joining, Member}
use Rattle.state.specs.State.{formed_place, formed_state}
use Rattle.rules.specs.declared.Vote.{Vote}
use Rattle.rules.specs.declared.Config.{Config}
use Rattle.rules.specs.OneCycle.{quiet_in, in_mode, Ballots, stop_and_start, view_of, called, will_vote, member_decides, silent_decides, joiner_decides}
use Rattle.rules.proofs.Votes.{view_others}
use Rattle.theorem_formed.proofs.Formed.{Bound, set_bound, stop_start_formed}
use Rattle.frames.specs.Read.{is_good, receive_heartbeat, heard_in}
use Rattle.bus_units.specs.Units.{Bus, heartbeat_sent, heartbeat_got, is_alive, is_join, is_request, unit_hears, unit_vote, unit_votes, vote_cast, vote_framed, vote_sent, vote_got, unit_ballots, unit_decides}
use Rattle.bus_units.specs.Carried.{HeartbeatSent, VoteSent, sends_heartbeat, sends_vote}
use Rattle.frames.proofs.Faults.{no_heartbeat}
use Rattle.frames.proofs.TwoChannels.{neither-good}
use Rattle.entry_stop_start.specs.StopStart.{stop_left, start_left}
use Rattle.entry_receive_heartbeat.specs.Hearing.{heard_code, receive_heartbeat_status, receive_heartbeat_heard}
use Rattle.entry_send_vote.specs.Voting.{requests_heard, votes_on}
use Rattle.entry_decide.specs.Decide.{decision}
use Rattle.entry_slots.specs.Slots.{buffer_ballots}
use Rattle.theorem_unit_calls.specs.Entries.{Frame, Entries, Within, by_definition}
use Rattle.theorem_unit_calls.specs.Cycle.{Stops, by_stop, by_begin, not_stopped, Starts, by_start, not_started, In, Silent, InMasks, UnitDone, Wrote, sends}
use Rattle.theorem_unit_calls.proofs.Buffer.{Held, collected, silent, ballots_held}
use Rattle.theorem_unit_calls.proofs.Calls.{node_in, image_in, Gives, given_wrote, given-sends, beat_speaks, vote_speaks, alive_code, join_code, request_code, request_alive, hears_bit, hears_self, vote_by, begin_stops, moded, stop-gives, start_gives, beat-gives, beat_bounds, vote-gives, decide-gives}

-- frames that a unit gave for the channels are those that a unit in state s sends
abbrev pub As : (Sent : State → ℕ → List ℕ → Type 0) (speaks : State → Bool) (frames : ℕ → Frame) → State → Type 0
As Sent speaks frames s = ((channel : ℕ) → channel < 2 → (y : List ℕ) → Wrote frames channel y → Sent s channel y) × (sends frames ≡ speaks s)

-- what a copy that is not there is read as
silent_heartbeat : (quiet : Bool) (count p : ℕ) (copies : ℕ → List ℕ) → Silent copies → heard_in (receive_heartbeat quiet p count (copies 0) (copies 1)) ≡ std.None
silent_heartbeat quiet count p copies w =
    ap₂ (λ (x y : List ℕ). heard_in (receive_heartbeat quiet p count x y)) w.0 w.1
    ∙ ap heard_in (neither-good quiet p count [] [] (ap is_good (no_heartbeat quiet p count 0)) (ap is_good (no_heartbeat quiet p count 1))).0

module _ (E : Entries) (told : Within E by_definition) (mode n q : ℕ) (place : formed_place q n ≡ true) where
  abbrev C : Config
  C = in_mode mode n

  abbrev quiet : Bool
  quiet = quiet_in mode

  -- ---- rule 1

  pub stop-call : (b : Bool) (s : State) (x y : List ℕ) → formed_state quiet q n s ≡ true → x ≡ image_in n q s → Stops E mode n q b x y → y ≡ image_in n q (stop_and_start b false s)
  unfolding stop_and_start
  stop-call true s x y w e (by_stop k) = let t = (told.stop mode x y k).lower in t.1 ∙ ap (stop_left mode) e ∙ stop-gives mode n q s place w (moded mode x t.0)
  stop-call true s x y w e (by_begin F o k) = begin_stops n q F y o (told.begin n q F y k)
  stop-call false s x y w e not_stopped = e

  start-call : (a b : Bool) (s : State) (x y : List ℕ) → formed_state quiet q n s ≡ true → x ≡ image_in n q (stop_and_start a false s) → Starts E mode b x y → y ≡ image_in n q (stop_and_start a b s)
  unfolding stop_and_start
  start-call a true s x y w e (by_start k) =
      let t = (told.start mode x y k).lower in
      t.1 ∙ ap (start_left mode) e ∙ start_gives mode n q (stop_and_start a false s) place (stop_start_formed a false quiet n q s w) (moded mode x t.0)
  start-call a false s x y w e not_started = e

  module _ (count stop start : ℕ) (bus : Bus) (s : State) (x z : List ℕ) (w : formed_state quiet q n s ≡ true) (e : x ≡ image_in n q s) (d : UnitDone E mode n count stop start bus q x z) where
    -- its state after rule 1
    abbrev pub now : State
    now = stop_and_start (has q stop) (has q start) s

    ruled-is : d.ruled ≡ image_in n q now
    ruled-is = start-call (has q stop) (has q start) s d.between d.ruled w (stop-call (has q stop) s x d.between w e d.stops) d.starts

    now-formed : formed_state quiet q n now ≡ true
    now-formed = stop_start_formed (has q stop) (has q start) quiet n q s w

    -- ---- rule 2

    beat-call : (channel : ℕ) → channel < 2 → by_definition.send_heartbeat mode (image_in n q now) (d.sync channel) (d.startup channel) count channel d.drive (d.heartbeat channel)
    beat-call channel l =
        subst (λ (y : List ℕ). by_definition.send_heartbeat mode y (d.sync channel) (d.startup channel) count channel d.drive (d.heartbeat channel)) ruled-is
        (told.send_heartbeat mode d.ruled (d.sync channel) (d.startup channel) count channel d.drive (d.heartbeat channel) (d.beats channel l))

    pub beat-given : (channel : ℕ) → channel < 2 → Gives (d.heartbeat channel) (heartbeat_sent (d.sync channel) (d.startup channel) d.drive count q now channel)
    beat-given channel l = beat-gives mode n q now place now-formed (d.sync channel) (d.startup channel) count channel d.drive (d.heartbeat channel) (beat-call channel l)

    pub unit-beats : As (HeartbeatSent count q d.drive) sends_heartbeat d.heartbeat now
    unit-beats = (
      λ channel l y k.
          let b = beat_bounds mode (image_in n q now) (d.sync channel) (d.startup channel) count channel d.drive (d.heartbeat channel) (beat-call channel l) in
          (d.sync channel, d.startup channel, omega arith, b.1, b.3, given_wrote (d.heartbeat channel) _ y (beat-given channel l) k.0 k.1),
      given-sends (d.heartbeat 0) (heartbeat_sent (d.sync 0) (d.startup 0) d.drive count q now 0) (beat-given 0 (lit< tt)) ∙ beat_speaks (d.sync 0) (d.startup 0) d.drive count q 0 now,
    )

    -- ---- rule 3: what it heard of another unit is what it reads of it

    abbrev got : ℕ → std.Option Heartbeat
    got p = heartbeat_got quiet count bus.heartbeats q p

    abbrev hearing : (std.Option Heartbeat → Bool) → ℕ
    hearing kind = unit_hears C count bus.heartbeats kind q

    heard-is : (p : ℕ) → p < n → eqb p q ≡ false
        → (has p d.heard0 ≡ is_alive (got p)) × (has p d.heard1 ≡ is_join (got p)) × ((has p d.heard0 && has p d.requests) ≡ is_request (got p))
    unfolding receive_heartbeat_heard
    heard-is p l o = go (d.hears p l o)
      where
        r : std.Option Heartbeat
        r = got p

        go : ((heard : ℕ) × E.receive_heartbeat n mode p count (bus.heartbeats p q 0) (bus.heartbeats p q 1) heard × InMasks heard p d.heard0 d.heard1 d.requests)
            ⊎ (Silent (bus.heartbeats p q) × (has p d.heard0 ≡ false) × (has p d.heard1 ≡ false))
            → (has p d.heard0 ≡ is_alive r) × (has p d.heard1 ≡ is_join r) × ((has p d.heard0 && has p d.requests) ≡ is_request r)
        go (inl k) =
            let t = (told.receive_heartbeat n mode p count (bus.heartbeats p q 0) (bus.heartbeats p q 1) k.0 k.1).lower in
            let h : k.0 ≡ heard_code r = t.3 ∙ unless-done (receive_heartbeat_status n mode p count t.0) (heard_code r) t.1 (sym t.2) in
            let alive = k.2.0 ∙ ap (λ (x : ℕ). eqb x 1 || eqb x 3) h ∙ alive_code r in
            let asked = k.2.2 ∙ ap (λ (x : ℕ). eqb x 3) h ∙ request_code r in
            (alive, k.2.1 ∙ ap (λ (x : ℕ). eqb x 2) h ∙ join_code r, ap₂ (λ (a b : Bool). a && b) alive asked ∙ request_alive r)
        go (inr k) =
            let m : r ≡ std.None = silent_heartbeat quiet count p (bus.heartbeats p q) k.0 in
            (k.1 ∙ sym (ap is_alive m), k.2 ∙ sym (ap is_join m), ap (λ (b : Bool). b && has p d.requests) k.1 ∙ sym (ap is_request m))

    own-vote : (g : Group) → ◌≡◌ {A = Vote} (record { group = g; view = view_of n q g.set d.heard0 d.heard1 }) (unit_vote C count bus.heartbeats q g)
    unfolding unit_vote
    own-vote g =
        let h = bus.heartbeats in
        ap (λ (v : ℕ). record { group = g; view = v })
        (view_others n q g.set d.heard0 d.heard1 (hearing is_alive) (hearing is_join)
        (λ p l o. (heard-is p l o).0 ∙ sym (hears_bit C count h is_alive p q l o)) (λ p l o. (heard-is p l o).1 ∙ sym (hears_bit C count h is_join p q l o)))

    -- the requests that its masks hold, in a set without nodes at n or above, are those that it reads
    requests-are : (M : ℕ) → Bound n M → (M ∩ requests_heard (node_in n q now) d.heard0 d.requests) ≡ (M ∩ hearing is_request)
    requests-are M low = set_ext (λ p. has_inter p M masks ∙ go p (has p M) refl ∙ sym (has_inter p M (hearing is_request)))
      where
        masks : ℕ
        masks = requests_heard (node_in n q now) d.heard0 d.requests

        in-masks : (p : ℕ) → has p masks ≡ ((has p d.heard0 && has p d.requests) && not (eqb p q))
        in-masks p =
            has_diff p (d.heard0 ∩ d.requests) (single q) ∙ ap₂ (λ (a b : Bool). a && not b) (has_inter p d.heard0 d.requests) (has-single p q)

        read : (p : ℕ) → p < n → (own : Bool) → eqb p q ≡ own → has p masks ≡ has p (hearing is_request)
        read p l true o =
            in-masks p ∙ ap (λ (b : Bool). (has p d.heard0 && has p d.requests) && not b) o ∙ and-false (has p d.heard0 && has p d.requests)
            ∙ sym (hears_self C count bus.heartbeats is_request p q l o)
        read p l false o =
            in-masks p ∙ ap (λ (b : Bool). (has p d.heard0 && has p d.requests) && not b) o ∙ and-true (has p d.heard0 && has p d.requests)
            ∙ (heard-is p l o).2 ∙ sym (hears_bit C count bus.heartbeats is_request p q l o)

        go : (p : ℕ) (t : Bool) → has p M ≡ t → (t && has p masks) ≡ (t && has p (hearing is_request))
        go p true h = read p (low p h) (eqb p q) refl
        go p false h = refl

    -- ---- rule 4

    own-votes : (g : Group) (a : Bool) → formed_state quiet q n (Member g a) ≡ true
        → votes_on quiet (node_in n q now) g a d.heard0 d.heard1 d.requests ≡ unit_votes C count bus.heartbeats q g a
    unfolding unit_votes called
    own-votes g a f =
        ap₂ (λ (v : Vote) (m : ℕ). will_vote C g.set v.view (a || not (eqb m 0))) (own-vote g) (requests-are g.set (set_bound quiet n q g a f))

    own_cast : (t : State) → formed_state quiet q n t ≡ true → vote_by quiet n q d.heard0 d.heard1 d.requests t ≡ vote_cast C count bus.heartbeats q t
    own_cast (Out r) f = refl
    own_cast Joining f = refl
    own_cast (Member g a) f = ap₂ (λ (b : Bool) (v : Vote). cond b (some v) none) (own-votes g a f) (own-vote g)

    pub vote-given : (channel : ℕ) → channel < 2 → Gives (d.vote channel) (vote_sent C count bus.heartbeats q now channel)
    vote-given channel l =
        subst (λ (v : Option Vote). Gives (d.vote channel) (vote_framed count q v channel)) (own_cast now now-formed)
        (vote-gives mode n q now place now-formed d.heard0 d.heard1 d.requests count channel (d.vote channel)
        (subst (λ (y : List ℕ). by_definition.send_vote mode y d.heard0 d.heard1 d.requests count channel (d.vote channel)) ruled-is
        (told.send_vote mode d.ruled d.heard0 d.heard1 d.requests count channel (d.vote channel) (d.casts channel l))))

    pub unit-votes : As (VoteSent C count bus.heartbeats q) (sends_vote C count bus.heartbeats q) d.vote now
    unit-votes = (
      λ channel l y k. given_wrote (d.vote channel) _ y (vote-given channel l) k.0 k.1,
      given-sends (d.vote 0) (vote_sent C count bus.heartbeats q now 0) (vote-given 0 (lit< tt)) ∙ vote_speaks count q 0 (vote_cast C count bus.heartbeats q now),
    )

    -- ---- rules 5 and 6

    module _ (small : (p : ℕ) → p < n → eqb p q ≡ false → (v : Vote) → vote_got n count bus.votes q p ≡ std.Some v → v.group.number < 2 ^ 32) where
      abbrev buffered : Ballots
      buffered = buffer_ballots n q d.votes d.arrived

      ballots-are : buffered ≡ unit_ballots n count bus.votes q
      ballots-are = ballots_held n q count bus.votes d.votes d.arrived each
        where
          each : (p : ℕ) → p < n → eqb p q ≡ false → Held d.votes d.arrived p (vote_got n count bus.votes q p)
          each p l o = collected E told n count (λ j. bus.votes j q) p (small p l o) d.collects (go (d.attends p l o))
            where
              go : In p d.senders ⊎ (Silent (bus.votes p q) × (has p d.cleared ≡ false)) → In p d.senders ⊎ Held d.buffer d.cleared p (vote_got n count bus.votes q p)
              go (inl i) = inl i
              go (inr k) = inr (silent n p count (bus.votes p q) d.buffer d.cleared k.0 k.1)

      -- the calls of one unit, on any bus, give what the definition of a unit's cycle gives
      pub unit-alone : z ≡ image_in n q (unit_decides C count bus q now)
      unit-alone =
          decide-gives mode n q now place now-formed d.heard0 d.heard1 d.requests d.votes d.arrived z
          (subst (λ (y : List ℕ). by_definition.decide mode y d.heard0 d.heard1 d.requests d.votes d.arrived z) ruled-is
          (told.decide mode d.ruled d.heard0 d.heard1 d.requests d.votes d.arrived z d.decides))
          ∙ ap (image_in n q) (go now now-formed)
        where
          go : (t : State) → formed_state quiet q n t ≡ true
              → decision quiet (node_in n q now) t d.heard0 d.heard1 d.requests d.votes d.arrived ≡ unit_decides C count bus q t
          go (Out r) f = refl
          go Joining f = ap (joiner_decides C q) ballots-are
          go (Member g a) f =
              ap (λ (votes : Bool). cond votes (member_decides C q (record { group = g; view = view_of n q g.set d.heard0 d.heard1 }) buffered) (silent_decides C q g buffered)) (own-votes g a f)
              ∙ ap₂ (cond (unit_votes C count bus.heartbeats q g a)) (ap₂ (member_decides C q) (own-vote g) ballots-are) (ap (silent_decides C q g) ballots-are)
