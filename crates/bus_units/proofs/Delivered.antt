-- A bus that delivers carries its fault record; the bus that a record makes delivers. Assumes nothing.
use mathlib.Core.Path.{◌≡◌, refl, sym, ap, ap₂, ◌∙◌, subst}
use mathlib.Core.Bool.{Bool, true, false, not, ◌&&◌, ◌||◌, cond, true≢false}
use mathlib.Core.List.{List, []}
use mathlib.Core.Option.{Option, none, some}
use Prim.Native.Nat.{ℕ, ◌^◌, ◌≤◌, ◌<◌}
use native.Mathlib.Omega.{arith}
use lib.Dec.{eqb, ltb, lit<, lit≤}
use borrow.Author.Tests.{eq-eqb}
use Rattle.std.specs.Prelude as std
use Rattle.sets.specs.Sets.{has, subset, below}
use Rattle.sets.proofs.Booleans.{and_l, and_r, ltb-lt}
use Rattle.state.specs.declared.Group.{Group}
use Rattle.state.specs.declared.State.{State}
use Rattle.state.specs.declared.State.TheVariants.{Out, Joining, Member}
use Rattle.state.specs.State.{formed_sets, formed_state}
use Rattle.rules.specs.declared.Vote.{Vote}
use Rattle.rules.specs.declared.Faults.{Faults}
use Rattle.rules.specs.declared.Config.{Config}
use Rattle.rules.specs.OneCycle.{view_of}
use Rattle.rules.specs.Faults.{Row, at, rule_one, heartbeat_reaches, vote_reaches, arrive_if, cycle}
use Rattle.rules.proofs.States.{none-some, some_inj}
use Rattle.rules.proofs.Votes.{view_own, view_below, vote_self}
use Rattle.theorem_formed.proofs.Formed.{FormedRow, rule_one_formed}
use Rattle.frames.specs.declared.Fault.TheVariants.{Length}
use Rattle.frames.specs.declared.Heartbeat.{Heartbeat}
use Rattle.frames.specs.Written.{wrong_request, heartbeat_frame, wrong_drive, vote_frame, formed_vote}
use Rattle.frames.specs.Read.{payload_of, read_heartbeat, is_good, heard_in, read_vote, receive_vote}
use Rattle.frames.proofs.Faults.{no_heartbeat, no_vote}
use Rattle.frames.proofs.Payloads.{none_wrong}
use Rattle.frames.proofs.RoundTrip.{unasked, vote_back}
use Rattle.frames.proofs.TwoChannels.{neither-good, heard_with, SentOn, sent-payload, sent-on-a, sent-on-b}
use Rattle.bus_units.specs.Units.{Copies, Bus, heartbeat_sent, heartbeat_got, drive_got, unit_hears, is_alive, is_join, unit_vote, unit_votes, vote_cast, vote_framed, vote_got, received, units_cycle}
use Rattle.bus_units.specs.Faulty.{copy_if, heartbeats_of, votes_of, bus_with, bus_of, framed_cycle}
use Rattle.bus_units.specs.Carried.{heartbeat_kind, Carries, Came, on_both, on_a, on_b, on_none, HeartbeatRefused, VoteRefused, HeartbeatSent, VoteSent, sends_heartbeat, is_some, sends_vote, Delivers}
use Rattle.bus_units.proofs.Follow.{units_follow}

-- ---- the two-channel rule, of heartbeats and votes alike: what copies give that came, and what others give

module _ (Sent Refused : ℕ → List ℕ → Type 0) (a b : List ℕ) (Gives : Bool → Type 0) (neither : Refused 0 a → Refused 1 b → Gives false) where
  nothing-came : Came Sent Refused a b false → Gives false
  nothing-came (on_none e f) = neither e f

  came : (Sent 0 a → Sent 1 b → Gives true) → (Sent 0 a → Refused 1 b → Gives true) → (Refused 0 a → Sent 1 b → Gives true) → (t : Bool) → Came Sent Refused a b t → Gives t
  came two one other true (on_both e f) = two e f
  came two one other true (on_a e f) = one e f
  came two one other true (on_b e f) = other e f
  came two one other false (on_none e f) = neither e f

-- ---- who votes casts a vote that a reader takes

pub formed-vote : (quiet : Bool) (n q h0 h1 : ℕ) (g : Group) (a : Bool) → q < n → formed_state quiet q n (Member g a) ≡ true
    → (g.number < 2 ^ 32) × (formed_vote n q (record { group = g; view = view_of n q g.set h0 h1 }) ≡ true)
unfolding formed_sets formed_vote
formed-vote quiet n q h0 h1 g a l w =
    let k = and_r (quiet || not a) (ltb g.number (2 ^ 32) && formed_sets q n g.set g.base) w in
    let f = and_r (ltb g.number (2 ^ 32)) (formed_sets q n g.set g.base) k in
    let ab = and_l (has q g.set && subset g.set g.base) (eqb (below n g.base) g.base) f in
    let set : has q g.set ≡ true = and_l (has q g.set) (subset g.set g.base) ab in
    let b : subset g.set g.base ≡ true = and_r (has q g.set) (subset g.set g.base) ab in
    let d : eqb (below n g.base) g.base ≡ true = and_r (has q g.set && subset g.set g.base) (eqb (below n g.base) g.base) f in
    let view = view_of n q g.set h0 h1 in
    let own : has q view ≡ true = view_own n q g.set h0 h1 in
    let low : eqb (below n view) view ≡ true = eq-eqb (below n view) view (view_below n q g.set h0 h1 l) in
    (ltb-lt (and_l (ltb g.number (2 ^ 32)) (formed_sets q n g.set g.base) k), rw (set, own, b, d, low))

unit_vote_formed : (C : Config) (count : ℕ) (h : Copies) (q : ℕ) (g : Group) (a : Bool) → q < C.nodes → formed_state C.quiet q C.nodes (Member g a) ≡ true
    → ((unit_vote C count h q g).group.number < 2 ^ 32) × (formed_vote C.nodes q (unit_vote C count h q g) ≡ true)
unfolding unit_vote
unit_vote_formed C count h q g a l w = formed-vote C.quiet C.nodes q (unit_hears C count h is_alive q) (unit_hears C count h is_join q) g a l w

pub cast_formed : (C : Config) (count : ℕ) (h : Copies) (q : ℕ) (s : State) → q < C.nodes → formed_state C.quiet q C.nodes s ≡ true → (v : Vote) → vote_cast C count h q s ≡ some v
    → (v.group.number < 2 ^ 32) × (formed_vote C.nodes q v ≡ true)
cast_formed C count h q (Out z) l w v e = absurd (none-some e)
cast_formed C count h q Joining l w v e = absurd (none-some e)
cast_formed C count h q (Member g a) l w v e = go (unit_votes C count h q g a) e
  where
    go : (b : Bool) → cond b (some (unit_vote C count h q g)) none ≡ some v → (v.group.number < 2 ^ 32) × (formed_vote C.nodes q v ≡ true)
    go true k = subst (λ (x : Vote). (x.group.number < 2 ^ 32) × (formed_vote C.nodes q x ≡ true)) (some_inj k) (unit_vote_formed C count h q g a l w)
    go false k = absurd (none-some k)

-- ---- who requests may: no member of a press that votes in every cycle does

pub request_allowed : (quiet : Bool) (n q : ℕ) (g : Group) (a : Bool) → formed_state quiet q n (Member g a) ≡ true → wrong_request quiet 0 (cond a 1 0) ≡ false
unfolding wrong_request
request_allowed quiet n q g a w = go quiet a (and_l (quiet || not a) (ltb g.number (2 ^ 32) && formed_sets q n g.set g.base) w)
  where
    go : (quiet a : Bool) → (quiet || not a) ≡ true → (eqb (cond a 1 0) 1 && (eqb 0 1 || not quiet)) ≡ false
    go true true e = refl
    go true false e = refl
    go false true e = absurd (true≢false (sym e))
    go false false e = refl

-- ---- a bus that delivers carries the record

module _ (C : Config) (count : ℕ) (few : C.nodes ≤ 64) (counted : count < 64) (bus : Bus) (c : Faults) where
  abbrev pub N : ℕ
  N = C.nodes

  abbrev quiet : Bool
  quiet = C.quiet

  module _ (p q : ℕ) (low-p : p < N) (drive : List ℕ) where
    abbrev a : List ℕ
    a = bus.heartbeats p q 0

    abbrev b : List ℕ
    b = bus.heartbeats p q 1

    -- what was heard, and the drive bytes with it, of a frame that came or not
    abbrev Beat : std.Option Heartbeat → Bool → Type 0
    Beat kind t = (heartbeat_got quiet count bus.heartbeats q p ≡ cond t kind std.None) × (drive_got quiet count bus.heartbeats q p ≡ cond t drive [])

    abbrev Refused : ℕ → List ℕ → Type 0
    Refused = HeartbeatRefused quiet count p

    refused-copy : (channel : ℕ) (x : List ℕ) → Refused channel x → is_good (read_heartbeat quiet p count channel x) ≡ false
    refused-copy channel x k = ap is_good k.1

    no-beat : (kind : std.Option Heartbeat) → Refused 0 a → Refused 1 b → Beat kind false
    no-beat kind e f =
        let g = neither-good quiet p count a b (refused-copy 0 a e) (refused-copy 1 b f) in
        (ap heard_in g.0, g.1)

    -- of a unit that sends with those bits
    module _ (join request : ℕ) (low-j : join < 2) (low-r : request < 2) (allowed : wrong_request quiet join request ≡ false) where
      abbrev Frame : ℕ → List ℕ → Type 0
      Frame channel x =
          (sync : ℕ) × (startup : ℕ) × (sync < 2) × (startup ≤ sync) × (wrong_drive drive ≡ false) × (some (heartbeat_frame p join request sync startup count channel drive) ≡ some x)

      abbrev heard : std.Option Heartbeat
      heard = heard_with join request

      low : p < 64
      low = omega arith

      on : (channel : ℕ) (x : List ℕ) → Frame channel x → SentOn p join request count drive channel x
      on channel x k = (k.0, k.1, k.2, k.3, sym (some_inj k.5))

      a-beat : Frame 0 a → (is_good (read_heartbeat quiet p count 1 b) ≡ true → payload_of a ≡ payload_of b) → Beat heard true
      a-beat k e = sent-on-a quiet p join request count drive low low-j low-r allowed counted k.4 a b (on 0 a k) e

      b-beat : Refused 0 a → Frame 1 b → Beat heard true
      b-beat e k = sent-on-b quiet p join request count drive low low-j low-r allowed counted k.4 a b (on 1 b k) (λ g. absurd (true≢false (sym g ∙ refused-copy 0 a e)))

      beat-of : (t : Bool) → Came Frame Refused a b t → Beat heard t
      beat-of = came Frame Refused a b (Beat heard) (no-beat heard)
          (λ k l. a-beat k (λ g. sent-payload p join request count drive 0 a (on 0 a k) ∙ sym (sent-payload p join request count drive 1 b (on 1 b l))))
          (λ k f. a-beat k (λ g. absurd (true≢false (sym g ∙ refused-copy 1 b f)))) b-beat

    -- heard is what was sent, with exactly the drive bytes of its sender
    pub beat-came : (s : State) (t : Bool) → formed_state quiet p N s ≡ true → Came (HeartbeatSent count p drive s) (HeartbeatRefused quiet count p) a b (sends_heartbeat s && t)
        → (heartbeat_got quiet count bus.heartbeats q p ≡ cond t (heartbeat_kind s) std.None) × (drive_got quiet count bus.heartbeats q p ≡ cond (sends_heartbeat s && t) drive [])
    beat-came (Out z) t w k =
        let g = nothing-came (HeartbeatSent count p drive (Out z)) Refused a b (Beat std.None) (no-beat std.None) k in
        (g.0 ∙ go t, g.1)
      where
        go : (t : Bool) → ◌≡◌ {A = std.Option Heartbeat} std.None (cond t std.None std.None)
        go true = refl
        go false = refl
    beat-came Joining t w k = beat-of 1 0 (lit< tt) (lit< tt) (unasked quiet 1) t k
    beat-came (Member g true) t w k = beat-of 0 1 (lit< tt) (lit< tt) (request_allowed quiet N p g true w) t k
    beat-came (Member g false) t w k = beat-of 0 0 (lit< tt) (lit< tt) (request_allowed quiet N p g false w) t k

  module _ (p q : ℕ) (l : p < N) where
    abbrev Sent : Option Vote → ℕ → List ℕ → Type 0
    Sent o channel x = vote_framed count p o channel ≡ some x

    -- of a unit that casts o
    ballot-of : (o : Option Vote) → ((v : Vote) → o ≡ some v → (v.group.number < 2 ^ 32) × (formed_vote N p v ≡ true)) → (t : Bool)
        → Came (Sent o) (VoteRefused N count p) (bus.votes p q 0) (bus.votes p q 1) (is_some o && t) → received (vote_got N count bus.votes q p) ≡ arrive_if t o
    ballot-of none sound t k =
        ap received (nothing-came (Sent none) (VoteRefused N count p) _ _ (λ z. vote_got N count bus.votes q p ≡ std.None) (λ e f. ap₂ receive_vote e.1 f.1) k)
        ∙ go t
      where
        go : (t : Bool) → none ≡ arrive_if t none
        go true = refl
        go false = refl
    ballot-of (some v) sound t k =
        ap received
        (came (Sent (some v)) (VoteRefused N count p) _ _ (λ z. vote_got N count bus.votes q p ≡ cond z (std.Some v) std.None)
        (λ e f. ap₂ receive_vote e.1 f.1)
        (λ e f. ap₂ receive_vote (back 0 _ e) (back 1 _ f) ∙ ap (λ (x : Bool). cond x (std.Some v) std.None) (vote_self v))
        (λ e f. ap₂ receive_vote (back 0 _ e) f.1) (λ e f. ap₂ receive_vote e.1 (back 1 _ f)) t k)
        ∙ got t
      where
        back : (channel : ℕ) (x : List ℕ) → some (vote_frame p v count channel) ≡ some x → read_vote N p count channel x ≡ std.Ok v
        back channel x e = ap (read_vote N p count channel) (sym (some_inj e)) ∙ vote_back N p v count channel few l counted (sound v refl).0 (sound v refl).1

        got : (t : Bool) → received (cond t (std.Some v) std.None) ≡ arrive_if t (some v)
        got true = refl
        got false = refl

    pub ballot-came : (s : State) (t : Bool) → formed_state quiet p N s ≡ true
        → Came (VoteSent C count bus.heartbeats p s) (VoteRefused N count p) (bus.votes p q 0) (bus.votes p q 1) (sends_vote C count bus.heartbeats p s && t)
        → received (vote_got N count bus.votes q p) ≡ arrive_if t (vote_cast C count bus.heartbeats p s)
    ballot-came s t w k = ballot-of (vote_cast C count bus.heartbeats p s) (cast_formed C count bus.heartbeats p s l w) t k

  pub delivers-carries : (r : Row) → FormedRow C r → Delivers C count bus c r → Carries C count bus c r
  delivers-carries r w d =
      record {
        beats = λ p q lp lq o. (beat-came p q lp (d.drive p lp) (at r p) (heartbeat_reaches c p q) (w p lp) (d.beats p q lp lq o)).0;
        ballots = λ p q lp lq o. ballot-came p q lp (at r p) (vote_reaches c p q) (w p lp) (d.ballots p q lp lq o);
      }

  -- a unit finds exactly the drive bytes of a sender whose heartbeat reaches it, and none where it does not
  pub drives-delivered : (r : Row) → FormedRow C r → (d : Delivers C count bus c r) (p q : ℕ) (l : p < N) → q < N → eqb p q ≡ false
      → drive_got quiet count bus.heartbeats q p ≡ cond (sends_heartbeat (at r p) && heartbeat_reaches c p q) (d.drive p l) []
  drives-delivered r w d p q lp lq o = (beat-came p q lp (d.drive p lp) (at r p) (heartbeat_reaches c p q) (w p lp) (d.beats p q lp lq o)).1

-- ---- the bus that a record makes delivers

module _ (Sent Refused : ℕ → List ℕ → Type 0) (empty : (channel : ℕ) → Refused channel []) where
  made : (x : ℕ → List ℕ) (reach : Bool) → ((channel : ℕ) → Sent channel (x channel)) → Came Sent Refused (copy_if reach (some (x 0))) (copy_if reach (some (x 1))) reach
  made x true e = on_both (e 0) (e 1)
  made x false e = on_none (empty 0) (empty 1)

  made_none : (reach : Bool) → Came Sent Refused (copy_if reach none) (copy_if reach none) false
  made_none true = on_none (empty 0) (empty 1)
  made_none false = on_none (empty 0) (empty 1)

pub empty_heartbeat : (quiet : Bool) (count p channel : ℕ) → HeartbeatRefused quiet count p channel []
empty_heartbeat quiet count p channel = (Length, no_heartbeat quiet p count channel)

pub empty_vote : (N count p channel : ℕ) → VoteRefused N count p channel []
empty_vote N count p channel = (Length, no_vote N p count channel)

driven_delivers : (drive : ℕ → List ℕ) → ((p : ℕ) → wrong_drive (drive p) ≡ false) → (C : Config) (count : ℕ) (c : Faults) (row : Row)
    → Delivers C count (bus_with drive C count c row) c (rule_one C.nodes c row)
unfolding bus_with heartbeats_of votes_of
driven_delivers drive writable C count c row =
    record { drive = λ p l. drive p; beats = λ p q lp lq o. beat p (at r p) (heartbeat_reaches c p q); ballots = λ p q lp lq o. ballot p (vote_cast C count h p (at r p)) (vote_reaches c p q) }
  where
    r : Row
    r = rule_one C.nodes c row

    h : Copies
    h = heartbeats_of drive count c r

    beat : (p : ℕ) (s : State) (t : Bool)
        → Came (HeartbeatSent count p (drive p) s) (HeartbeatRefused C.quiet count p) (copy_if t (heartbeat_sent 0 0 (drive p) count p s 0)) (copy_if t (heartbeat_sent 0 0 (drive p) count p s 1))
        (sends_heartbeat s && t)
    beat p (Out z) t = made_none (HeartbeatSent count p (drive p) (Out z)) (HeartbeatRefused C.quiet count p) (empty_heartbeat C.quiet count p) t
    beat p Joining t =
        made (HeartbeatSent count p (drive p) Joining) (HeartbeatRefused C.quiet count p) (empty_heartbeat C.quiet count p) (λ channel. heartbeat_frame p 1 0 0 0 count channel (drive p)) t
        (λ channel. (0, 0, lit< tt, lit≤ tt, writable p, refl))
    beat p (Member g a) t =
        made (HeartbeatSent count p (drive p) (Member g a)) (HeartbeatRefused C.quiet count p) (empty_heartbeat C.quiet count p) (λ channel. heartbeat_frame p 0 (cond a 1 0) 0 0 count channel (drive p)) t
        (λ channel. (0, 0, lit< tt, lit≤ tt, writable p, refl))

    -- of a unit that casts o
    ballot : (p : ℕ) (o : Option Vote) (t : Bool)
        → Came (λ channel x. vote_framed count p o channel ≡ some x) (VoteRefused C.nodes count p) (copy_if t (vote_framed count p o 0)) (copy_if t (vote_framed count p o 1)) (is_some o && t)
    ballot p none t = made_none (λ channel x. none ≡ some x) (VoteRefused C.nodes count p) (empty_vote C.nodes count p) t
    ballot p (some v) t =
        made (λ channel x. some (vote_frame p v count channel) ≡ some x) (VoteRefused C.nodes count p) (empty_vote C.nodes count p) (vote_frame p v count) t (λ channel. refl)

pub bus_delivers : (C : Config) (count : ℕ) (c : Faults) (row : Row) → Delivers C count (bus_of C count c row) c (rule_one C.nodes c row)
unfolding bus_of
bus_delivers C count c row = driven_delivers (λ p. []) (λ p. none_wrong) C count c row

-- ---- the theorems

pub units_deliver : (C : Config) (count : ℕ) (bus : Bus) (c : Faults) (row : Row) → C.nodes ≤ 64 → count < 64 → FormedRow C row
    → Delivers C count bus c (rule_one C.nodes c row) → units_cycle C count bus c row ≡ cycle C c row
units_deliver C count bus c row few counted w d =
    units_follow C count bus c row (delivers-carries C count few counted bus c (rule_one C.nodes c row) (rule_one_formed C c row w) d)

pub framed_is_plain : (C : Config) (count : ℕ) (c : Faults) (row : Row) → C.nodes ≤ 64 → count < 64 → FormedRow C row → framed_cycle C count c row ≡ cycle C c row
unfolding framed_cycle
framed_is_plain C count c row few counted w = units_deliver C count (bus_of C count c row) c row few counted w (bus_delivers C count c row)
