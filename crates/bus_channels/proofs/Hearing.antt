-- Heartbeats run through frames: what a unit reads is who sent, as far as it reaches it. Assumes nothing.
use mathlib.Core.Path.{◌≡◌, refl, sym, ap, ap₂, ◌∙◌}
use mathlib.Core.Bool.{Bool, true, false, not, ◌&&◌, ◌||◌, cond, false≢true, true≢false}
use mathlib.Core.List.{List, []}
use mathlib.Core.Option.{none, some}
use Prim.Native.Nat.{ℕ, ◌*◌, ◌≤◌, ◌<◌}
use native.Mathlib.Omega.{arith}
use lib.Dec.{lit<, lit≤, ltb}
use lib.ListN.{length, take, drop, get_or}
use Rattle.std.specs.Prelude as std
use Rattle.sets.specs.Sets.{has, single, ◌∪◌, ◌∩◌, ◌∖◌, those, below}
use Rattle.sets.proofs.Booleans.{ltb-true, ltb-lt}
use Rattle.sets.proofs.Membership.{has_union, has_inter, has_diff, set_ext}
use Rattle.sets.proofs.Nodes.{has-below, has-those, those_in, those_ext}
use Rattle.rules.specs.declared.Config.{Config}
use Rattle.rules.specs.OneCycle.{view_of, called, will_vote}
use Rattle.rules.proofs.States.{none-some, some_inj}
use Rattle.frames.specs.declared.Heartbeat.{Heartbeat}
use Rattle.frames.specs.declared.Heartbeat.TheVariants.{Alive, Join, Request}
use Rattle.frames.specs.Written.{wrong_request, heartbeat_frame}
use Rattle.frames.specs.Read.{read_heartbeat, is_good, receive_heartbeat, heard_in}
use Rattle.frames.proofs.Faults.{no_heartbeat}
use Rattle.frames.proofs.Lengths.{length_heartbeat}
use Rattle.frames.proofs.Payloads.{none_wrong}
use Rattle.frames.proofs.RoundTrip.{unasked}
use Rattle.frames.proofs.TwoChannels.{neither-good, heard_with, SentOn, sent-payload, sent-on-a}
use Rattle.cluster_states.specs.declared.Roles.{Roles}
use Rattle.cluster_states.specs.Decided.{view_at, votes_at, voting_of}
use Rattle.bus_units.specs.Units.{is_alive, is_join, is_request}
use Rattle.bus_channels.specs.Channels.{channel_of, heartbeat_put, copy_of, heartbeat_read, heard_read, view_read, votes_read, voting_read}
use Rattle.bus_channels.proofs.Carried.{Carries, carries}

-- a view counts of what is heard the nodes below n alone
below_ext : (n h k : ℕ) → ((x : ℕ) → x < n → has x h ≡ has x k) → below n h ≡ below n k
below_ext n h k e = set_ext (λ x. has-below x n h ∙ go x (ltb x n) refl ∙ sym (has-below x n k))
  where
    go : (x : ℕ) (b : Bool) → ltb x n ≡ b → (b && has x h) ≡ (b && has x k)
    go x true l = e x (ltb-lt l)
    go x false l = refl

view_ext : (n q M h0 h1 k0 k1 : ℕ) → ((x : ℕ) → x < n → has x h0 ≡ has x k0) → ((x : ℕ) → x < n → has x h1 ≡ has x k1) → view_of n q M h0 h1 ≡ view_of n q M k0 k1
unfolding view_of
view_ext n q M h0 h1 k0 k1 e f = ap₂ (λ (x y : ℕ). single q ∪ (M ∩ x) ∪ (y ∖ M)) (below_ext n h0 k0 e) (below_ext n h1 k1 f)

-- what a node in these masks is heard as
abbrev heard_as : (m k : Bool) → std.Option Heartbeat
heard_as m k = std.Some (cond m (cond k Request Alive) Join)

module _ (C : Config) (count : ℕ) (w : Roles) (few : C.nodes ≤ 64) (counted : count < 64)
    (sound : (p : ℕ) → has p w.members ≡ true → (p < C.nodes) × (wrong_request C.quiet 0 (cond (has p w.asking) 1 0) ≡ false)) where
  abbrev n : ℕ
  n = C.nodes

  abbrev quiet : Bool
  quiet = C.quiet

  -- what stands on a channel
  abbrev pub beats : ℕ → List ℕ
  beats channel = channel_of n (heartbeat_put w count channel)

  -- the frames of a channel are heartbeats of ten bytes
  sent_is : (channel p request : ℕ) (m j : Bool) (x : List ℕ)
      → cond m (some (heartbeat_frame p 0 request 0 0 count channel [])) (cond j (some (heartbeat_frame p 1 0 0 0 count channel [])) none) ≡ some x → length x ≡ 10
  sent_is channel p request true j x e = ap (λ (s : List ℕ). length s) (sym (some_inj e)) ∙ length_heartbeat p 0 request 0 0 count channel []
  sent_is channel p request false true x e = ap (λ (s : List ℕ). length s) (sym (some_inj e)) ∙ length_heartbeat p 1 0 0 0 count channel []
  sent_is channel p request false false x e = absurd (none-some e)

  pub carried : (channel : ℕ) → Carries n (heartbeat_put w count channel) (beats channel)
  carried channel = carries (heartbeat_put w count channel) (λ q x e. short q x (sent_is channel q (cond (has q w.asking) 1 0) (has q w.members) (has q w.joining) x e)) n few
    where
      short : (q : ℕ) (x : List ℕ) → length x ≡ 10 → length x ≤ 36
      short q x e = omega arith

  -- the copy of a frame that reaches the unit is the one sent
  copy_is : (channel reach p : ℕ) (x : List ℕ) → p < n → has p reach ≡ true → heartbeat_put w count channel p ≡ some x → length x ≡ 10 → copy_of 10 reach p (beats channel) ≡ x
  copy_is channel reach p x l r e k =
      ap (λ (b : Bool). take (cond b 10 0) (drop (36 * p) (beats channel))) r
      ∙ ap (λ (m : ℕ). take m (drop (36 * p) (beats channel))) (sym k) ∙ (carried channel).there p x l e

  -- both copies, by what their node sends and whether it reaches the unit
  both-copies : (reach p : ℕ) → p < n → (has p reach ≡ true → (has p w.members || has p w.joining) ≡ true)
      → heartbeat_read quiet count reach (beats 0) (beats 1) p ≡ cond (has p reach) (heard_as (has p w.members) (has p w.asking)) std.None
  unfolding heartbeat_read
  both-copies reach p l within = go (has p reach) (has p w.members) (has p w.joining) refl refl refl within
    where
      copy : ℕ → List ℕ
      copy channel = copy_of 10 reach p (beats channel)

      small : p < 64
      small = omega arith

      absent : (channel : ℕ) → has p reach ≡ false → is_good (read_heartbeat quiet p count channel (copy channel)) ≡ false
      absent channel e =
          ap (λ (b : Bool). is_good (read_heartbeat quiet p count channel (take (cond b 10 0) (drop (36 * p) (beats channel))))) e
          ∙ ap is_good (no_heartbeat quiet p count channel)

      heard-as : (join request : ℕ) → join < 2 → request < 2 → wrong_request quiet join request ≡ false → has p reach ≡ true
          → ((channel : ℕ) → heartbeat_put w count channel p ≡ some (heartbeat_frame p join request 0 0 count channel []))
          → heard_in (receive_heartbeat quiet p count (copy 0) (copy 1)) ≡ heard_with join request
      heard-as join request lj lr allowed r e =
          (sent-on-a quiet p join request count [] small lj lr allowed counted none_wrong (copy 0) (copy 1) (sent 0)
          (λ g. sent-payload p join request count [] 0 (copy 0) (sent 0) ∙ sym (sent-payload p join request count [] 1 (copy 1) (sent 1)))
          ).0
        where
          sent : (channel : ℕ) → SentOn p join request count [] channel (copy channel)
          sent channel = (
            0,
            0,
            lit< tt,
            lit≤ tt,
            copy_is channel reach p (heartbeat_frame p join request 0 0 count channel []) l r (e channel) (length_heartbeat p join request 0 0 count channel []),
          )

      member : (k : Bool) → has p w.asking ≡ k → has p w.members ≡ true → has p reach ≡ true → heard_in (receive_heartbeat quiet p count (copy 0) (copy 1)) ≡ std.Some (cond k Request Alive)
      member true ek em er = heard-as 0 1 (lit< tt) (lit< tt) (ap (λ (b : Bool). wrong_request quiet 0 (cond b 1 0)) (sym ek) ∙ (sound p em).1) er (λ channel. rw (em, ek))
      member false ek em er = heard-as 0 0 (lit< tt) (lit< tt) (ap (λ (b : Bool). wrong_request quiet 0 (cond b 1 0)) (sym ek) ∙ (sound p em).1) er (λ channel. rw (em, ek))

      go : (r m j : Bool) → has p reach ≡ r → has p w.members ≡ m → has p w.joining ≡ j → (r ≡ true → (m || j) ≡ true)
          → heard_in (receive_heartbeat quiet p count (copy 0) (copy 1)) ≡ cond r (heard_as m (has p w.asking)) std.None
      go false m j er em ej k = ap heard_in (neither-good quiet p count (copy 0) (copy 1) (absent 0 er) (absent 1 er)).0
      go true true j er em ej k = member (has p w.asking) refl em er
      go true false true er em ej k = heard-as 1 0 (lit< tt) (lit< tt) (unasked quiet 1) er (λ channel. rw (em, ej))
      go true false false er em ej k = absurd (false≢true (k refl))

  module _ (apart : (p : ℕ) → has p w.joining ≡ true → has p w.members ≡ false) (lost : ℕ) where
    abbrev reached : ℕ → ℕ
    reached missed = (w.members ∪ w.joining) ∖ lost ∖ missed

    two : (m missed x : ℕ) → has x (m ∖ lost ∖ missed) ≡ ((has x m && not (has x lost)) && not (has x missed))
    two m missed x = has_diff x (m ∖ lost) missed ∙ ap (λ (b : Bool). b && not (has x missed)) (has_diff x m lost)

    reached-is : (missed x : ℕ) → has x (reached missed) ≡ (((has x w.members || has x w.joining) && not (has x lost)) && not (has x missed))
    reached-is missed x = two (w.members ∪ w.joining) missed x ∙ ap (λ (b : Bool). (b && not (has x lost)) && not (has x missed)) (has_union x w.members w.joining)

    -- what is heard of a kind
    abbrev heard_of : (std.Option Heartbeat → Bool) → ℕ → ℕ
    heard_of kind missed = heard_read C count (reached missed) (beats 0) (beats 1) kind

    heard : (kind : std.Option Heartbeat → Bool) (missed x : ℕ) → x < n
        → has x (heard_of kind missed)
        ≡ kind (cond (((has x w.members || has x w.joining) && not (has x lost)) && not (has x missed)) (heard_as (has x w.members) (has x w.asking)) std.None)
    unfolding heard_read
    heard kind missed x l =
        those_in x n (λ p. kind (heartbeat_read quiet count (reached missed) (beats 0) (beats 1) p)) l
        ∙ ap kind (both-copies (reached missed) x l (λ e. sender (has x w.members || has x w.joining) (not (has x lost)) (not (has x missed)) (sym (reached-is missed x) ∙ e))
        ∙ ap (λ (b : Bool). cond b (heard_as (has x w.members) (has x w.asking)) std.None) (reached-is missed x))
      where
        sender : (a b c : Bool) → ((a && b) && c) ≡ true → a ≡ true
        sender true b c e = refl
        sender false b c e = e

    alive-is : (missed x : ℕ) → x < n → has x (heard_of is_alive missed) ≡ has x (w.members ∖ lost ∖ missed)
    alive-is missed x l =
        heard is_alive missed x l ∙ go (has x w.members) (has x w.joining) (has x w.asking) (has x lost) (has x missed) ∙ sym (two w.members missed x)
      where
        go : (m j k u v : Bool) → is_alive (cond (((m || j) && not u) && not v) (heard_as m k) std.None) ≡ ((m && not u) && not v)
        go true j k true v = refl
        go true j k false true = refl
        go true j true false false = refl
        go true j false false false = refl
        go false true k true v = refl
        go false true k false true = refl
        go false true k false false = refl
        go false false k u v = refl

    join_is : (missed x : ℕ) → x < n → has x (heard_of is_join missed) ≡ has x (w.joining ∖ lost ∖ missed)
    join_is missed x l =
        heard is_join missed x l ∙ go (has x w.members) (has x w.joining) (has x w.asking) (has x lost) (has x missed) (apart x) ∙ sym (two w.joining missed x)
      where
        go : (m j k u v : Bool) → (j ≡ true → m ≡ false) → is_join (cond (((m || j) && not u) && not v) (heard_as m k) std.None) ≡ ((j && not u) && not v)
        go true true k u v h = absurd (true≢false (h refl))
        go true false k true v h = refl
        go true false k false true h = refl
        go true false true false false h = refl
        go true false false false false h = refl
        go false true k true v h = refl
        go false true k false true h = refl
        go false true k false false h = refl
        go false false k u v h = refl

    request-is : (missed : ℕ) → heard_of is_request missed ≡ (w.members ∩ w.asking) ∖ lost ∖ missed
    unfolding heard_read
    request-is missed = set_ext (λ x. each x (ltb x n) refl)
      where
        R : ℕ → Bool
        R p = is_request (heartbeat_read quiet count (reached missed) (beats 0) (beats 1) p)

        go : (m j k u v : Bool) → is_request (cond (((m || j) && not u) && not v) (heard_as m k) std.None) ≡ (((m && k) && not u) && not v)
        go true j true true v = refl
        go true j true false true = refl
        go true j true false false = refl
        go true j false true v = refl
        go true j false false true = refl
        go true j false false false = refl
        go false true k true v = refl
        go false true k false true = refl
        go false true k false false = refl
        go false false k u v = refl

        mask : (x : ℕ) → has x ((w.members ∩ w.asking) ∖ lost ∖ missed) ≡ (((has x w.members && has x w.asking) && not (has x lost)) && not (has x missed))
        mask x = two (w.members ∩ w.asking) missed x ∙ ap (λ (b : Bool). (b && not (has x lost)) && not (has x missed)) (has_inter x w.members w.asking)

        -- nobody past the last node is a member
        past : (x : ℕ) → ltb x n ≡ false → (m : Bool) → has x w.members ≡ m → m ≡ false
        past x h true e = absurd (true≢false (sym (ltb-true (sound x e).0) ∙ h))
        past x h false e = refl

        each : (x : ℕ) (low : Bool) → ltb x n ≡ low → has x (those n R) ≡ has x ((w.members ∩ w.asking) ∖ lost ∖ missed)
        each x true h = heard is_request missed x (ltb-lt h) ∙ go (has x w.members) (has x w.joining) (has x w.asking) (has x lost) (has x missed) ∙ sym (mask x)
        each x false h =
            has-those x n R ∙ ap (λ (b : Bool). b && R x) h
            ∙ sym (mask x ∙ ap (λ (b : Bool). ((b && has x w.asking) && not (has x lost)) && not (has x missed)) (past x h (has x w.members) refl))

    -- the view by what is read is the view by who sent
    view-read : (q set missed : ℕ)
        → view_read C count (reached missed) (beats 0) (beats 1) set q ≡ view_of n q set (w.members ∖ lost ∖ missed) (w.joining ∖ lost ∖ missed)
    unfolding view_read
    view-read q set missed =
        view_ext n q set (heard_of is_alive missed) (heard_of is_join missed) (w.members ∖ lost ∖ missed) (w.joining ∖ lost ∖ missed) (alive-is missed) (join_is missed)

    -- the same from the values that the code has on its way: the channels a and b, and the nodes whose heartbeats go out
    module _ (a b sets missed : List ℕ) (u sent : ℕ) (ea : a ≡ beats 0) (eb : b ≡ beats 1) (eu : u ≡ w.members ∪ w.joining) (es : sent ≡ u ∖ lost) where
      -- a value of what is read, of what was sent
      by-sent {ℓ} : {A : Type ℓ} (f : ℕ → List ℕ → List ℕ → A) (q : ℕ) → f (sent ∖ get_or missed q 0) a b ≡ f (reached (get_or missed q 0)) (beats 0) (beats 1)
      by-sent f q = ap₂ (f (sent ∖ get_or missed q 0)) ea eb ∙ ap (λ (x : ℕ). f (x ∖ get_or missed q 0) (beats 0) (beats 1)) (es ∙ ap (λ (x : ℕ). x ∖ lost) eu)

      view-sent : (q : ℕ) → view_read C count (sent ∖ get_or missed q 0) a b (get_or sets q 0) q ≡ view_at n sets (w.members ∖ lost) (w.joining ∖ lost) missed q
      view-sent q = by-sent (λ x y z. view_read C count x y z (get_or sets q 0) q) q ∙ view-read q (get_or sets q 0) (get_or missed q 0)

      pub views-read : (views : List ℕ) → ((q : ℕ) → q < n → get_or views q 0 ≡ view_read C count (sent ∖ get_or missed q 0) a b (get_or sets q 0) q)
          → (q : ℕ) → q < n → get_or views q 0 ≡ view_at n sets (w.members ∖ lost) (w.joining ∖ lost) missed q
      views-read views seen q h = seen q h ∙ view-sent q

      -- who votes by what is read is who votes by who sent
      pub voting-read : (views : List ℕ) (voting : ℕ) → ((q : ℕ) → q < n → get_or views q 0 ≡ view_read C count (sent ∖ get_or missed q 0) a b (get_or sets q 0) q)
          → voting ≡ voting_read C count w sent missed sets a b → voting ≡ voting_of C sets views w ((w.members ∩ w.asking) ∖ lost) missed
      unfolding votes_read voting_read voting_of
      voting-read views voting seen e =
          e ∙ those_ext n (λ q. has q w.members && votes_read C count (sent ∖ get_or missed q 0) a b (get_or sets q 0) (has q w.asking) q)
          (λ q. has q w.members && votes_at C sets views w.asking ((w.members ∩ w.asking) ∖ lost) missed q) (λ q h. ap (λ (x : Bool). has q w.members && x) (votes q h))
        where
          votes : (q : ℕ) → q < n → votes_read C count (sent ∖ get_or missed q 0) a b (get_or sets q 0) (has q w.asking) q ≡ votes_at C sets views w.asking ((w.members ∩ w.asking) ∖ lost) missed q
          votes q h =
              ap₂ (λ (v x : ℕ). will_vote C (get_or sets q 0) v (called (get_or sets q 0) (has q w.asking) x)) (sym (seen q h))
              (by-sent (λ x y z. heard_read C count x y z is_request) q ∙ request-is (get_or missed q 0))
