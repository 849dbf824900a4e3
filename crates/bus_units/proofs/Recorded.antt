-- Every bus on which each copy is as sent or refused carries a fault record: the one that says what came. Assumes nothing.
use mathlib.Core.Path.{◌≡◌, refl, sym, ap, ap₂, ◌∙◌, subst}
use mathlib.Core.Logic.{◌⊎◌, inl, inr}
use mathlib.Core.Bool.{Bool, true, false, not, ◌&&◌, ◌||◌, cond, false≢true}
use mathlib.Core.List.{List, []}
use mathlib.Core.Option.{Option, none, some}
use Prim.Native.Nat.{ℕ, ◌≤◌, ◌<◌}
use lib.Dec.{eqb, ltb, lit<}
use lib.ListN.{get_or}
use Rattle.std.specs.Prelude as std
use Rattle.sets.specs.Sets.{has, single, ◌∖◌, any}
use Rattle.sets.proofs.Booleans.{and_i, or_f_l, or_f_r, eqb-true, ltb-lt, not_f}
use Rattle.sets.proofs.Membership.{has_diff, has-none, has-single, set_ext}
use Rattle.sets.proofs.Nodes.{has-those, those_in, any-i}
use Rattle.state.specs.declared.State.{State}
use Rattle.state.specs.declared.State.TheVariants.{Out, Joining, Member}
use Rattle.state.specs.State.{formed_state}
use Rattle.rules.specs.declared.Faults.{Faults}
use Rattle.rules.specs.declared.Config.{Config}
use Rattle.rules.specs.OneCycle.{stopped}
use Rattle.rules.specs.Faults.{Row, at, tabulate, rule_one, reaches, misses_other, disturbed, arrive_if, cycle}
use Rattle.rules.proofs.Rows.{get-tabulate}
use Rattle.rules.proofs.States.{none-some}
use Rattle.rules.specs.declared.Vote.{Vote}
use Rattle.theorem_formed.proofs.Formed.{FormedRow, rule_one_formed}
use Rattle.frames.specs.declared.Heartbeat.{Heartbeat}
use Rattle.bus_units.specs.Units.{Bus, heartbeat_got, drive_got, vote_cast, vote_framed, vote_got, received, units_cycle}
use Rattle.bus_units.specs.Carried.{Came, on_both, on_a, on_b, on_none, HeartbeatSent, sends_heartbeat, is_some, sends_vote, heartbeat_kind, Carries}
use Rattle.bus_units.specs.Recorded.{Sound, lost_of, missed_of, is_heard, beat_heard, vote_taken, ruled_at, record_of, Served, Untouched}
use Rattle.bus_units.proofs.Follow.{units_follow}
use Rattle.bus_units.proofs.Delivered.{beat-came, ballot-came}

abbrev left : {A B : Type 0} → A ⊎ B → Bool
left (inl a) = true
left (inr b) = false

-- what came of one frame
of_copies : {Sent Refused : ℕ → List ℕ → Type 0} {a b : List ℕ} (x : Sent 0 a ⊎ Refused 0 a) (y : Sent 1 b ⊎ Refused 1 b) → Came Sent Refused a b (left x || left y)
of_copies (inl x) (inl y) = on_both x y
of_copies (inl x) (inr y) = on_a x y
of_copies (inr x) (inl y) = on_b x y
of_copies (inr x) (inr y) = on_none x y

-- only who sends is heard
if_sent : {Sent Refused : ℕ → List ℕ → Type 0} {a b : List ℕ} (speaks t : Bool) → ((channel : ℕ) (z : List ℕ) → Sent channel z → speaks ≡ true)
    → Came Sent Refused a b t → Came Sent Refused a b (speaks && t)
if_sent {Sent} {Refused} {a} {b} speaks true s (on_both x y) = subst (Came Sent Refused a b) (sym (and_i speaks true (s 0 a x) refl)) (on_both x y)
if_sent {Sent} {Refused} {a} {b} speaks true s (on_a x y) = subst (Came Sent Refused a b) (sym (and_i speaks true (s 0 a x) refl)) (on_a x y)
if_sent {Sent} {Refused} {a} {b} speaks true s (on_b x y) = subst (Came Sent Refused a b) (sym (and_i speaks true (s 1 b y) refl)) (on_b x y)
if_sent {Sent} {Refused} {a} {b} speaks false s (on_none x y) = subst (Came Sent Refused a b) (sym (no speaks)) (on_none x y)
  where
    no : (x : Bool) → (x && false) ≡ false
    no true = refl
    no false = refl

beat_speaks : (count p : ℕ) (drive : List ℕ) (channel : ℕ) (z : List ℕ) (s : State) → HeartbeatSent count p drive s channel z → sends_heartbeat s ≡ true
beat_speaks count p drive channel z (Out r) k = absurd (none-some k.5)
beat_speaks count p drive channel z Joining k = refl
beat_speaks count p drive channel z (Member g a) k = refl

vote_speaks : (count p channel : ℕ) (z : List ℕ) (o : Option Vote) → vote_framed count p o channel ≡ some z → is_some o ≡ true
vote_speaks count p channel z none k = absurd (none-some k)
vote_speaks count p channel z (some v) k = refl

-- ---- the marks of one phase

module _ (N : ℕ) (sent : ℕ → Bool) (got : ℕ → ℕ → Bool) where
  -- whether the frame of p came to another unit
  abbrev came_to : ℕ → Bool
  came_to p = any N (λ x. not (eqb p x) && got x p)

  lost-at : (p : ℕ) → p < N → has p (lost_of N sent got) ≡ (sent p && not (came_to p))
  unfolding lost_of
  lost-at p l = those_in p N (λ x. sent x && not (came_to x)) l

  missed-at : (p q : ℕ) → p < N → has p (missed_of N sent got q) ≡ (not (eqb p q) && sent p && not (got q p) && not (sent p && not (came_to p)))
  unfolding missed_of
  missed-at p q l =
      those_in p N (λ x. not (eqb x q) && sent x && not (got q x) && not (has x (lost_of N sent got))) l
      ∙ ap (λ (b : Bool). not (eqb p q) && sent p && not (got q p) && not b) (lost-at p l)

  -- a frame reaches another unit by these marks unless it was sent and the unit made nothing of it
  reaches-by : (p q : ℕ) → p < N → q < N → eqb p q ≡ false → reaches (lost_of N sent got) (get_or (tabulate N (missed_of N sent got)) q 0) p ≡ not (sent p && not (got q p))
  unfolding reaches
  reaches-by p q lp lq o =
      ap₂ (λ (a b : Bool). not a && not b) (lost-at p lp) (ap (has p) (get-tabulate N q (missed_of N sent got) 0 lq) ∙ missed-at p q lp)
      ∙ ap (λ (e : Bool). not (sent p && not (came_to p)) && not (not e && sent p && not (got q p) && not (sent p && not (came_to p)))) o
      ∙ go (sent p) (got q p) (came_to p) (λ g. any-i N q (λ x. not (eqb p x) && got x p) lq (ap₂ (λ (a b : Bool). not a && b) o g))
    where
      go : (s g a : Bool) → (g ≡ true → a ≡ true) → (not (s && not a) && not (true && s && not g && not (s && not a))) ≡ not (s && not g)
      go false g a h = refl
      go true true true h = refl
      go true true false h = absurd (false≢true (h refl))
      go true false true h = refl
      go true false false h = refl

  -- a unit that is untouched in this phase has no mark
  module _ (q : ℕ) (l : q < N) (calm : Served N sent got q) where
    not-lost : has q (lost_of N sent got) ≡ false
    not-lost = lost-at q l ∙ go (sent q) (came_to q) calm.heard
      where
        go : (s a : Bool) → (s ≡ true → a ≡ true) → (s && not a) ≡ false
        go true a h = ap not (h refl)
        go false a h = refl

    none_missed : misses_other q (get_or (tabulate N (missed_of N sent got)) q 0) ≡ false
    unfolding missed_of
    none_missed =
        ap (λ (m : ℕ). not (eqb m 0)) (ap (λ (m : ℕ). m ∖ single q) (get-tabulate N q (missed_of N sent got) 0 l) ∙ set_ext (λ x. has_diff x (missed_of N sent got q) (single q) ∙ ap (λ (b : Bool). b && not (has x (single q))) (clear x) ∙ sym (has-none x)))
      where
        nothing : (e s g a : Bool) → (e ≡ false → s ≡ true → a ≡ true → g ≡ true) → (not e && s && not g && not (s && not a)) ≡ false
        nothing true s g a h = refl
        nothing false false g a h = refl
        nothing false true true a h = refl
        nothing false true false true h = absurd (false≢true (h refl refl refl))
        nothing false true false false h = refl

        clear : (x : ℕ) → has x (missed_of N sent got q) ≡ false
        clear x = go (ltb x N) refl
          where
            go : (low : Bool) → ltb x N ≡ low → has x (missed_of N sent got q) ≡ false
            go true e = missed-at x q (ltb-lt e) ∙ nothing (eqb x q) (sent x) (got q x) (came_to x) (λ o s a. calm.hears x (ltb-lt e) o s a)
            go false e = has-those x N (λ y. not (eqb y q) && sent y && not (got q y) && not (has y (lost_of N sent got))) ∙ ap (λ (b : Bool). b && (not (eqb x q) && sent x && not (got q x) && not (has x (lost_of N sent got)))) e

-- ---- a sound bus carries the record of what came

module _ (C : Config) (count : ℕ) (few : C.nodes ≤ 64) (counted : count < 64) (bus : Bus) (stop start : ℕ) (row : Row) (formed : FormedRow C row) where
  abbrev N : ℕ
  N = C.nodes

  abbrev quiet : Bool
  quiet = C.quiet

  abbrev c : Faults
  c = record_of C count bus stop start row

  abbrev r : Row
  r = rule_one N c row

  now-is : (p : ℕ) → p < N → at r p ≡ ruled_at stop start row p
  unfolding record_of rule_one
  now-is p l = get-tabulate N p (ruled_at stop start row) stopped l

  -- what unit p casts
  abbrev cast : ℕ → Option Vote
  cast p = vote_cast C count bus.heartbeats p (at r p)

  formed-at : (p : ℕ) → p < N → formed_state quiet p N (at r p) ≡ true
  formed-at p l = rule_one_formed C c row formed p l

  pub bus-recorded : Sound C count bus r → Carries C count bus c r
  unfolding record_of
  bus-recorded sound =
      record {
        beats = λ p q lp lq o.
            let x = sound.beats p q 0 lp lq o (lit< tt) in
            let y = sound.beats p q 1 lp lq o (lit< tt) in
            let k = if_sent (sends_heartbeat (at r p)) (left x || left y) (λ channel z h. beat_speaks count p (sound.drive p lp) channel z (at r p) h) (of_copies x y) in
            heard (left x || left y) (at r p) (heartbeat_got quiet count bus.heartbeats q p) (beat-came C count few counted bus c p q lp (sound.drive p lp) (at r p) (left x || left y) (formed-at p lp) k).0
            ∙ ap (λ (b : Bool). cond b (heartbeat_kind (at r p)) std.None) (sym (reaches-by N (λ x. sends_heartbeat (ruled_at stop start row x)) (beat_heard quiet count bus) p q lp lq o
            ∙ ap (λ (s : State). not (sends_heartbeat s && not (beat_heard quiet count bus q p))) (sym (now-is p lp))));
        ballots = λ p q lp lq d.
            let x = sound.ballots p q 0 lp lq d (lit< tt) in
            let y = sound.ballots p q 1 lp lq d (lit< tt) in
            let o = cast p in
            let k = if_sent (is_some o) (left x || left y) (λ channel z h. vote_speaks count p channel z o h) (of_copies x y) in
            arrived (left x || left y) o (received (vote_got N count bus.votes q p)) (ballot-came C count few counted bus c p q lp (at r p) (left x || left y) (formed-at p lp) k)
            ∙ ap (λ (b : Bool). arrive_if b o) (sym (reaches-by N (λ x. sends_vote C count bus.heartbeats x (ruled_at stop start row x)) (vote_taken N count bus) p q lp lq d
            ∙ ap (λ (s : State). not (sends_vote C count bus.heartbeats p s && not (vote_taken N count bus q p))) (sym (now-is p lp))));
      }
    where
      heard : (t : Bool) (s : State) (got : std.Option Heartbeat) → got ≡ cond t (heartbeat_kind s) std.None
          → got ≡ cond (not (sends_heartbeat s && not (is_heard got))) (heartbeat_kind s) std.None
      heard t s got e = subst (λ (x : std.Option Heartbeat). x ≡ cond (not (sends_heartbeat s && not (is_heard x))) (heartbeat_kind s) std.None) (sym e) (go t s)
        where
          go : (t : Bool) (s : State) → cond t (heartbeat_kind s) std.None ≡ cond (not (sends_heartbeat s && not (is_heard (cond t (heartbeat_kind s) std.None)))) (heartbeat_kind s) std.None
          go true (Out z) = refl
          go true Joining = refl
          go true (Member g true) = refl
          go true (Member g false) = refl
          go false (Out z) = refl
          go false Joining = refl
          go false (Member g a) = refl

      arrived : (t : Bool) (o got : Option Vote) → got ≡ arrive_if t o → got ≡ arrive_if (not (is_some o && not (is_some got))) o
      arrived t o got e = subst (λ (x : Option Vote). x ≡ arrive_if (not (is_some o && not (is_some x))) o) (sym e) (go t o)
        where
          go : (t : Bool) (o : Option Vote) → arrive_if t o ≡ arrive_if (not (is_some o && not (is_some (arrive_if t o)))) o
          go true none = refl
          go true (some v) = refl
          go false none = refl
          go false (some v) = refl

  -- a unit that hears another finds exactly the drive bytes that the other has, and none of one that it does not hear
  pub drives-recorded : (sound : Sound C count bus r) (p q : ℕ) (l : p < N) → q < N → eqb p q ≡ false
      → drive_got quiet count bus.heartbeats q p ≡ cond (beat_heard quiet count bus q p) (sound.drive p l) []
  drives-recorded sound p q lp lq o =
      let x = sound.beats p q 0 lp lq o (lit< tt) in
      let y = sound.beats p q 1 lp lq o (lit< tt) in
      let k = if_sent (sends_heartbeat (at r p)) (left x || left y) (λ channel z h. beat_speaks count p (sound.drive p lp) channel z (at r p) h) (of_copies x y) in
      let g = beat-came C count few counted bus c p q lp (sound.drive p lp) (at r p) (left x || left y) (formed-at p lp) k in
      g.1 ∙ ap (λ (b : Bool). cond b (sound.drive p lp) []) (sym (ap is_heard g.0 ∙ go (left x || left y) (at r p)))
    where
      go : (t : Bool) (s : State) → is_heard (cond t (heartbeat_kind s) std.None) ≡ (sends_heartbeat s && t)
      go true (Out z) = refl
      go true Joining = refl
      go true (Member g true) = refl
      go true (Member g false) = refl
      go false (Out z) = refl
      go false Joining = refl
      go false (Member g a) = refl

-- so that on every such bus the units' cycle is the rules' cycle under that record
pub units_recorded : (C : Config) (count : ℕ) (bus : Bus) (stop start : ℕ) (row : Row) → C.nodes ≤ 64 → count < 64 → FormedRow C row
    → Sound C count bus (rule_one C.nodes (record_of C count bus stop start row) row)
    → units_cycle C count bus (record_of C count bus stop start row) row ≡ cycle C (record_of C count bus stop start row) row
units_recorded C count bus stop start row few counted formed sound =
    units_follow C count bus (record_of C count bus stop start row) row (bus-recorded C count few counted bus stop start row formed sound)

-- ---- whom the record leaves untouched: who is not stopped and is served in both phases, and nobody else

module _ (N : ℕ) (sent : ℕ → Bool) (got : ℕ → ℕ → Bool) (q : ℕ) (l : q < N) where
  served-by : has q (lost_of N sent got) ≡ false → misses_other q (get_or (tabulate N (missed_of N sent got)) q 0) ≡ false → Served N sent got q
  served-by a b =
      record {
        heard = λ s. go (sent q) (came_to N sent got q) s (sym (lost-at N sent got q l) ∙ a);
        hears = λ p lp o s c. other (eqb p q) (sent p) (got q p) (came_to N sent got p) o s c (sym (missed-at N sent got p q lp) ∙ clear p o);
      }
    where
      go : (s a : Bool) → s ≡ true → (s && not a) ≡ false → a ≡ true
      go true true h k = refl
      go true false h k = absurd (false≢true (sym k))
      go false a h k = absurd (false≢true h)

      other : (e s g a : Bool) → e ≡ false → s ≡ true → a ≡ true → (not e && s && not g && not (s && not a)) ≡ false → g ≡ true
      other e s true a o h c k = refl
      other true s false a o h c k = absurd (false≢true (sym o))
      other false false false a o h c k = absurd (false≢true h)
      other false true false false o h c k = absurd (false≢true c)
      other false true false true o h c k = absurd (false≢true (sym k))

      clear : (p : ℕ) → eqb p q ≡ false → has p (missed_of N sent got q) ≡ false
      clear p o =
          let m = missed_of N sent got q in
          let z : (m ∖ single q) ≡ 0 = ap (λ (x : ℕ). x ∖ single q) (sym (get-tabulate N q (missed_of N sent got) 0 l)) ∙ eqb-true (not_f (eqb (get_or (tabulate N (missed_of N sent got)) q 0 ∖ single q) 0) b) in
          keep (has p m) (sym (ap (λ (x : Bool). has p m && not x) (has-single p q ∙ o)) ∙ sym (has_diff p m (single q)) ∙ ap (has p) z ∙ has-none p)
        where
          keep : (x : Bool) → (x && not false) ≡ false → x ≡ false
          keep true k = k
          keep false k = refl

module _ (C : Config) (count : ℕ) (bus : Bus) (stop start : ℕ) (row : Row) (q : ℕ) (l : q < C.nodes) where
  abbrev nodes : ℕ
  nodes = C.nodes

  abbrev hears : ℕ → ℕ → Bool
  hears = beat_heard C.quiet count bus

  abbrev takes : ℕ → ℕ → Bool
  takes = vote_taken C.nodes count bus

  abbrev sent : ℕ → Bool
  sent p = sends_heartbeat (ruled_at stop start row p)

  abbrev voted : ℕ → Bool
  voted p = sends_vote C count bus.heartbeats p (ruled_at stop start row p)

  pub recorded-untouched : Untouched C count bus stop start row q → disturbed (record_of C count bus stop start row) q ≡ false
  unfolding record_of disturbed
  recorded-untouched calm =
      rw (
        calm.runs,
        not-lost nodes sent hears q l calm.beats,
        not-lost nodes voted takes q l calm.votes,
        none_missed nodes sent hears q l calm.beats,
        none_missed nodes voted takes q l calm.votes,
      )

  pub untouched-recorded : disturbed (record_of C count bus stop start row) q ≡ false → Untouched C count bus stop start row q
  unfolding record_of disturbed
  untouched-recorded e =
      let a = has q stop in
      let b = has q (lost_of nodes sent hears) in
      let c = has q (lost_of nodes voted takes) in
      let d = misses_other q (get_or (tabulate nodes (missed_of nodes sent hears)) q 0) in
      let f = misses_other q (get_or (tabulate nodes (missed_of nodes voted takes)) q 0) in
      let abcd = or_f_l (a || b || c || d) f e in
      let abc = or_f_l (a || b || c) d abcd in
      let ab = or_f_l (a || b) c abc in
      record {
        runs = or_f_l a b ab;
        beats = served-by nodes sent hears q l (or_f_r a b ab) (or_f_r (a || b || c) d abcd);
        votes = served-by nodes voted takes q l (or_f_r (a || b) c abc) (or_f_r (a || b || c || d) f e);
      }
