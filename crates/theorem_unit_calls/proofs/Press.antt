-- All units of a press over cycles: their images are those that the rules give. Assumes nothing.
use mathlib.Core.Path.{◌≡◌, refl, sym, ap, ap₂, ◌∙◌, subst}
use mathlib.Core.Logic.{◌⊎◌, inl, inr}
use mathlib.Core.Bool.{Bool, true, false, not, ◌&&◌, cond}
use mathlib.Core.List.{List, [], ◌∷◌}
use mathlib.Core.Option.{some}
use Prim.Native.Nat.{ℕ, ◌^◌, ◌≤◌, ◌<◌}
use native.Mathlib.Omega.{arith}
use lib.Dec.{eqb, leb, ltb, lit<}
use lib.ListN.{get_or}
use borrow.Author.Tests.{le-leb}
use Rattle.std.specs.Prelude as std
use Rattle.sets.specs.Sets.{has, below}
use Rattle.sets.proofs.Booleans.{and_i, eqb-true, ltb-true, not_f, or_f_r}
use Rattle.refusal.proofs.Laws.{none as passed}
use Rattle.state.specs.declared.Reason.{Reason}
use Rattle.state.specs.declared.State.{State}
use Rattle.state.specs.declared.State.TheVariants.{Out, Joining, Member}
use Rattle.state.specs.Image.{image_of}
use Rattle.state.specs.State.{formed_place, initial}
use Rattle.rules.specs.declared.Vote.{Vote}
use Rattle.rules.specs.declared.Faults.{Faults}
use Rattle.rules.specs.declared.Config.{Config}
use Rattle.rules.specs.OneCycle.{quiet_in, in_mode, stopped, stop_if, start_if, stop_and_start}
use Rattle.rules.specs.Faults.{Row, at, founding, rule_one, heartbeat_reaches, vote_reaches, arrive_if, cycle}
use Rattle.rules.specs.Reference.{Cluster, beginning, step, after}
use Rattle.rules.proofs.Rows.{get-tabulate}
use Rattle.rules.proofs.States.{none-some}
use Rattle.theorem_agreement.proofs.Histories.{demand3}
use Rattle.theorem_formed.proofs.Formed.{FormedRow, rule_one_formed, founding-formed, cycle-formed}
use Rattle.bus_units.specs.Units.{Bus, drive_got, vote_cast, vote_got, received, unit_decides, units_cycle}
use Rattle.bus_units.specs.Carried.{Came, on_both, on_a, on_b, on_none, HeartbeatSent, HeartbeatRefused, VoteSent, VoteRefused, sends_heartbeat, sends_vote, Carries, Delivers}
use Rattle.bus_units.specs.Recorded.{Sound, beat_heard, record_of}
use Rattle.bus_units.proofs.Follow.{units_follow}
use Rattle.bus_units.proofs.Delivered.{cast_formed, delivers-carries}
use Rattle.bus_units.proofs.Recorded.{bus-recorded, drives-recorded}
use Rattle.entry_lent.specs.Refusals.{wrong_count, wrong_node, wrong_length, wrong_founding}
use Rattle.entry_lent.proofs.Bounds.{count_bounds}
use Rattle.entry_begin.specs.Begin.{begin_status}
use Rattle.theorem_unit_calls.specs.Entries.{Frame, Entries, Within, by_definition}
use Rattle.theorem_unit_calls.specs.Cycle.{Part, calls, rests, leaves, Parts, no_frames, beats_written, votes_written, drive_in, Wrote, sends, CycleDone, Pressed, none as no-cycle, next, SoundDone, SoundPressed}
use Rattle.theorem_unit_calls.specs.Promise.{Begins, UnitsPromised, OverUnits, OverAnyBus}
use Rattle.theorem_unit_calls.proofs.Calls.{image_in, begin_gives}
use Rattle.theorem_unit_calls.proofs.Alone.{As, stop-call, unit-beats, unit-votes, unit-alone}

-- ---- the beginning

record Bounds (n F : ℕ) : Type 0 where
  two : 2 ≤ n
  few : n ≤ 64
  founders : below n F ≡ F

bounds : (E : Entries) → Within E by_definition → (n F q : ℕ) (x : List ℕ) → E.begin n q F x → Bounds n F
unfolding begin_status wrong_founding
bounds E told n F q x k =
    let t = (told.begin n q F x k).lower in
    let a = passed (wrong_count n) 1 _ refl (sym t.1) in
    let b = passed (wrong_node n q) 2 _ refl a.1 in
    let c = passed (wrong_length 24 t.0) 3 _ refl b.1 in
    let d = passed (wrong_founding n F) 13 _ refl c.1 in
    let m = count_bounds n a.0 in
    record { two = m.0; few = m.1; founders = eqb-true (not_f (eqb (below n F) F) (or_f_r (eqb F 0) (not (eqb (below n F) F)) d.0)) }

pub placed : (n q : ℕ) → 2 ≤ n → n ≤ 64 → q < n → formed_place q n ≡ true
unfolding formed_place
placed n q a b l = and_i (leb 2 n && leb n 64) (ltb q n) (and_i (leb 2 n) (leb n 64) (le-leb 2 n a) (le-leb n 64 b)) (ltb-true l)

-- ---- one cycle

-- a unit's state after rule 1
pub ruled : (n : ℕ) (c : Faults) (row : Row) (q : ℕ) → q < n → stop_and_start (has q c.stop) (has q c.start) (at row q) ≡ at (rule_one n c row) q
unfolding rule_one
ruled n c row q l = sym (get-tabulate n q (λ y. stop_and_start (has y c.stop) (has y c.start) (at row y)) stopped l)

units_entry : (C : Config) (count : ℕ) (bus : Bus) (c : Faults) (row : Row) (q : ℕ) → q < C.nodes
    → unit_decides C count bus q (at (rule_one C.nodes c row) q) ≡ at (units_cycle C count bus c row) q
unfolding units_cycle
units_entry C count bus c row q l = sym (get-tabulate C.nodes q (λ y. unit_decides C count bus y (at (rule_one C.nodes c row) y)) stopped l)

-- what came of frames as written came of frames as sent, of a phase in which a unit in state s sends
came_as : (Sent : State → ℕ → List ℕ → Type 0) (speaks : State → Bool) (frames : ℕ → Frame) (s : State) (Refused : ℕ → List ℕ → Type 0) (a b : List ℕ) (t : Bool)
    → As Sent speaks frames s → Came (Wrote frames) Refused a b (sends frames && t) → Came (Sent s) Refused a b (speaks s && t)
came_as Sent speaks frames s Refused a b t u k = subst (λ (v : Bool). Came (Sent s) Refused a b (v && t)) u.1 (go (sends frames && t) k)
  where
    go : (t : Bool) → Came (Wrote frames) Refused a b t → Came (Sent s) Refused a b t
    go true (on_both x y) = on_both (u.0 0 (lit< tt) a x) (u.0 1 (lit< tt) b y)
    go true (on_a x y) = on_a (u.0 0 (lit< tt) a x) y
    go true (on_b x y) = on_b x (u.0 1 (lit< tt) b y)
    go false (on_none x y) = on_none x y

-- the same of one copy
copy_as : {A B D : Type 0} → (A → B) → A ⊎ D → B ⊎ D
copy_as f (inl a) = inl (f a)
copy_as f (inr d) = inr d

-- a unit whose image says that it is out, and that is neither stopped nor started, is out after rule 1
rests_out : (n q : ℕ) (stop start : Bool) (s : State) (x : List ℕ) → x ≡ image_in n q s → get_or x 0 0 ≡ 0 → stop ≡ false → start ≡ false
    → (r : Reason) × (s ≡ Out r) × (stop_and_start stop start s ≡ Out r)
unfolding image_of stop_and_start
rests_out n q stop start (Out r) x e k a b = (r, refl, ap₂ (λ (u v : Bool). start_if v (stop_if u (Out r))) a b)
rests_out n q stop start Joining x e k a b = absurd (let z : 1 ≡ 0 = sym (ap (λ (y : List ℕ). get_or y 0 0) e) ∙ k in omega arith)
rests_out n q stop start (Member g t) x e k a b = absurd (let z : 2 ≡ 0 = sym (ap (λ (y : List ℕ). get_or y 0 0) e) ∙ k in omega arith)

-- one that is out sends nothing
rests_as : (Sent : State → ℕ → List ℕ → Type 0) (speaks : State → Bool) (s : State) → speaks s ≡ false → As Sent speaks no_frames s
rests_as Sent speaks s o = ((λ channel l y k. absurd (let z : 0 ≡ 1 = k.0 in omega arith)), sym o)

module _ (E : Entries) (told : Within E by_definition) (mode n : ℕ) (two : 2 ≤ n) (few : n ≤ 64) where
  abbrev pub C : Config
  C = in_mode mode n

  abbrev pub Holds : (ℕ → List ℕ) → Row → Type 0
  Holds x row = (q : ℕ) → q < n → x q ≡ image_in n q (at row q)

  module _ (count : ℕ) (c : Faults) (bus : Bus) (x z : ℕ → List ℕ) (row : Row) (w : FormedRow C row) (e : Holds x row) where
    abbrev r : Row
    r = rule_one n c row

    abbrev OnePart : ℕ → Type 1
    OnePart p = Part E mode n count c.stop c.start bus p (x p) (z p)

    -- one that makes no calls was out, and is out after rule 1
    out : (p : ℕ) → p < n → get_or (x p) 0 0 ≡ 0 → has p c.stop ≡ false → has p c.start ≡ false → (y : Reason) × (at row p ≡ Out y) × (at r p ≡ Out y)
    out p l k a b =
        let o = rests_out n p (has p c.stop) (has p c.start) (at row p) (x p) (e p l) k a b in
        (o.0, o.1, sym (ruled n c row p l) ∙ o.2)

    -- one that is stopped and not started is out after rule 1
    gone : (p : ℕ) → p < n → has p c.stop ≡ true → has p c.start ≡ false → at r p ≡ stopped
    unfolding stop_and_start
    gone p l a b = sym (ruled n c row p l) ∙ ap₂ (λ (u v : Bool). start_if v (stop_if u (at row p))) a b

    -- what a part sends, and what it leaves, by the state after rule 1
    part-beats : (p : ℕ) → p < n → (u : OnePart p) → As (HeartbeatSent count p (drive_in u)) sends_heartbeat (beats_written u) (at r p)
    part-beats p l (calls d) =
        subst (As (HeartbeatSent count p d.drive) sends_heartbeat d.heartbeat) (ruled n c row p l)
        (unit-beats E told mode n p (placed n p two few l) count c.stop c.start bus (at row p) (x p) (z p) (w p l) (e p l) d)
    part-beats p l (rests k a b o) = rests_as (HeartbeatSent count p []) sends_heartbeat (at r p) (ap sends_heartbeat (out p l k a b).2)
    part-beats p l (leaves a b k) = rests_as (HeartbeatSent count p []) sends_heartbeat (at r p) (ap sends_heartbeat (gone p l a b))

    abbrev VotesAs : ℕ → (ℕ → Frame) → State → Type 0
    VotesAs p = As (VoteSent C count bus.heartbeats p) (sends_vote C count bus.heartbeats p)

    no-votes : (p : ℕ) → sends_vote C count bus.heartbeats p (at r p) ≡ false → VotesAs p no_frames (at r p)
    no-votes p o = rests_as (VoteSent C count bus.heartbeats p) (sends_vote C count bus.heartbeats p) (at r p) o

    part-votes : (p : ℕ) → p < n → (u : OnePart p) → VotesAs p (votes_written u) (at r p)
    part-votes p l (calls d) =
        subst (VotesAs p d.vote) (ruled n c row p l)
        (unit-votes E told mode n p (placed n p two few l) count c.stop c.start bus (at row p) (x p) (z p) (w p l) (e p l) d)
    part-votes p l (rests k a b o) = no-votes p (ap (sends_vote C count bus.heartbeats p) (out p l k a b).2)
    part-votes p l (leaves a b k) = no-votes p (ap (sends_vote C count bus.heartbeats p) (gone p l a b))

    module _ (carries : Carries C count bus c r) where
      -- a vote that arrives is one that was cast, and so its number fits
      small : (q : ℕ) → q < n → (p : ℕ) → p < n → eqb p q ≡ false → (v : Vote) → vote_got n count bus.votes q p ≡ std.Some v → v.group.number < 2 ^ 32
      small q lq p lp o v k = cast (vote_reaches c p q) (sym (carries.ballots p q lp lq o) ∙ ap received k)
        where
          cast : (t : Bool) → arrive_if t (vote_cast C count bus.heartbeats p (at r p)) ≡ some v → v.group.number < 2 ^ 32
          cast true h = (cast_formed C count bus.heartbeats p (at r p) lp (rule_one_formed C c row w p lp) v h).0
          cast false h = absurd (none-some h)

      part-decides : (q : ℕ) → q < n → OnePart q → z q ≡ image_in n q (unit_decides C count bus q (at r q))
      unfolding stop_and_start
      part-decides q l (calls d) =
          unit-alone E told mode n q (placed n q two few l) count c.stop c.start bus (at row q) (x q) (z q) (w q l) (e q l) d (small q l)
          ∙ ap (λ (s : State). image_in n q (unit_decides C count bus q s)) (ruled n c row q l)
      part-decides q l (rests k a b o) =
          let t = out q l k a b in
          o ∙ e q l ∙ ap (image_in n q) t.1 ∙ sym (ap (λ (s : State). image_in n q (unit_decides C count bus q s)) t.2)
      part-decides q l (leaves a b k) =
          stop-call E told mode n q (placed n q two few l) true (at row q) (x q) (z q) (w q l) (e q l) k
          ∙ sym (ap (λ (s : State). image_in n q (unit_decides C count bus q s)) (gone q l a b))

      -- on a bus that carries the record, the images after it are those of the rules' cycle
      carried-holds : Parts E mode n count c.stop c.start bus x z → Holds z (cycle C c row)
      carried-holds u q l = part-decides q l (u q l) ∙ ap (image_in n q) (units_entry C count bus c row q l ∙ ap (λ (y : Row). at y q) (units_follow C count bus c row carries))

    pub cycle-holds : CycleDone E mode n count c bus x z → Holds z (cycle C c row)
    cycle-holds d = carried-holds (delivers-carries C count few d.counted bus c r (rule_one_formed C c row w) delivers) d.parts
      where
        delivers : Delivers C count bus c r
        delivers =
            record {
              drive = λ p lp. drive_in (d.parts p lp);
              beats = λ p q lp lq o.
                  came_as (HeartbeatSent count p (drive_in (d.parts p lp))) sends_heartbeat (beats_written (d.parts p lp)) (at r p) (HeartbeatRefused (quiet_in mode) count p) (bus.heartbeats p q 0) (bus.heartbeats p q 1)
                  (heartbeat_reaches c p q) (part-beats p lp (d.parts p lp)) (d.beats p q lp lq o);
              ballots = λ p q lp lq o.
                  came_as (VoteSent C count bus.heartbeats p) (sends_vote C count bus.heartbeats p) (votes_written (d.parts p lp)) (at r p) (VoteRefused n count p) (bus.votes p q 0) (bus.votes p q 1)
                  (vote_reaches c p q) (part-votes p lp (d.parts p lp)) (d.ballots p q lp lq o);
            }

  -- the same under the record that says what came
  module _ (count stop start : ℕ) (bus : Bus) (x z : ℕ → List ℕ) (row : Row) (w : FormedRow C row) (e : Holds x row) (d : SoundDone E mode n count stop start bus x z) where
    abbrev came-record : Faults
    came-record = record_of C count bus stop start row

    sound-bus : Sound C count bus (rule_one n came-record row)
    unfolding record_of
    sound-bus =
        record {
          drive = λ p lp. drive_in (d.parts p lp);
          beats = λ p q channel lp lq o h. copy_as ((part-beats count came-record bus x z row w e p lp (d.parts p lp)).0 channel h (bus.heartbeats p q channel)) (d.beats p q channel lp lq o h);
          ballots = λ p q channel lp lq o h. copy_as ((part-votes count came-record bus x z row w e p lp (d.parts p lp)).0 channel h (bus.votes p q channel)) (d.ballots p q channel lp lq o h);
        }

    sound-holds : Holds z (cycle C came-record row)
    unfolding record_of
    sound-holds = carried-holds count came-record bus x z row w e (bus-recorded C count few d.counted bus stop start row w sound-bus) d.parts

    -- a unit that hears another finds exactly the drive bytes that the other gave with its calls, and none of one that it does not hear
    pub drives-found : (p q : ℕ) (l : p < n) → q < n → eqb p q ≡ false
        → drive_got (quiet_in mode) count bus.heartbeats q p ≡ cond (beat_heard (quiet_in mode) count bus q p) (drive_in (d.parts p l)) []
    unfolding sound-bus
    drives-found p q l lq o = drives-recorded C count few d.counted bus stop start row w sound-bus p q l lq o

  -- ---- cycles, one after the other

  pressed : (k : Cluster) (cs : List Faults) (x z : ℕ → List ℕ) → FormedRow C k.row → Holds x k.row → Pressed E mode n cs x z → Holds z (after C k cs).row
  unfolding after step
  pressed k [] x z w e no-cycle = e
  pressed k (c ∷ cs) x z w e (next {y = y} count bus d rest) = pressed (step C k c) cs y z (cycle-formed C c k.row w) (cycle-holds count c bus x y k.row w e d) rest

  sound-pressed : (k : Cluster) (cs : List Faults) (x z : ℕ → List ℕ) → FormedRow C k.row → Holds x k.row → SoundPressed E mode n k.row cs x z → Holds z (after C k cs).row
  unfolding after step
  sound-pressed k [] x z w e no-cycle = e
  sound-pressed k (c ∷ cs) x z w e press = first k c w e press (λ k' y w' e' p. sound-pressed k' cs y z w' e' p)
    where
      first : (k : Cluster) (c : Faults) → FormedRow C k.row → Holds x k.row → SoundPressed E mode n k.row (c ∷ cs) x z
          → ((k' : Cluster) (y : ℕ → List ℕ) → FormedRow C k'.row → Holds y k'.row → SoundPressed E mode n k'.row cs y z → Holds z (after C k' cs).row)
          → Holds z (after C (step C k c) cs).row
      first k c w e (next {y = y} count stop start bus d rest) follow = follow (step C k c) y (cycle-formed C c k.row w) (sound-holds count stop start bus x y k.row w e d) rest

-- ---- the theorems

module _ (E : Entries) (told : Within E by_definition) (mode n F : ℕ) (cs : List Faults) (x z : ℕ → List ℕ) (begins : Begins E n F x) where
  -- if every unit's image follows the rules from the beginning, all that is promised holds
  promised : ((two : 2 ≤ n) (few : n ≤ 64) → FormedRow (in_mode mode n) (founding n 0 F) → Holds E told mode n two few x (founding n 0 F)
      → Holds E told mode n two few z (after (in_mode mode n) (beginning (in_mode mode n) 0 F) cs).row) → UnitsPromised mode n F cs z
  unfolding beginning founding
  promised follow = record { states = λ q l. follow (bound q l).two (bound q l).few (founding-formed (in_mode mode n) 0 F (lit< tt) (bound q l).founders) first q l; claims = demand3 (in_mode mode n) 0 F }
    where
      bound : (q : ℕ) → q < n → Bounds n F
      bound q l = bounds E told n F q (x q) (begins q l)

      first : (q : ℕ) → q < n → x q ≡ image_in n q (at (founding n 0 F) q)
      first q l = begin_gives n q F (x q) (told.begin n q F (x q) (begins q l)) ∙ ap (image_in n q) (sym (get-tabulate n q (initial 0 F) stopped l))

pub over_units : (E : Entries) → Within E by_definition → OverUnits E
unfolding beginning
over_units E told mode n F cs x z begins press =
    promised E told mode n F cs x z begins (λ two few w e. pressed E told mode n two few (beginning (in_mode mode n) 0 F) cs x z w e press)

pub over_any_bus : (E : Entries) → Within E by_definition → OverAnyBus E
unfolding beginning
over_any_bus E told mode n F cs x z begins press =
    promised E told mode n F cs x z begins (λ two few w e. sound-pressed E told mode n two few (beginning (in_mode mode n) 0 F) cs x z w e press)
