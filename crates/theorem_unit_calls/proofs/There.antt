-- The premises of the theorem over units can be met: for every fault record there is a cycle of calls on the bus that it makes. Assumes nothing.
use mathlib.Core.Path.{◌≡◌, refl, sym, ap, ◌∙◌, subst}
use mathlib.Core.Logic.{◌⊎◌, inl, inr, Lift}
use mathlib.Core.Bool.{Bool, true, false, ◌&&◌, cond, true≢false}
use mathlib.Core.List.{List, [], ◌∷◌}
use mathlib.Core.Option.{Option, none, some}
use Prim.Native.Nat.{ℕ, zero, suc, ◌+◌, ◌-◌, ◌≤◌, ◌<◌}
use native.Mathlib.Nat.{mod-lt}
use native.Mathlib.Omega.{arith}
use lib.Dec.{eqb, lit<}
use lib.ListN.{length, replicate, length-replicate}
use borrow.Author.Tests.{eqb-false}
use Rattle.std.specs.Prelude as std
use Rattle.rules.specs.declared.Vote.{Vote}
use Rattle.frames.specs.declared.Heartbeat.{Heartbeat}
use Rattle.sets.specs.Sets.{has, below}
use Rattle.sets.proofs.Booleans.{eqb-true}
use Rattle.refusal.proofs.Laws.{unless-done}
use Rattle.state.specs.declared.Reason.{Reason}
use Rattle.state.specs.declared.State.{State}
use Rattle.state.specs.declared.State.TheVariants.{Out, Member}
use Rattle.state.specs.State.{formed_place, formed_state, founding_group, initial}
use Rattle.state.specs.Image.{image_of}
use Rattle.rules.specs.declared.Faults.{Faults}
use Rattle.rules.specs.declared.Config.{Config}
use Rattle.rules.specs.OneCycle.{wrong_mode, quiet_in, in_mode, stopped, stop_and_start}
use Rattle.rules.specs.Faults.{Row, at, founding, rule_one, heartbeat_reaches, vote_reaches, cycle}
use Rattle.rules.proofs.Rows.{get-tabulate}
use Rattle.theorem_formed.proofs.Formed.{FormedRow, stop_start_formed, founding-formed, cycle-formed}
use Rattle.frames.specs.Written.{wrong_drive, vote_payload}
use Rattle.frames.proofs.Lengths.{length_payload}
use Rattle.bus_units.specs.Units.{Bus, heartbeat_sent, vote_sent, heartbeat_got, is_alive, is_join, is_request, unit_hears, vote_cast, vote_framed}
use Rattle.bus_units.specs.Faulty.{copy_if, heartbeats_of, votes_of, bus_with}
use Rattle.bus_units.specs.Carried.{Came, on_both, on_none, HeartbeatRefused, VoteRefused, sends_heartbeat, is_some}
use Rattle.bus_units.specs.Run.{cycle_count}
use Rattle.bus_units.proofs.Delivered.{empty_heartbeat, empty_vote}
use Rattle.entry_begin.specs.Begin.{begin_status, begin_left}
use Rattle.entry_send_heartbeat.specs.Beating.{send_heartbeat_left, send_heartbeat_sent}
use Rattle.entry_receive_heartbeat.specs.Hearing.{heard_code, receive_heartbeat_status, receive_heartbeat_heard}
use Rattle.entry_send_vote.specs.Voting.{send_vote_left, send_vote_sent}
use Rattle.entry_receive_vote.specs.Arrivals.{slot_or, received_vote, receive_vote_status, receive_vote_left, receive_vote_arrived}
use Rattle.entry_decide.specs.Decide.{decide_left}
use Rattle.entry_slots.proofs.Back.{slot-length}
use Rattle.theorem_unit_calls.specs.Entries.{Frame, Entries, Within, by_definition}
use Rattle.theorem_unit_calls.specs.Cycle.{Stops, by_stop, by_begin, not_stopped, Starts, by_start, not_started, In, Collected, none as no_call, one_more, Silent, UnitDone, Part, calls, rests, drive_in, Wrote, sends, CycleDone, Pressed, none as no-cycle, next, Driven}
use Rattle.theorem_unit_calls.specs.Promise.{Begins}
use Rattle.theorem_unit_calls.proofs.Calls.{image_in, Gives, given-sends, beat_speaks, vote_speaks, alive_code, join_code, request_code, hears_bit, stop-gives, start_gives}
use Rattle.theorem_unit_calls.proofs.Alone.{beat-given, vote-given}
use Rattle.theorem_unit_calls.proofs.Press.{placed, ruled, cycle-holds}
use Rattle.theorem_unit_calls.proofs.Accepting.{image-good, beat-good, vote-good, decide-good, hear-good, arrive-good, begin_good}

lift : {A : Type 0} → A → Lift {0, 1} A
lift a = record { lower = a }

-- the definitions are within themselves
same : Within by_definition by_definition
same =
    record {
      begin = λ n q F y k. k;
      stop = λ mode x y k. k;
      start = λ mode x y k. k;
      send_heartbeat = λ mode x sync startup count channel drive g k. k;
      receive_heartbeat = λ n mode p count a b heard k. k;
      send_vote = λ mode x heard0 heard1 requests count channel g k. k;
      receive_vote = λ n p count a b s m t k e. e;
      decide = λ mode x heard0 heard1 requests votes arrived y k. k;
    }

-- ---- the calls of one cycle on the bus of the record

-- all nodes below n
unfoldable upto : ℕ → List ℕ
upto zero = []
upto (suc n) = n ∷ upto n

in_upto : (n p : ℕ) → p < n → In p (upto n)
unfolding upto
in_upto zero p l = absurd (omega arith)
in_upto (suc n) p l = go (eqb p n) refl (in_upto n p)
  where
    go : (b : Bool) → eqb p n ≡ b → (p < n → In p (upto n)) → (p ≡ n) ⊎ In p (upto n)
    go true e f = inl (eqb-true e)
    go false e f = inr (f (let z : p ≡ n → ⊥ = eqb-false p n e in omega arith))

-- what the calls for all of them leave
unfoldable votes_left : ℕ → ℕ → (ℕ → ℕ → List ℕ) → List ℕ → List ℕ → List ℕ
votes_left n count copies [] s = s
votes_left n count copies (p ∷ ps) s = votes_left n count copies ps (receive_vote_left n p count (copies p 0) (copies p 1) s)

unfoldable mask_left : ℕ → ℕ → (ℕ → ℕ → List ℕ) → List ℕ → List ℕ → ℕ → ℕ
mask_left n count copies [] s m = m
mask_left n count copies (p ∷ ps) s m =
    mask_left n count copies ps (receive_vote_left n p count (copies p 0) (copies p 1) s) (receive_vote_arrived n p count (copies p 0) (copies p 1) s m)

module _ (E : Entries) (had : Within by_definition E) (n count : ℕ) (two : 2 ≤ n) (few : n ≤ 64) (counted : count < 64) (copies : ℕ → ℕ → List ℕ) where
  left-length : (p : ℕ) (s : List ℕ) → p < n → length s ≡ 1792 → length (receive_vote_left n p count (copies p 0) (copies p 1) s) ≡ 1792
  unfolding receive_vote_left
  left-length p s l e =
      ap (λ (x : List ℕ). length x) (unless-done (receive_vote_status n p count s) (slot_or (received_vote n p count (copies p 0) (copies p 1)) p s) s (sym (arrive-good n p count two few l counted s e)))
      ∙ go (received_vote n p count (copies p 0) (copies p 1))
    where
      go : (r : std.Option Vote) → length (slot_or r p s) ≡ 1792
      go std.None = e
      go (std.Some v) = slot-length p (vote_payload v) s (length_payload v) (omega arith) ∙ e

  collects : (k : ℕ) (s : List ℕ) (m : ℕ) → k ≤ n → length s ≡ 1792
      → Collected E n count copies (upto k) s m (votes_left n count copies (upto k) s) (mask_left n count copies (upto k) s m) × Lift {0, 1} (length (votes_left n count copies (upto k) s) ≡ 1792)
  unfolding upto votes_left mask_left
  collects zero s m l e = (no_call, lift e)
  collects (suc k) s m l e =
      let rest = collects k (receive_vote_left n k count (copies k 0) (copies k 1) s) (receive_vote_arrived n k count (copies k 0) (copies k 1) s m) (omega arith) (left-length k s l e) in
      (one_more k (had.receive_vote n k count (copies k 0) (copies k 1) s m _ _ (lift (arrive-good n k count two few l counted s e, refl, refl))) rest.0, rest.1)

module _ (E : Entries) (had : Within by_definition E) (mode n q : ℕ) (accepted : wrong_mode mode ≡ false) (place : formed_place q n ≡ true) where
  stop-made : (b : Bool) (s : State) → formed_state (quiet_in mode) q n s ≡ true → Stops E mode n q b (image_in n q s) (image_in n q (stop_and_start b false s))
  unfolding stop_and_start
  stop-made true s w = by_stop (had.stop mode _ _ (lift (image-good mode n q s accepted place w, sym (stop-gives mode n q s place w accepted))))
  stop-made false s w = not_stopped

  start-made : (a b : Bool) (s : State) → formed_state (quiet_in mode) q n (stop_and_start a false s) ≡ true
      → Starts E mode b (image_in n q (stop_and_start a false s)) (image_in n q (stop_and_start a b s))
  unfolding stop_and_start
  start-made a true s w =
      let t = stop_and_start a false s in
      by_start (had.start mode _ _ (lift (image-good mode n q t accepted place w, sym (start_gives mode n q t place w accepted))))
  start-made a false s w = not_started

-- a frame that was written stands on the bus where it reaches
stands : (frames : ℕ → Frame) (Refused : ℕ → List ℕ → Type 0) (sent : ℕ → Option (List ℕ)) (speaks t : Bool) → ((channel : ℕ) → Refused channel [])
    → ((channel : ℕ) → channel < 2 → Gives (frames channel) (sent channel)) → ((channel : ℕ) → is_some (sent channel) ≡ speaks)
    → Came (Wrote frames) Refused (copy_if t (sent 0)) (copy_if t (sent 1)) (sends frames && t)
stands frames Refused sent speaks t empty given k = go (sent 0) (sent 1) t (given 0 (lit< tt)) (given 1 (lit< tt)) (k 0 ∙ sym (k 1))
  where
    by_first : (b : Bool) {x y : List ℕ} (t : Bool) → sends frames ≡ b → Came (Wrote frames) Refused x y (b && t) → Came (Wrote frames) Refused x y (sends frames && t)
    by_first b {x} {y} t e = subst (λ (v : Bool). Came (Wrote frames) Refused x y (v && t)) (sym e)

    go : (x y : Option (List ℕ)) (t : Bool) → Gives (frames 0) x → Gives (frames 1) y → is_some x ≡ is_some y
        → Came (Wrote frames) Refused (copy_if t x) (copy_if t y) (sends frames && t)
    go (some x) (some y) true a b e = by_first true true (given-sends (frames 0) (some x) a) (on_both a b)
    go (some x) (some y) false a b e = by_first true false (given-sends (frames 0) (some x) a) (on_none (empty 0) (empty 1))
    go (some x) none t a b e = absurd (true≢false e)
    go none (some y) t a b e = absurd (true≢false (sym e))
    go none none true a b e = by_first false true (given-sends (frames 0) none a) (on_none (empty 0) (empty 1))
    go none none false a b e = by_first false false (given-sends (frames 0) none a) (on_none (empty 0) (empty 1))

-- with any drive bytes that can be written, into a vote buffer of any bytes, with any mask
module _ (drive : ℕ → List ℕ) (writable : (q : ℕ) → wrong_drive (drive q) ≡ false) (mode n count : ℕ) (accepted : wrong_mode mode ≡ false) (two : 2 ≤ n) (few : n ≤ 64) (counted : count < 64) (c : Faults)
    (row : Row) (formed : FormedRow (in_mode mode n) row) (buffer : List ℕ) (sized : length buffer ≡ 1792) (mask : ℕ) where
  abbrev C : Config
  C = in_mode mode n

  abbrev quiet : Bool
  quiet = quiet_in mode

  abbrev bus : Bus
  bus = bus_with drive C count c row

  abbrev now : ℕ → State
  now q = stop_and_start (has q c.stop) (has q c.start) (at row q)

  abbrev heard : (std.Option Heartbeat → Bool) → ℕ → ℕ
  heard kind q = unit_hears C count bus.heartbeats kind q

  abbrev beat_frame : ℕ → ℕ → Frame
  beat_frame q channel =
      record {
        sent = send_heartbeat_sent mode (image_in n q (now q)) 0 0 count channel (drive q) (replicate (10 + length (drive q)) 0) 0;
        bytes = send_heartbeat_left mode (image_in n q (now q)) 0 0 count channel (drive q) (replicate (10 + length (drive q)) 0);
      }

  abbrev vote_frames : ℕ → ℕ → Frame
  vote_frames q channel =
      record {
        sent = send_vote_sent mode (image_in n q (now q)) (heard is_alive q) (heard is_join q) (heard is_request q) count channel (replicate 36 0) 0;
        bytes = send_vote_left mode (image_in n q (now q)) (heard is_alive q) (heard is_join q) (heard is_request q) count channel (replicate 36 0);
      }

  abbrev buffer_after : ℕ → List ℕ
  buffer_after q = votes_left n count (λ p. bus.votes p q) (upto n) buffer

  abbrev arrived_after : ℕ → ℕ
  arrived_after q = mask_left n count (λ p. bus.votes p q) (upto n) buffer mask

  abbrev decided : ℕ → List ℕ
  decided q = decide_left mode (image_in n q (now q)) (heard is_alive q) (heard is_join q) (heard is_request q) (buffer_after q) (arrived_after q)

  now-formed : (q : ℕ) → q < n → formed_state quiet q n (now q) ≡ true
  now-formed q l = stop_start_formed (has q c.stop) (has q c.start) quiet n q (at row q) (formed q l)

  made : (E : Entries) → Within by_definition E → (z : ℕ → List ℕ) → ((q : ℕ) → q < n → z q ≡ decided q) → (q : ℕ) → q < n
      → UnitDone E mode n count c.stop c.start bus q (image_in n q (at row q)) (z q)
  unfolding receive_heartbeat_heard
  made E had z e q l =
      record {
        between = image_in n q (stop_and_start (has q c.stop) false (at row q));
        ruled = image_in n q (now q);
        stops = stop-made E had mode n q accepted place (has q c.stop) (at row q) (formed q l);
        starts = start-made E had mode n q accepted place (has q c.stop) (has q c.start) (at row q) (stop_start_formed (has q c.stop) false quiet n q (at row q) (formed q l));
        sync = λ channel. 0;
        startup = λ channel. 0;
        drive = drive q;
        heartbeat = beat_frame q;
        beats = λ channel k.
            had.send_heartbeat mode _ 0 0 count channel _ _
            (lift (replicate (10 + length (drive q)) 0, 0, beat-good mode n q (now q) accepted place (now-formed q l) count channel (drive q) counted k (writable q), refl, refl));
        heard0 = heard is_alive q;
        heard1 = heard is_join q;
        requests = heard is_request q;
        hears = λ p k o.
            let good = hear-good n p count two few k counted mode accepted in
            inl (
              heard_code (r p),
              had.receive_heartbeat n mode p count _ _ _ (lift (replicate 252 0, 0, good, sym (unless-done (receive_heartbeat_status n mode p count (replicate 252 0)) (heard_code (r p)) 0 (sym good)))),
              (
                hears_bit C count bus.heartbeats is_alive p q k o ∙ sym (alive_code (r p)),
                hears_bit C count bus.heartbeats is_join p q k o ∙ sym (join_code (r p)),
                hears_bit C count bus.heartbeats is_request p q k o ∙ sym (request_code (r p)),
              ),
            );
        vote = vote_frames q;
        casts = λ channel k.
            had.send_vote mode _ _ _ _ count channel _ (lift (replicate 36 0, 0, vote-good mode n q (now q) accepted place (now-formed q l) count channel counted k, refl, refl));
        buffer = buffer;
        cleared = mask;
        senders = upto n;
        votes = buffer_after q;
        arrived = arrived_after q;
        collects = all.0;
        attends = λ p k o. inl (in_upto n p k);
        decides = had.decide mode _ _ _ _ _ _ _ (lift (decide-good mode n q (now q) accepted place (now-formed q l) (buffer_after q) all.1.lower, e q l));
      }
    where
      place : formed_place q n ≡ true
      place = placed n q two few l

      r : ℕ → std.Option Heartbeat
      r p = heartbeat_got quiet count bus.heartbeats q p

      all : Collected E n count (λ p. bus.votes p q) (upto n) buffer mask (buffer_after q) (arrived_after q) × Lift {0, 1} (length (buffer_after q) ≡ 1792)
      all = collects E had n count two few counted (λ p. bus.votes p q) n buffer mask (omega arith) sized

  -- ---- all units

  -- the same calls by the definitions alone, of which it is known what they give
  defined : (p : ℕ) → p < n → UnitDone by_definition mode n count c.stop c.start bus p (image_in n p (at row p)) (decided p)
  defined p l = made by_definition same decided (λ y h. refl) p l

  beats-stand : (p : ℕ) → p < n → (channel : ℕ) → channel < 2 → Gives (beat_frame p channel) (heartbeat_sent 0 0 (drive p) count p (at (rule_one n c row) p) channel)
  unfolding made defined
  beats-stand p l channel k =
      subst (λ (s : State). Gives (beat_frame p channel) (heartbeat_sent 0 0 (drive p) count p s channel)) (ruled n c row p l)
      (beat-given by_definition same mode n p (placed n p two few l) count c.stop c.start bus (at row p) _ _ (formed p l) refl (defined p l) channel k)

  votes-stand : (p : ℕ) → p < n → (channel : ℕ) → channel < 2 → Gives (vote_frames p channel) (vote_sent C count bus.heartbeats p (at (rule_one n c row) p) channel)
  unfolding made defined
  votes-stand p l channel k =
      subst (λ (s : State). Gives (vote_frames p channel) (vote_sent C count bus.heartbeats p s channel)) (ruled n c row p l)
      (vote-given by_definition same mode n p (placed n p two few l) count c.stop c.start bus (at row p) _ _ (formed p l) refl (defined p l) channel k)

  -- a cycle whose units give those drive bytes
  abbrev Cycled : Entries → (ℕ → List ℕ) → Type 1
  Cycled E z = (k : CycleDone E mode n count c bus (λ q. image_in n q (at row q)) z) × Lift {0, 1} ((q : ℕ) (l : q < n) → drive_in (k.parts q l) ≡ drive q)

  cycle-made : (E : Entries) → Within by_definition E → (z : ℕ → List ℕ) → ((q : ℕ) → q < n → z q ≡ decided q) → Cycled E z
  unfolding bus_with heartbeats_of votes_of made
  cycle-made E had z e = (
    record {
      counted = counted;
      parts = λ q l. calls (made E had z e q l);
      beats = λ p q lp lq o.
          stands (beat_frame p) (HeartbeatRefused quiet count p) (heartbeat_sent 0 0 (drive p) count p (at (rule_one n c row) p)) (sends_heartbeat (at (rule_one n c row) p)) (heartbeat_reaches c p q)
          (empty_heartbeat quiet count p) (beats-stand p lp) (λ channel. beat_speaks 0 0 (drive p) count p channel (at (rule_one n c row) p));
      ballots = λ p q lp lq o.
          let cast = vote_cast C count bus.heartbeats p (at (rule_one n c row) p) in
          stands (vote_frames p) (VoteRefused n count p) (vote_framed count p cast) (is_some cast) (vote_reaches c p q)
          (empty_vote n count p) (votes-stand p lp) (λ channel. vote_speaks count p channel cast);
    },
    lift (λ q l. refl),
  )

  cycle_there : (E : Entries) → Within by_definition E → Cycled E (λ q. image_in n q (at (cycle C c row) q))
  cycle_there E had =
      cycle-made E had (λ q. image_in n q (at (cycle C c row) q))
      (λ q l. sym (cycle-holds by_definition same mode n two few count c bus (λ y. image_in n y (at row y)) decided row formed (λ y h. refl) (cycle-made by_definition same decided (λ y h. refl)).0 q l))

begin_made : (E : Entries) → Within by_definition E → (n q F : ℕ) → 2 ≤ n → n ≤ 64 → q < n → eqb F 0 ≡ false → below n F ≡ F → E.begin n q F (image_in n q (initial 0 F q))
unfolding begin_left
begin_made E had n q F two few l some-founder founders =
    let good = begin_good n q F two few l some-founder founders in
    had.begin n q F _ (lift (replicate 24 0, good, sym (unless-done (begin_status n q F (replicate 24 0)) (image_in n q (initial 0 F q)) (replicate 24 0) (sym good))))

-- for every mode, founding set, list of fault records and choice of drive bytes there is such a press
pub press_there : (E : Entries) → Within by_definition E → (mode n F : ℕ) (cs : List Faults) (drive : (k q : ℕ) → List ℕ) → wrong_mode mode ≡ false → 2 ≤ n → n ≤ 64 → eqb F 0 ≡ false → below n F ≡ F
    → ((k q : ℕ) → wrong_drive (drive k q) ≡ false)
    → (x : ℕ → List ℕ) × (z : ℕ → List ℕ) × Begins E n F x × (k : Pressed E mode n cs x z) × Lift {0, 1} (Driven drive 1 k)
unfolding founding
press_there E had mode n F cs drive accepted two few some-founder founders writable =
    let run = cycles cs 1 (founding n 0 F) (founding-formed (in_mode mode n) 0 F (lit< tt) founders) in
    ((λ q. image_in n q (at (founding n 0 F) q)), run.0, began, run.1, run.2)
  where
    began : Begins E n F (λ q. image_in n q (at (founding n 0 F) q))
    began q l =
        subst (λ (y : List ℕ). E.begin n q F y) (ap (image_in n q) (sym (get-tabulate n q (initial 0 F) stopped l))) (begin_made E had n q F two few l some-founder founders)

    cycles : (cs : List Faults) (k : ℕ) (row : Row) → FormedRow (in_mode mode n) row
        → (z : ℕ → List ℕ) × (p : Pressed E mode n cs (λ q. image_in n q (at row q)) z) × Lift {0, 1} (Driven drive k p)
    cycles [] k row w = ((λ q. image_in n q (at row q)), no-cycle, lift tt)
    cycles (c ∷ cs) k row w =
        let rest = cycles cs (suc k) (cycle (in_mode mode n) c row) (cycle-formed (in_mode mode n) c row w) in
        let counted : cycle_count k < 64 = mod-lt (k - 1) (lit< tt) in
        let empty = length-replicate {A = ℕ} 1792 0 in
        let done = cycle_there (drive k) (writable k) mode n (cycle_count k) accepted two few counted c row w (replicate 1792 0) empty 0 E had in
        (rest.0, next (cycle_count k) (bus_with (drive k) (in_mode mode n) (cycle_count k) c row) done.0 rest.1, lift (done.1.lower, rest.2.lower))

-- ---- each other way that a part may go can be gone

pub silent_there : Silent (λ channel. [])
silent_there = (refl, refl)

pub rests_there : (E : Entries) (mode n count stop start : ℕ) (bus : Bus) (q : ℕ) (r : Reason) → has q stop ≡ false → has q start ≡ false
    → Part E mode n count stop start bus q (image_in n q (Out r)) (image_in n q (Out r))
unfolding image_of
rests_there E mode n count stop start bus q r a b = rests refl a b refl

-- whatever image it held, a unit that lost its memory is stopped by a founding set that lacks it
pub begin_there : (E : Entries) → Within by_definition E → (mode n q F : ℕ) (x : List ℕ) → 2 ≤ n → n ≤ 64 → q < n → eqb F 0 ≡ false → below n F ≡ F → has q F ≡ false
    → Stops E mode n q true x (image_in n q stopped)
begin_there E had mode n q F x two few l some-founder founders lacks =
    by_begin F lacks
    (subst (λ (y : List ℕ). E.begin n q F y) (ap (λ (b : Bool). image_in n q (cond b (Member (founding_group 0 F) false) stopped)) lacks) (begin_made E had n q F two few l some-founder founders))
