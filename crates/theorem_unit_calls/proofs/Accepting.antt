-- Calls that the entries' definitions accept. Assumes nothing.
use mathlib.Core.Path.{◌≡◌, refl, sym, ap}
use mathlib.Core.Bool.{Bool, false, true, not, ◌||◌}
use mathlib.Core.List.{List, [], ◌∷◌}
use Prim.Native.Nat.{ℕ, ◌+◌, ◌≤◌, ◌<◌}
use native.Mathlib.Omega.{arith}
use lib.Dec.{eqb}
use lib.ListN.{length, replicate, length-replicate}
use borrow.Author.Tests.{eq-eqb, le-ltb, lt-leb}
use Rattle.std.specs.Prelude as std
use Rattle.sets.specs.Sets.{below}
use Rattle.sets.proofs.Booleans.{eqb_self}
use Rattle.frames.specs.Written.{wrong_drive}
use Rattle.refusal.specs.declared.Refusal.{Refusal}
use Rattle.refusal.specs.Codes.{status_of}
use Rattle.refusal.specs.Refusal.{when, first}
use Rattle.state.specs.declared.State.{State}
use Rattle.state.specs.declared.Node.{Node}
use Rattle.state.specs.State.{formed_place, formed_state}
use Rattle.state.specs.Image.{refusal}
use Rattle.state.proofs.RoundTrip.{image_length}
use Rattle.rules.specs.OneCycle.{wrong_mode, quiet_in}
use Rattle.entry_lent.specs.Refusals.{wrong_count, wrong_node, wrong_cycle, wrong_channel, wrong_indicators, wrong_length, wrong_founding, malformed}
use Rattle.entry_lent.specs.Found.{image_status}
use Rattle.entry_begin.specs.Begin.{begin_status}
use Rattle.entry_send_heartbeat.specs.Beating.{wrong_sending, send_heartbeat_status}
use Rattle.entry_receive_heartbeat.specs.Hearing.{receive_heartbeat_status}
use Rattle.entry_send_vote.specs.Voting.{send_vote_status}
use Rattle.entry_receive_vote.specs.Arrivals.{receive_vote_status}
use Rattle.entry_decide.specs.Decide.{decide_status}
use Rattle.theorem_unit_calls.proofs.Calls.{image_in, image_back, image_lent}

not_long : (k : ℕ) (s : List ℕ) → length s ≡ k → wrong_length k s ≡ false
not_long k s e = ap not (eq-eqb (length s) k e)

count_good : (n : ℕ) → 2 ≤ n → n ≤ 64 → wrong_count n ≡ false
unfolding wrong_count
count_good n a b = rw (le-ltb n 2 a, le-ltb 64 n b)

or_no : (a b : Bool) → a ≡ false → b ≡ false → (a || b) ≡ false
or_no a b e f = rw (e, f)

none_of_two : (a b : Bool) (i j : ℕ) → a ≡ false → b ≡ false → 0 ≡ first (when a i ∷ when b j ∷ [])
unfolding first
none_of_two a b i j e f = rw (e, f)

none_of_three : (a b c : Bool) (i j k : ℕ) → a ≡ false → b ≡ false → c ≡ false → 0 ≡ first (when a i ∷ when b j ∷ when c k ∷ [])
unfolding first
none_of_three a b c i j k e f g = rw (e, f, g)

module _ (mode n q : ℕ) (s : State) (accepted : wrong_mode mode ≡ false) (place : formed_place q n ≡ true) (w : formed_state (quiet_in mode) q n s ≡ true) where
  good-image : malformed (quiet_in mode) (image_in n q s) ≡ false
  good-image = ap (λ (d : std.Result Node Refusal). eqb (refusal d) 4) (image_back mode n q s place w)

  pub image-good : 0 ≡ image_status mode (image_in n q s)
  unfolding image_status
  image-good = sym (ap status_of (image_lent mode n q s place w accepted))

  image-size : wrong_length 24 (image_in n q s) ≡ false
  image-size = not_long 24 (image_in n q s) (image_length _)

  sent-good : (count channel : ℕ) → count < 64 → channel < 2 → (wrong_cycle count || wrong_channel channel) ≡ false
  sent-good count channel a b = or_no (wrong_cycle count) (wrong_channel channel) (le-ltb 63 count (omega arith)) (le-ltb 1 channel (omega arith))

  pub beat-good : (count channel : ℕ) (drive : List ℕ) → count < 64 → channel < 2 → wrong_drive drive ≡ false
      → 0 ≡ send_heartbeat_status mode (image_in n q s) 0 0 count channel drive (replicate (10 + length drive) 0)
  unfolding send_heartbeat_status wrong_indicators first
  beat-good count channel drive a b writable =
      let numbers : wrong_sending mode 0 0 count channel ≡ false = or_no (wrong_mode mode) (wrong_cycle count || wrong_channel channel) accepted (sent-good count channel a b) in
      let sized = not_long (10 + length drive) (replicate (10 + length drive) 0) (length-replicate {A = ℕ} (10 + length drive) 0) in
      rw (numbers, writable) (none_of_two _ _ 3 4 (or_no _ _ image-size sized) good-image)

  pub vote-good : (count channel : ℕ) → count < 64 → channel < 2 → 0 ≡ send_vote_status mode (image_in n q s) count channel (replicate 36 0)
  unfolding send_vote_status
  vote-good count channel a b = none_of_three _ _ _ 2 3 4 (or_no _ _ accepted (sent-good count channel a b)) (or_no _ _ image-size refl) good-image

  pub decide-good : (votes : List ℕ) → length votes ≡ 1792 → 0 ≡ decide_status mode (image_in n q s) votes
  unfolding decide_status
  decide-good votes l = none_of_three _ _ _ 2 3 4 accepted (or_no _ _ image-size (not_long 1792 votes l)) good-image

module _ (n p count : ℕ) (two : 2 ≤ n) (few : n ≤ 64) (l : p < n) (counted : count < 64) where
  slot-good : (wrong_node n p || wrong_cycle count) ≡ false
  slot-good = or_no (wrong_node n p) (wrong_cycle count) (lt-leb n p l) (le-ltb 63 count (omega arith))

  pub hear-good : (mode : ℕ) → wrong_mode mode ≡ false → 0 ≡ receive_heartbeat_status n mode p count (replicate 252 0)
  unfolding receive_heartbeat_status
  hear-good mode accepted = none_of_three _ _ _ 1 2 3 (count_good n two few) (or_no _ _ accepted slot-good) refl

  pub arrive-good : (s : List ℕ) → length s ≡ 1792 → 0 ≡ receive_vote_status n p count s
  unfolding receive_vote_status
  arrive-good s e = none_of_three _ _ _ 1 2 3 (count_good n two few) slot-good (not_long 1792 s e)

pub begin_good : (n q F : ℕ) → 2 ≤ n → n ≤ 64 → q < n → eqb F 0 ≡ false → below n F ≡ F → 0 ≡ begin_status n q F (replicate 24 0)
unfolding begin_status wrong_founding first
begin_good n q F a b l e f = rw (count_good n a b, lt-leb n q l, e, f, eqb_self F)
