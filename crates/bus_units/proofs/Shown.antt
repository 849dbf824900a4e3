-- The frames of a cycle as they are shown: where each stands, how many bytes they are, and that a run shows those of its last cycle. Assumes nothing.
use mathlib.Core.Path.{◌≡◌, refl, sym, ap, ◌∙◌}
use mathlib.Core.Bool.{Bool, true, false, cond}
use mathlib.Core.List.{List, [], ◌∷◌, ◌++◌}
use mathlib.Core.Option.{Option, none, some}
use Prim.Native.Nat.{ℕ, zero, suc, ◌+◌, ◌-◌, ◌*◌, ◌≤◌, ◌<◌}
use native.Mathlib.Nat.{add-zero}
use native.Mathlib.Omega.{arith}
use lib.Dec.{eqb, lit≤}
use lib.ListN.{length, replicate, get_or, length-append, length-replicate, get_or-append}
use lib.Seq.{get_or-append-add}
use borrow.Author.Tests.{eqb-true, eqb-false}
use Rattle.state.specs.declared.State.{State}
use Rattle.state.specs.declared.State.TheVariants.{Out, Joining, Member}
use Rattle.rules.specs.declared.Vote.{Vote}
use Rattle.rules.specs.declared.Faults.{Faults}
use Rattle.rules.specs.declared.Config.{Config}
use Rattle.rules.specs.Faults.{Row, at, rule_one}
use Rattle.frames.specs.Written.{heartbeat_frame, vote_frame}
use Rattle.frames.proofs.Lengths.{length_heartbeat, length-vote}
use Rattle.bus_units.specs.Units.{heartbeat_sent, vote_cast, vote_framed, vote_sent}
use Rattle.bus_units.specs.Faulty.{present, bus_of, framed_cycle}
use Rattle.bus_units.specs.Run.{cycle_count, framed_rows, last_row, padded, in_slots, heartbeats_shown, votes_shown, frames_shown, frames_length, frames_after}

-- ---- slots of 36 bytes

-- the frames of the first n units fit
abbrev pub Short : ℕ → (ℕ → Option (List ℕ)) → Type 0
Short n sent = (q : ℕ) → q < n → length (present (sent q)) ≤ 36

pub fewer_short : (n : ℕ) (sent : ℕ → Option (List ℕ)) → Short (suc n) sent → Short n sent
fewer_short n sent s q l = s q (omega arith)

length-padded : (o : Option (List ℕ)) → length (present o) ≤ 36 → length (padded o) ≡ 36
length-padded o l =
    let a : length (present o ++ replicate (36 - length (present o)) 0) ≡ length (present o) + length (replicate {A = ℕ} (36 - length (present o)) 0) = length-append (present o) (replicate (36 - length (present o)) 0) in
    let b : length (replicate {A = ℕ} (36 - length (present o)) 0) ≡ 36 - length (present o) = length-replicate {A = ℕ} (36 - length (present o)) 0 in
    omega arith

pub length_slots : (n : ℕ) (sent : ℕ → Option (List ℕ)) → Short n sent → length (in_slots n sent) ≡ 36 * n
unfolding in_slots
length_slots zero sent s = refl
length_slots (suc n) sent s =
    let a : length (in_slots n sent ++ padded (sent n)) ≡ length (in_slots n sent) + length (padded (sent n)) = length-append (in_slots n sent) (padded (sent n)) in
    let b : length (in_slots n sent) ≡ 36 * n = length_slots n sent (fewer_short n sent s) in
    let c : length (padded (sent n)) ≡ 36 = length-padded (sent n) (s n (omega arith)) in
    omega arith

-- byte i of slot q
slot_byte : (n : ℕ) (sent : ℕ → Option (List ℕ)) (q i : ℕ) → Short n sent → q < n → i < 36 → get_or (in_slots n sent) (36 * q + i) 0 ≡ get_or (padded (sent q)) i 0
unfolding in_slots
slot_byte zero sent q i s l k = absurd (none_below l)
  where
    none_below : q < 0 → ⊥
    none_below l = omega arith
slot_byte (suc n) sent q i s l k = go (eqb q n) refl (slot_byte n sent q i (fewer_short n sent s))
  where
    go : (b : Bool) → eqb q n ≡ b → (q < n → i < 36 → get_or (in_slots n sent) (36 * q + i) 0 ≡ get_or (padded (sent q)) i 0)
        → get_or (in_slots n sent ++ padded (sent n)) (36 * q + i) 0 ≡ get_or (padded (sent q)) i 0
    go true e rest =
        let same : q ≡ n = eqb-true q n e in
        let h : 36 * q + i ≡ length (in_slots n sent) + i = let z = length_slots n sent (fewer_short n sent s) in omega arith in
        ap (λ (j : ℕ). get_or (in_slots n sent ++ padded (sent n)) j 0) h ∙ get_or-append-add (in_slots n sent) (padded (sent n)) i 0
        ∙ ap (λ (j : ℕ). get_or (padded (sent j)) i 0) (sym same)
    go false e rest =
        let other : q ≡ n → ⊥ = eqb-false q n e in
        let low : q < n = omega arith in
        let h : 36 * q + i < length (in_slots n sent) = let z = length_slots n sent (fewer_short n sent s) in omega arith in
        get_or-append (in_slots n sent) (padded (sent n)) 0 (36 * q + i) h ∙ rest low k

-- ---- the frames that are sent fit a slot

beat_short : (count q : ℕ) (s : State) (channel : ℕ) → length (present (heartbeat_sent 0 0 [] count q s channel)) ≤ 36
beat_short count q (Out r) channel = lit≤ tt
beat_short count q Joining channel = let e : length (heartbeat_frame q 1 0 0 0 count channel []) ≡ 10 = length_heartbeat q 1 0 0 0 count channel [] in omega arith
beat_short count q (Member g a) channel =
    let e : length (heartbeat_frame q 0 (cond a 1 0) 0 0 count channel []) ≡ 10 = length_heartbeat q 0 (cond a 1 0) 0 0 count channel [] in omega arith

vote_short : (count q : ℕ) (o : Option Vote) (channel : ℕ) → length (present (vote_framed count q o channel)) ≤ 36
vote_short count q none channel = lit≤ tt
vote_short count q (some v) channel = let e : length (vote_frame q v count channel) ≡ 36 = length-vote q v count channel in omega arith

-- ---- the four parts

-- byte j of part k of four
part_byte : (a b c d : List ℕ) → length a ≡ 2304 → length b ≡ 2304 → length c ≡ 2304 → (j : ℕ) → j < 2304
    → (get_or (a ++ (b ++ (c ++ d))) j 0 ≡ get_or a j 0) × (get_or (a ++ (b ++ (c ++ d))) (2304 + j) 0 ≡ get_or b j 0)
    × (get_or (a ++ (b ++ (c ++ d))) (4608 + j) 0 ≡ get_or c j 0) × (get_or (a ++ (b ++ (c ++ d))) (6912 + j) 0 ≡ get_or d j 0)
part_byte a b c d la lb lc j l =
    let one : 2304 + j ≡ length a + j = omega arith in
    let two : 4608 + j ≡ length a + (length b + j) = omega arith in
    let three : 6912 + j ≡ length a + (length b + (length c + j)) = omega arith in
    let in-a : j < length a = omega arith in
    let in_b : j < length b = omega arith in
    let in_c : j < length c = omega arith in (
      get_or-append a (b ++ (c ++ d)) 0 j in-a,
      ap (λ (k : ℕ). get_or (a ++ (b ++ (c ++ d))) k 0) one ∙ get_or-append-add a (b ++ (c ++ d)) j 0 ∙ get_or-append b (c ++ d) 0 j in_b,
      ap (λ (k : ℕ). get_or (a ++ (b ++ (c ++ d))) k 0) two ∙ get_or-append-add a (b ++ (c ++ d)) (length b + j) 0 ∙ get_or-append-add b (c ++ d) j 0 ∙ get_or-append c d 0 j in_c,
      ap (λ (k : ℕ). get_or (a ++ (b ++ (c ++ d))) k 0) three ∙ get_or-append-add a (b ++ (c ++ d)) (length b + (length c + j)) 0 ∙ get_or-append-add b (c ++ d) (length c + j) 0 ∙ get_or-append-add c d j 0,
    )

module _ (C : Config) (count : ℕ) (c : Faults) (row : Row) where
  abbrev r : Row
  r = rule_one C.nodes c row

  -- what unit q sends on a channel
  abbrev beat : ℕ → ℕ → Option (List ℕ)
  beat channel q = heartbeat_sent 0 0 [] count q (at r q) channel

  abbrev ballot : ℕ → ℕ → Option (List ℕ)
  ballot channel q = vote_sent C count (bus_of C count c row).heartbeats q (at r q) channel

  pub beats-short : (channel : ℕ) → Short 64 (beat channel)
  beats-short channel q l = beat_short count q (at r q) channel

  pub ballots-short : (channel : ℕ) → Short 64 (ballot channel)
  ballots-short channel q l = vote_short count q (vote_cast C count (bus_of C count c row).heartbeats q (at r q)) channel

  pub beats-length : (channel : ℕ) → length (heartbeats_shown C count c row channel) ≡ 2304
  unfolding heartbeats_shown
  beats-length channel = length_slots 64 (beat channel) (beats-short channel)

  pub ballots-length : (channel : ℕ) → length (votes_shown C count c row channel) ≡ 2304
  unfolding votes_shown
  ballots-length channel = length_slots 64 (ballot channel) (ballots-short channel)

  -- byte i of the slot of unit q, on channel A and on B: of the heartbeats, and of the votes
  module _ (q i : ℕ) (l : q < 64) (k : i < 36) where
    abbrev bytes : (get_or (frames_shown C count c row) (36 * q + i) 0 ≡ get_or (heartbeats_shown C count c row 0) (36 * q + i) 0)
        × (get_or (frames_shown C count c row) (2304 + (36 * q + i)) 0 ≡ get_or (heartbeats_shown C count c row 1) (36 * q + i) 0)
        × (get_or (frames_shown C count c row) (4608 + (36 * q + i)) 0 ≡ get_or (votes_shown C count c row 0) (36 * q + i) 0)
        × (get_or (frames_shown C count c row) (6912 + (36 * q + i)) 0 ≡ get_or (votes_shown C count c row 1) (36 * q + i) 0)
    unfolding frames_shown
    bytes = part_byte (heartbeats_shown C count c row 0) (heartbeats_shown C count c row 1) (votes_shown C count c row 0) (votes_shown C count c row 1) (beats-length 0) (beats-length 1) (ballots-length 0) (36 * q + i) (omega arith)

    pub heartbeat-on-a : get_or (frames_shown C count c row) (36 * q + i) 0 ≡ get_or (padded (beat 0 q)) i 0
    unfolding heartbeats_shown
    heartbeat-on-a = bytes.0 ∙ slot_byte 64 (beat 0) q i (beats-short 0) l k

    pub heartbeat-on-b : get_or (frames_shown C count c row) (2304 + (36 * q + i)) 0 ≡ get_or (padded (beat 1 q)) i 0
    unfolding heartbeats_shown
    heartbeat-on-b = bytes.1 ∙ slot_byte 64 (beat 1) q i (beats-short 1) l k

    pub vote-on-a : get_or (frames_shown C count c row) (4608 + (36 * q + i)) 0 ≡ get_or (padded (ballot 0 q)) i 0
    unfolding votes_shown
    vote-on-a = bytes.2 ∙ slot_byte 64 (ballot 0) q i (ballots-short 0) l k

    pub vote-on-b : get_or (frames_shown C count c row) (6912 + (36 * q + i)) 0 ≡ get_or (padded (ballot 1 q)) i 0
    unfolding votes_shown
    vote-on-b = bytes.3 ∙ slot_byte 64 (ballot 1) q i (ballots-short 1) l k

  pub frames-length : length (frames_shown C count c row) ≡ frames_length
  unfolding frames_shown
  frames-length =
      let h0 = heartbeats_shown C count c row 0 in
      let h1 = heartbeats_shown C count c row 1 in
      let v0 = votes_shown C count c row 0 in
      let v1 = votes_shown C count c row 1 in
      length-append h0 (h1 ++ (v0 ++ v1)) ∙ ap (λ (k : ℕ). length h0 + k) (length-append h1 (v0 ++ v1) ∙ ap (λ (k : ℕ). length h1 + k) (length-append v0 v1))
      ∙ simp (beats-length 0, beats-length 1, ballots-length 0, ballots-length 1)

-- ---- a run shows its last cycle: the one behind the cycles cs, from the row that they leave

pub frames_last : (C : Config) (n : ℕ) (row : Row) (cs : List Faults) (c : Faults) (before : List ℕ)
    → frames_after C n row (cs ++ (c ∷ [])) before ≡ frames_shown C (cycle_count (n + length cs)) c (last_row row (framed_rows C n row cs))
unfolding frames_after last_row framed_rows
frames_last C n row [] c before = ap (λ (k : ℕ). frames_shown C (cycle_count k) c row) (sym (add-zero n))
frames_last C n row (d ∷ cs) c before =
    let e : suc n + length cs ≡ n + suc (length cs) = omega arith in
    frames_last C (suc n) (framed_cycle C (cycle_count n) d row) cs c (frames_shown C (cycle_count n) d row)
    ∙ ap (λ (k : ℕ). frames_shown C (cycle_count k) c (last_row (framed_cycle C (cycle_count n) d row) (framed_rows C (suc n) (framed_cycle C (cycle_count n) d row) cs))) e
