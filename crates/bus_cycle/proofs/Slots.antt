-- What stands on the channels that the code fills: the frames of the definition, each in its slot. Assumes nothing.
use mathlib.Core.Path.{◌≡◌, refl, sym, ap, ap₂, ◌∙◌, subst}
use mathlib.Core.Bool.{Bool, true, false, cond}
use mathlib.Core.List.{List, [], ◌∷◌, ◌++◌, append_assoc, append-nil}
use mathlib.Core.Option.{Option, none, some}
use Prim.Native.Nat.{ℕ, zero, suc, ◌+◌, ◌-◌, ◌*◌, ◌≤◌, ◌<◌}
use native.Mathlib.Nat.{zero-add, suc-add, add-zero, add-suc}
use native.Mathlib.Omega.{arith}
use lib.ListN.{length, take, drop, replicate, get_or, length-replicate}
use lib.Seq.{take_at, drop_at, drop-append-add}
use Rattle.parts.specs.Parts.{with_part}
use Rattle.sets.specs.Sets.{has, ◌∖◌}
use Rattle.state.specs.declared.State.{State}
use Rattle.rules.specs.declared.Vote.{Vote}
use Rattle.rules.specs.declared.Faults.{Faults}
use Rattle.rules.specs.declared.Config.{Config}
use Rattle.rules.specs.OneCycle.{stopped, stop_and_start}
use Rattle.rules.specs.Faults.{Row, at, rule_one, vote_of, votes}
use Rattle.rules.specs.Ballots.{vote_at, ballots_of}
use Rattle.rules.proofs.Rows.{get-tabulate, get-tabulate-out}
use Rattle.theorem_formed.proofs.Formed.{FormedRow, rule_one_formed}
use Rattle.frames.specs.Written.{heartbeat_frame, vote_frame}
use Rattle.bus_units.specs.Units.{Bus, heartbeat_sent, vote_cast, vote_framed, vote_sent}
use Rattle.bus_units.specs.Faulty.{present, bus_of}
use Rattle.bus_units.specs.Carried.{Carries}
use Rattle.bus_units.specs.Run.{padded, in_slots, heartbeats_shown, votes_shown}
use Rattle.bus_units.proofs.Shown.{Short, fewer_short, length_slots, beats-short, ballots-short}
use Rattle.bus_units.proofs.Follow.{cast_is}
use Rattle.bus_units.proofs.Delivered.{delivers-carries, bus_delivers}
use Rattle.cluster_states.specs.declared.Roles.{Roles}
use Rattle.cluster_states.specs.declared.States.{States}
use Rattle.cluster_states.specs.States.{group_at, row_of}
use Rattle.cluster_states.specs.Decided.{roles_after, view_at}
use Rattle.cluster_states.proofs.Whole.{roles, by_role, after-at, voting, sent}
use Rattle.bus_channels.specs.Channels.{with_frame, with_sent, channel_of, heartbeat_put, vote_put}

-- ---- lists of one value

replicate-add : (a b : ℕ) → replicate {A = ℕ} (a + b) 0 ≡ replicate a 0 ++ replicate b 0
replicate-add zero b = ap (λ (k : ℕ). replicate {A = ℕ} k 0) (zero-add b)
replicate-add (suc a) b = ap (λ (k : ℕ). replicate {A = ℕ} k 0) (suc-add a b) ∙ ap (λ (l : List ℕ). 0 ∷ l) (replicate-add a b)

drop-replicate : (k m : ℕ) → k ≤ m → drop k (replicate {A = ℕ} m 0) ≡ replicate (m - k) 0
drop-replicate k m h =
    let e : m ≡ k + (m - k) = omega arith in
    ap (λ (j : ℕ). drop k (replicate {A = ℕ} j 0)) e ∙ ap (drop k) (replicate-add k (m - k)) ∙ drop_at (replicate k 0) (replicate (m - k) 0) k (length-replicate {A = ℕ} k 0)

-- ---- a channel on which n nodes have sent is their slots, and zeros

-- one more frame, at the end of the slots that are filled
put_next : (s x : List ℕ) (n m : ℕ) → length s ≡ 36 * n → length x ≤ 36 → 36 ≤ m
    → with_frame n x (s ++ replicate m 0) ≡ (s ++ (x ++ replicate (36 - length x) 0)) ++ replicate (m - 36) 0
unfolding with_part
put_next s x n m l k h =
    let a : take (36 * n) (s ++ replicate m 0) ≡ s = take_at s (replicate m 0) (36 * n) l in
    let b : drop (36 * n + length x) (s ++ replicate m 0) ≡ replicate (m - length x) 0 =
    ap (λ (j : ℕ). drop (j + length x) (s ++ replicate m 0)) (sym l) ∙ drop-append-add s (replicate m 0) (length x) ∙ drop-replicate (length x) m (omega arith) in
    let c : m - length x ≡ (36 - length x) + (m - 36) = omega arith in
    ap₂ (λ (u v : List ℕ). u ++ (x ++ v)) a (b ∙ ap (λ (j : ℕ). replicate {A = ℕ} j 0) c ∙ replicate-add (36 - length x) (m - 36))
    ∙ simp append_assoc

channel_slots : (n : ℕ) (sent : ℕ → Option (List ℕ)) → n ≤ 64 → Short n sent → channel_of n sent ≡ in_slots n sent ++ replicate (36 * (64 - n)) 0
unfolding channel_of in_slots
channel_slots zero sent l s = refl
channel_slots (suc n) sent l s =
    ap (with_sent n (sent n)) (channel_slots n sent (omega arith) (fewer_short n sent s)) ∙ go (sent n) (s n (omega arith))
    ∙ ap (λ (j : ℕ). (in_slots n sent ++ padded (sent n)) ++ replicate {A = ℕ} j 0) (let e : 36 * (64 - n) - 36 ≡ 36 * (64 - suc n) = omega arith in e)
  where
    go : (o : Option (List ℕ)) → length (present o) ≤ 36
        → with_sent n o (in_slots n sent ++ replicate (36 * (64 - n)) 0) ≡ (in_slots n sent ++ padded o) ++ replicate (36 * (64 - n) - 36) 0
    go none k =
        let e : 36 * (64 - n) ≡ 36 + (36 * (64 - n) - 36) = omega arith in
        ap (λ (j : ℕ). in_slots n sent ++ replicate {A = ℕ} j 0) e ∙ ap (λ (v : List ℕ). in_slots n sent ++ v) (replicate-add 36 (36 * (64 - n) - 36)) ∙ sym (append_assoc (in_slots n sent) (replicate 36 0) (replicate (36 * (64 - n) - 36) 0))
    go (some x) k = put_next (in_slots n sent) x n (36 * (64 - n)) (length_slots n sent (fewer_short n sent s)) k (omega arith)

-- slots of nodes that send nothing
slots_none : (n k : ℕ) (sent : ℕ → Option (List ℕ)) → ((q : ℕ) → n ≤ q → sent q ≡ none) → in_slots (n + k) sent ≡ in_slots n sent ++ replicate (36 * k) 0
unfolding in_slots
slots_none n zero sent e = ap (λ (j : ℕ). in_slots j sent) (add-zero n) ∙ sym (append-nil (in_slots n sent))
slots_none n (suc k) sent e =
    let f : 36 * suc k ≡ 36 * k + 36 = omega arith in
    let g : n ≤ n + k = omega arith in
    ap (λ (j : ℕ). in_slots j sent) (add-suc n k) ∙ ap₂ (λ (u : List ℕ) (o : Option (List ℕ)). u ++ padded o) (slots_none n k sent e) (e (n + k) g)
    ∙ append_assoc (in_slots n sent) (replicate (36 * k) 0) (replicate 36 0)
    ∙ ap (λ (u : List ℕ). in_slots n sent ++ u) (sym (ap (λ (j : ℕ). replicate {A = ℕ} j 0) f ∙ replicate-add (36 * k) 36))

slots_ext : (n : ℕ) (a b : ℕ → Option (List ℕ)) → ((q : ℕ) → q < n → a q ≡ b q) → in_slots n a ≡ in_slots n b
unfolding in_slots
slots_ext zero a b e = refl
slots_ext (suc n) a b e = ap₂ (λ (u : List ℕ) (o : Option (List ℕ)). u ++ padded o) (slots_ext n a b (λ q l. e q (omega arith))) (e n (omega arith))

-- all 64 slots
channel_shown : (n : ℕ) (sent shown : ℕ → Option (List ℕ)) → n ≤ 64 → Short 64 shown → ((q : ℕ) → q < n → sent q ≡ shown q) → ((q : ℕ) → n ≤ q → shown q ≡ none)
    → channel_of n sent ≡ in_slots 64 shown
channel_shown n sent shown l s e o =
    let k : 64 ≡ n + (64 - n) = omega arith in
    let fits : Short n sent = λ q h. subst (λ (x : Option (List ℕ)). length (present x) ≤ 36) (sym (e q h)) (s q (omega arith)) in
    channel_slots n sent l fits ∙ ap (λ (u : List ℕ). u ++ replicate (36 * (64 - n)) 0) (slots_ext n sent shown e) ∙ sym (slots_none n (64 - n) shown o)
    ∙ ap (λ (j : ℕ). in_slots j shown) (sym k)

-- ---- heartbeats and votes of masks and arrays are those of the row that they stand for

-- what stands past the last node is out
past_out : (n : ℕ) (f : Faults) (row : Row) (q : ℕ) → n ≤ q → at (rule_one n f row) q ≡ stopped
unfolding rule_one
past_out n f row q l = get-tabulate-out n q (λ x. stop_and_start (has x f.stop) (has x f.start) (at row x)) stopped l

module _ (C : Config) (s : States) (f : Faults) (count channel : ℕ) (few : C.nodes ≤ 64) where
  abbrev n : ℕ
  n = C.nodes

  abbrev r : Row
  r = rule_one n f (row_of n s)

  abbrev w : Roles
  w = roles C s f

  -- the frames of a node that is a member or joining, and whether it requests
  abbrev frame_of : ℕ → Bool → Bool → Bool → Option (List ℕ)
  frame_of q m j k = cond m (some (heartbeat_frame q 0 (cond k 1 0) 0 0 count channel [])) (cond j (some (heartbeat_frame q 1 0 0 0 count channel [])) none)

  heartbeat-put : (q : ℕ) → q < n → heartbeat_put w count channel q ≡ heartbeat_sent 0 0 [] count q (at r q) channel
  unfolding roles_after
  heartbeat-put q l = sym (ap (λ (t : State). heartbeat_sent 0 0 [] count q t channel) (after-at C s f q l) ∙ go (has q w.members) (has q w.joining) (has q w.no_quorum) (has q w.outvoted) (has q s.roles.asking))
    where
      go : (m j u v a : Bool) → heartbeat_sent 0 0 [] count q (by_role m j u v (group_at s q) a) channel ≡ frame_of q m j a
      go true j u v a = refl
      go false true u v a = refl
      go false false true v a = refl
      go false false false true a = refl
      go false false false false a = refl

  pub heartbeats-shown : channel_of n (heartbeat_put w count channel) ≡ heartbeats_shown C count f (row_of n s) channel
  unfolding heartbeats_shown
  heartbeats-shown =
      channel_shown n (heartbeat_put w count channel) (λ q. heartbeat_sent 0 0 [] count q (at r q) channel) few
      (beats-short C count f (row_of n s) channel) heartbeat-put (λ q l. ap (λ (t : State). heartbeat_sent 0 0 [] count q t channel) (past_out n f (row_of n s) q l))

  module _ (counted : count < 64) (formed : FormedRow C (row_of n s)) (views : List ℕ)
      (seen : (p : ℕ) → p < n → get_or views p 0 ≡ view_at n s.groups.sets (w.members ∖ f.heartbeat_lost) (w.joining ∖ f.heartbeat_lost) f.heartbeat_missed p) where
    abbrev bus : Bus
    bus = bus_of C count f (row_of n s)

    carried : Carries C count bus f r
    carried = delivers-carries C count few counted bus f r (rule_one_formed C f (row_of n s) formed) (bus_delivers C count f (row_of n s))

    -- what each casts by the masks of those that vote
    cast : (q : ℕ) → q < n → vote_cast C count bus.heartbeats q (at r q) ≡ ballots_of s.groups.numbers s.groups.sets s.groups.bases views (voting C s f views seen) q
    unfolding votes
    cast q l = cast_is C count bus f r carried q (at r q) l refl ∙ sym (get-tabulate n q (λ x. vote_of C f r x (at r x)) none l) ∙ sent C s f views seen q

    vote-put : (q : ℕ) → q < n → vote_put s.groups.numbers s.groups.sets s.groups.bases views (voting C s f views seen) count channel q ≡ vote_sent C count bus.heartbeats q (at r q) channel
    unfolding ballots_of
    vote-put q l = sym (ap (λ (o : Option Vote). vote_framed count q o channel) (cast q l) ∙ go (has q (voting C s f views seen)) (vote_at s.groups.numbers s.groups.sets s.groups.bases views q))
      where
        go : (b : Bool) (v : Vote) → vote_framed count q (cond b (some v) none) channel ≡ cond b (some (vote_frame q v count channel)) none
        go true v = refl
        go false v = refl

    pub votes-shown : channel_of n (vote_put s.groups.numbers s.groups.sets s.groups.bases views (voting C s f views seen) count channel) ≡ votes_shown C count f (row_of n s) channel
    unfolding votes_shown
    votes-shown =
        channel_shown n (vote_put s.groups.numbers s.groups.sets s.groups.bases views (voting C s f views seen) count channel) (λ q. vote_sent C count bus.heartbeats q (at r q) channel) few
        (ballots-short C count f (row_of n s) channel) vote-put (λ q l. ap (λ (t : State). vote_sent C count bus.heartbeats q t channel) (past_out n f (row_of n s) q l))
