-- Votes run through frames: what a unit reads is what was cast, as far as it reaches it. Assumes nothing.
use mathlib.Core.Path.{◌≡◌, refl, sym, ap, ap₂, ◌∙◌}
use mathlib.Core.Bool.{Bool, true, false, not, cond}
use mathlib.Core.List.{List}
use mathlib.Core.Option.{Option, none, some}
use Prim.Native.Nat.{ℕ, ◌*◌, ◌^◌, ◌≤◌, ◌<◌}
use native.Mathlib.Omega.{arith}
use lib.Dec.{ltb}
use lib.ListN.{length, take, drop, get_or}
use Rattle.std.specs.Prelude as std
use Rattle.sets.specs.Sets.{has, ◌∖◌}
use Rattle.sets.proofs.Booleans.{and_l, ltb-true}
use Rattle.sets.proofs.Membership.{has_diff}
use Rattle.rules.specs.declared.Config.{Config}
use Rattle.rules.specs.declared.Vote.{Vote}
use Rattle.rules.specs.OneCycle.{Ballots, member_decides, silent_decides, joiner_decides}
use Rattle.rules.specs.Ballots.{group_at, vote_at, ballots_of}
use Rattle.rules.proofs.Votes.{vote_self}
use Rattle.frames.specs.declared.Fault.TheVariants.{Length}
use Rattle.frames.specs.Written.{vote_frame, formed_vote}
use Rattle.frames.specs.Read.{read_vote, receive_vote}
use Rattle.frames.proofs.Faults.{no_vote}
use Rattle.frames.proofs.Lengths.{length-vote}
use Rattle.frames.proofs.RoundTrip.{vote_back}
use Rattle.cluster_states.specs.declared.Roles.{Roles}
use Rattle.cluster_states.specs.declared.States.{States}
use Rattle.cluster_states.specs.States.{state_at}
use Rattle.cluster_states.specs.Decided.{out_at, decided_at}
use Rattle.bus_units.specs.Units.{received}
use Rattle.bus_channels.specs.Channels.{channel_of, vote_put, copy_of, vote_read, ballots_read, decided_read}
use Rattle.bus_channels.proofs.Carried.{Carries, carries}

module _ (C : Config) (count voting : ℕ) (numbers sets bases views : List ℕ) (few : C.nodes ≤ 64) (counted : count < 64) where
  abbrev n : ℕ
  n = C.nodes

  -- what stands on a channel
  abbrev pub cast : ℕ → List ℕ
  cast channel = channel_of n (vote_put numbers sets bases views voting count channel)

  sent_is : (channel p : ℕ) (v : Vote) (m : Bool) (x : List ℕ) → cond m (some (vote_frame p v count channel)) none ≡ some x → length x ≡ 36
  sent_is channel p v true x e = let z : vote_frame p v count channel ≡ x = cc in ap (λ (s : List ℕ). length s) (sym z) ∙ length-vote p v count channel
  sent_is channel p v false x e = absurd (let z : ◌≡◌ {A = ℕ} 0 1 = cc in omega arith)

  pub carried : (channel : ℕ) → Carries n (vote_put numbers sets bases views voting count channel) (cast channel)
  carried channel = carries (vote_put numbers sets bases views voting count channel) (λ q x e. short x (sent_is channel q (vote_at numbers sets bases views q) (has q voting) x e)) n few
    where
      short : (x : List ℕ) → length x ≡ 36 → length x ≤ 36
      short x e = omega arith

  module _ (formed : (p : ℕ) → has p voting ≡ true → (p < n) × (get_or numbers p 0 < 2 ^ 32) × (formed_vote n p (vote_at numbers sets bases views p) ≡ true)) (reach : ℕ)
      (within : (p : ℕ) → has p reach ≡ true → has p voting ≡ true) where
    one-copy : (channel p : ℕ)
        → read_vote n p count channel (copy_of 36 reach p (cast channel)) ≡ cond (has p reach) (std.Ok (vote_at numbers sets bases views p)) (std.Err Length)
    one-copy channel p = go (has p reach) refl
      where
        v : Vote
        v = vote_at numbers sets bases views p

        x : List ℕ
        x = vote_frame p v count channel

        go : (r : Bool) → has p reach ≡ r → read_vote n p count channel (copy_of 36 reach p (cast channel)) ≡ cond r (std.Ok v) (std.Err Length)
        go false e = ap (λ (b : Bool). read_vote n p count channel (take (cond b 36 0) (drop (36 * p) (cast channel)))) e ∙ no_vote n p count channel
        go true e =
            let m = within p e in
            let f = formed p m in
            let sent : vote_put numbers sets bases views voting count channel p ≡ some x = rw m in
            ap (λ (b : Bool). read_vote n p count channel (take (cond b 36 0) (drop (36 * p) (cast channel)))) e
            ∙ ap (λ (k : ℕ). read_vote n p count channel (take k (drop (36 * p) (cast channel)))) (sym (length-vote p v count channel))
            ∙ ap (read_vote n p count channel) ((carried channel).there p x f.0 sent) ∙ vote_back n p v count channel few f.0 counted f.1 f.2

    both-copies : (p : ℕ) → vote_read n count reach (cast 0) (cast 1) p ≡ cond (has p reach) (std.Some (vote_at numbers sets bases views p)) std.None
    unfolding vote_read
    both-copies p = ap₂ receive_vote (one-copy 0 p) (one-copy 1 p) ∙ go (has p reach) (vote_at numbers sets bases views p)
      where
        go : (r : Bool) (v : Vote) → receive_vote (cond r (std.Ok v) (std.Err Length)) (cond r (std.Ok v) (std.Err Length)) ≡ cond r (std.Some v) std.None
        go true v = rw (vote_self v)
        go false v = refl

    -- the ballots by what is read are those by what was cast
    ballots-read : ballots_read n count reach (cast 0) (cast 1) ≡ ballots_of numbers sets bases views reach
    unfolding ballots_read ballots_of
    ballots-read = λ i p. each p i
      where
        got : (r : Bool) (v : Vote) → received (cond r (std.Some v) std.None) ≡ cond r (some v) none
        got true v = refl
        got false v = refl

        below : (p : ℕ) (r : Bool) → has p reach ≡ r → cond (ltb p n) (cond r (some (vote_at numbers sets bases views p)) none) none ≡ cond r (some (vote_at numbers sets bases views p)) none
        below p true e = rw (ltb-true (formed p (within p e)).0)
        below p false e = nothing (ltb p n)
          where
            nothing : (b : Bool) → ◌≡◌ {A = Option Vote} (cond b none none) none
            nothing true = refl
            nothing false = refl

        each : (p : ℕ) → ◌≡◌ {A = Option Vote} (cond (ltb p n) (received (vote_read n count reach (cast 0) (cast 1) p)) none) (cond (has p reach) (some (vote_at numbers sets bases views p)) none)
        each p =
            ap (λ (o : Option Vote). cond (ltb p n) o none) (ap received (both-copies p) ∙ got (has p reach) (vote_at numbers sets bases views p)) ∙ below p (has p reach) refl

    pub decided-read : (w : Roles) (q : ℕ) → decided_read numbers sets bases views C count w voting reach (cast 0) (cast 1) q ≡ decided_at numbers sets bases views C w voting reach q
    unfolding decided_read decided_at
    decided-read w q =
        ap (λ (b : Ballots).
        cond (has q voting) (member_decides C q (vote_at numbers sets bases views q) b)
        (cond (has q w.members) (silent_decides C q (group_at numbers sets bases q) b) (cond (has q w.joining) (joiner_decides C q b) (out_at w q))))
        ballots-read

-- the same from the values that the code has on its way: the channels a and b, and the nodes whose votes go out
pub states_read : (C : Config) (count voting lost sent : ℕ) (w : Roles) (numbers sets bases views missed a b : List ℕ) (r : States) → C.nodes ≤ 64 → count < 64
    → ((p : ℕ) → has p voting ≡ true → (p < C.nodes) × (get_or numbers p 0 < 2 ^ 32) × (formed_vote C.nodes p (vote_at numbers sets bases views p) ≡ true))
    → a ≡ channel_of C.nodes (vote_put numbers sets bases views voting count 0) → b ≡ channel_of C.nodes (vote_put numbers sets bases views voting count 1) → sent ≡ voting ∖ lost
    → ((q : ℕ) → q < C.nodes → state_at r q ≡ decided_read numbers sets bases views C count w voting (sent ∖ get_or missed q 0) a b q)
    → (q : ℕ) → q < C.nodes → state_at r q ≡ decided_at numbers sets bases views C w voting (voting ∖ lost ∖ get_or missed q 0) q
states_read C count voting lost sent w numbers sets bases views missed a b r few counted formed ea eb es made q h =
    made q h ∙ ap₂ (λ (x y : List ℕ). decided_read numbers sets bases views C count w voting (sent ∖ get_or missed q 0) x y q) ea eb
    ∙ ap (λ (x : ℕ). decided_read numbers sets bases views C count w voting (x ∖ get_or missed q 0) (channel 0) (channel 1) q) es
    ∙ decided-read C count voting numbers sets bases views few counted formed (voting ∖ lost ∖ get_or missed q 0) within w q
  where
    channel : ℕ → List ℕ
    channel k = channel_of C.nodes (vote_put numbers sets bases views voting count k)

    within : (p : ℕ) → has p (voting ∖ lost ∖ get_or missed q 0) ≡ true → has p voting ≡ true
    within p e =
        let k : has p (voting ∖ lost) ≡ true = and_l (has p (voting ∖ lost)) (not (has p (get_or missed q 0))) (sym (has_diff p (voting ∖ lost) (get_or missed q 0)) ∙ e) in
        and_l (has p voting) (not (has p lost)) (sym (has_diff p voting lost) ∙ k)
