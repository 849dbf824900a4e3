-- The vote buffer after the calls of `gm_receive_vote`: it holds exactly the ballots that were read. Assumes nothing.
use mathlib.Core.Path.{◌≡◌, refl, sym, ap, ap₂, ◌∙◌, subst, subst₂}
use mathlib.Core.Logic.{◌⊎◌, inl, inr}
use mathlib.Core.Bool.{Bool, true, false, not, ◌&&◌, ◌||◌, cond, and-true, and-false}
use mathlib.Core.List.{List, ◌∷◌}
use mathlib.Core.Option.{Option, none, some}
use Prim.Native.Nat.{ℕ, ◌+◌, ◌*◌, ◌^◌, ◌≤◌, ◌<◌}
use native.Mathlib.Omega.{arith}
use lib.Dec.{eqb, ltb}
use lib.ListN.{length}
use borrow.Author.Tests.{eqb-false, leb-false}
use Rattle.std.specs.Prelude as std
use Rattle.sets.specs.Sets.{has, single}
use Rattle.sets.proofs.Booleans.{bool, eqb_self, eqb-true, ltb-lt, or_f_l}
use Rattle.sets.proofs.Membership.{has_union, has_diff, has-single}
use Rattle.sets.proofs.Nodes.{has-those}
use Rattle.refusal.proofs.Laws.{none as passed, unless-done}
use Rattle.rules.specs.declared.Vote.{Vote}
use Rattle.rules.specs.OneCycle.{same_vote}
use Rattle.frames.specs.declared.Fault.{Fault}
use Rattle.frames.specs.declared.Fault.TheVariants.{Content}
use Rattle.frames.specs.Written.{vote_payload, formed_vote}
use Rattle.frames.specs.Read.{payload_vote, vote_unless, read_vote, receive_vote}
use Rattle.frames.proofs.Lengths.{length_payload}
use Rattle.bus_units.specs.Units.{Copies, vote_got, received, unit_ballots}
use Rattle.frames.proofs.Faults.{no_vote, vote_fault, vote-read}
use Rattle.entry_lent.specs.Refusals.{wrong_count, wrong_node, wrong_cycle, wrong_length}
use Rattle.entry_lent.proofs.Bounds.{count_bounds, length-is}
use Rattle.entry_slots.specs.Slots.{slot_vote, arrived_in, buffer_ballots}
use Rattle.entry_receive_vote.specs.Arrivals.{receive_vote_status, slot_or, arrived_or, received_vote, receive_vote_left, receive_vote_arrived}
use Rattle.theorem_unit_calls.specs.Entries.{Entries, Within, by_definition}
use Rattle.theorem_unit_calls.specs.Cycle.{In, Silent, Collected, none as no_call, one_more}
use Rattle.entry_slots.proofs.Back.{slot_back, slot_kept}

-- ---- a vote that is received is formed

refused_whole : (f : Fault) (v : Vote) → std.Err f ≡ std.Ok v → ⊥
refused_whole f v e = let z : ◌≡◌ {A = ℕ} 0 1 = cc in omega arith

missed_whole : (v : Vote) → std.None ≡ std.Some v → ⊥
missed_whole v e = let z : ◌≡◌ {A = ℕ} 0 1 = cc in omega arith

read_formed : (n p count channel : ℕ) (s : List ℕ) (v : Vote) → read_vote n p count channel s ≡ std.Ok v → formed_vote n p v ≡ true
read_formed n p count channel s v e = go (vote_fault p count channel s) (sym (vote-read p count channel s n (vote_fault p count channel s) refl) ∙ e)
  where
    at-content : (w : Vote) (b : Bool) → formed_vote n p w ≡ b → cond b (std.Ok w) (std.Err Content) ≡ std.Ok v → formed_vote n p v ≡ true
    at-content w true f k = let z : w ≡ v = cc in ap (formed_vote n p) (sym z) ∙ f
    at-content w false f k = absurd (refused_whole Content v k)

    go : (o : std.Option Fault) → vote_unless o n p s ≡ std.Ok v → formed_vote n p v ≡ true
    go std.None k = at-content (payload_vote s) (formed_vote n p (payload_vote s)) refl k
    go (std.Some f) k = absurd (refused_whole f v k)

received-formed : (n p count : ℕ) (a b : List ℕ) (v : Vote) → received_vote n p count a b ≡ std.Some v → formed_vote n p v ≡ true
received-formed n p count a b v e = go (read_vote n p count 0 a) (read_vote n p count 1 b) refl refl e
  where
    same : (x y : Vote) (t : Bool) → cond t (std.Some x) std.None ≡ std.Some y → x ≡ y
    same x y true k = cc
    same x y false k = absurd (missed_whole y k)

    go : (x y : std.Result Vote Fault) → read_vote n p count 0 a ≡ x → read_vote n p count 1 b ≡ y → receive_vote x y ≡ std.Some v → formed_vote n p v ≡ true
    go (std.Ok x) (std.Ok y) f g k = read_formed n p count 0 a v (f ∙ ap (λ (u : Vote). std.Ok u) (same x v (same_vote x y) k))
    go (std.Ok x) (std.Err y) f g k = read_formed n p count 0 a v (f ∙ ap (λ (u : Vote). std.Ok u) (same x v true k))
    go (std.Err x) (std.Ok y) f g k = read_formed n p count 1 b v (g ∙ ap (λ (u : Vote). std.Ok u) (same y v true k))
    go (std.Err x) (std.Err y) f g k = absurd (missed_whole v k)

-- ---- an accepted call

record Accepted (n p : ℕ) (s : List ℕ) : Type 0 where
  few : n ≤ 64
  node : p < n
  sized : length s ≡ 1792

accepted : (n p count : ℕ) (s : List ℕ) → 0 ≡ receive_vote_status n p count s → Accepted n p s
unfolding receive_vote_status
accepted n p count s e =
    let a = passed (wrong_count n) 1 _ refl (sym e) in
    let b = passed (wrong_node n p || wrong_cycle count) 2 _ refl a.1 in
    let d = passed (wrong_length 1792 s) 3 _ refl b.1 in
    record {
      few = (count_bounds n a.0).1;
      node = leb-false n p (or_f_l (wrong_node n p) (wrong_cycle count) b.0);
      sized = length-is 1792 s d.0;
    }

room : (n p : ℕ) (s : List ℕ) → Accepted n p s → 28 * p + 28 ≤ length s
room n p s h =
    let l = h.sized in
    let f = h.few in
    let q = h.node in
    omega arith

abbrev pub is_whole : std.Option Vote → Bool
is_whole std.None = false
is_whole (std.Some v) = true

-- slot and bit of p hold what was received of it
pub record Held (s : List ℕ) (m : ℕ) (p : ℕ) (r : std.Option Vote) : Type 0 where
  pub bit : has p m ≡ is_whole r
  pub slot : (v : Vote) → r ≡ std.Some v → slot_vote s p ≡ v

left-votes : (n p count : ℕ) (a b s : List ℕ) → 0 ≡ receive_vote_status n p count s → receive_vote_left n p count a b s ≡ slot_or (received_vote n p count a b) p s
unfolding receive_vote_left
left-votes n p count a b s e = unless-done (receive_vote_status n p count s) (slot_or (received_vote n p count a b) p s) s (sym e)

left_arrived : (n p count : ℕ) (a b s : List ℕ) (m : ℕ) → 0 ≡ receive_vote_status n p count s → receive_vote_arrived n p count a b s m ≡ arrived_or (received_vote n p count a b) p m
unfolding receive_vote_arrived
left_arrived n p count a b s m e = unless-done (receive_vote_status n p count s) (arrived_or (received_vote n p count a b) p m) m (sym e)

-- the call for p itself
put : (n p count : ℕ) (a b s : List ℕ) (m : ℕ) → Accepted n p s → ((v : Vote) → received_vote n p count a b ≡ std.Some v → v.group.number < 2 ^ 32)
    → (r : std.Option Vote) → received_vote n p count a b ≡ r → Held (slot_or r p s) (arrived_or r p m) p r
put n p count a b s m h small std.None e =
    record {
      bit = has_diff p m (single p) ∙ ap (λ (x : Bool). has p m && not x) (has-single p p ∙ eqb_self p) ∙ and-false (has p m);
      slot = λ v k. absurd (missed_whole v k);
    }
put n p count a b s m h small (std.Some w) e =
    record {
      bit = has_union p (single p) m ∙ ap (λ (x : Bool). x || has p m) (has-single p p ∙ eqb_self p);
      slot = λ v k. slot_back n p w s h.few (room n p s h) (small w e) (received-formed n p count a b w e) ∙ same v k;
    }
  where
    same : (v : Vote) → std.Some w ≡ std.Some v → w ≡ v
    same v k = cc

-- the call for another
kept : (n p : ℕ) (s : List ℕ) (m j : ℕ) (r o : std.Option Vote) → Accepted n p s → eqb j p ≡ false → Held s m j o → Held (slot_or r p s) (arrived_or r p m) j o
kept n p s m j std.None o h e k =
    record {
      bit = has_diff j m (single p) ∙ ap (λ (x : Bool). has j m && not x) (has-single j p ∙ e) ∙ and-true (has j m) ∙ k.bit;
      slot = k.slot;
    }
kept n p s m j (std.Some w) o h e k =
    record {
      bit = has_union j (single p) m ∙ ap (λ (x : Bool). x || has j m) (has-single j p ∙ e) ∙ k.bit;
      slot = λ v f. slot_kept p (vote_payload w) s (length_payload w) (room n p s h) j (eqb-false j p e) ∙ k.slot v f;
    }

module _ (E : Entries) (told : Within E by_definition) (n count : ℕ) (copies : ℕ → ℕ → List ℕ) where
  abbrev got : ℕ → std.Option Vote
  got p = received_vote n p count (copies p 0) (copies p 1)

  -- after calls for some senders: the slot of j holds what was received of it if there was a call for j, or if it did before
  pub collected : {ps s u : List ℕ} {m l : ℕ} (j : ℕ) → ((v : Vote) → got j ≡ std.Some v → v.group.number < 2 ^ 32)
      → Collected E n count copies ps s m u l → In j ps ⊎ Held s m j (got j) → Held u l j (got j)
  collected j small no_call (inl i) = absurd i
  collected j small no_call (inr k) = k
  collected j small (one_more {ps} {s} {t} {u} {m} {k} {l} p call rest) w = collected j small rest (step (bool (eqb j p)) w)
    where
      c : (0 ≡ receive_vote_status n p count s) × (t ≡ receive_vote_left n p count (copies p 0) (copies p 1) s) × (k ≡ receive_vote_arrived n p count (copies p 0) (copies p 1) s m)
      c = (told.receive_vote n p count (copies p 0) (copies p 1) s m t k call).lower

      h : Accepted n p s
      h = accepted n p count s c.0

      here : j ≡ p → Accepted n j s
      here e = subst (λ (x : ℕ). Accepted n x s) (sym e) h

      left : Held (slot_or (got p) p s) (arrived_or (got p) p m) j (got j) → Held t k j (got j)
      left x =
          let a : t ≡ slot_or (got p) p s = c.1 ∙ left-votes n p count (copies p 0) (copies p 1) s c.0 in
          let b : k ≡ arrived_or (got p) p m = c.2 ∙ left_arrived n p count (copies p 0) (copies p 1) s m c.0 in
          subst₂ (λ (y : List ℕ) (z : ℕ). Held y z j (got j)) (sym a) (sym b) x

      step : (eqb j p ≡ true) ⊎ (eqb j p ≡ false) → In j (p ∷ ps) ⊎ Held s m j (got j) → In j ps ⊎ Held t k j (got j)
      step (inl e) w = inr (left (subst (λ (x : ℕ). Held (slot_or (got x) x s) (arrived_or (got x) x m) j (got j)) (eqb-true e) (put n j count (copies j 0) (copies j 1) s m (here (eqb-true e)) small (got j) refl)))
      step (inr e) (inl (inl i)) = absurd (eqb-false j p e i)
      step (inr e) (inl (inr i)) = inl i
      step (inr e) (inr x) = inr (left (kept n p s m j (got p) (got j) h e x))

-- nothing came of the vote of p, and its bit is clear
pub silent : (n p count : ℕ) (copies : ℕ → List ℕ) (s : List ℕ) (m : ℕ) → Silent copies → has p m ≡ false → Held s m p (received_vote n p count (copies 0) (copies 1))
silent n p count copies s m w e = subst (λ (r : std.Option Vote). Held s m p r) (sym missed) (record { bit = e; slot = λ v k. absurd (missed_whole v k) })
  where
    missed : received_vote n p count (copies 0) (copies 1) ≡ std.None
    missed =
        ap₂ (λ (x y : List ℕ). received_vote n p count x y) w.0 w.1
        ∙ ap₂ receive_vote (no_vote n p count 0) (no_vote n p count 1)

-- ---- the ballots of the buffer are those that were read

pub ballots_held : (n q count : ℕ) (v : Copies) (s : List ℕ) (m : ℕ) → ((p : ℕ) → p < n → eqb p q ≡ false → Held s m p (vote_got n count v q p))
    → buffer_ballots n q s m ≡ unit_ballots n count v q
unfolding buffer_ballots arrived_in unit_ballots
ballots_held n q count v s m held = λ i p. each p i
  where
    nothing : (t : Bool) (x y : Option Vote) → t ≡ false → cond t x y ≡ y
    nothing t x y e = rw e

    within : (p : ℕ) (r : std.Option Vote) → vote_got n count v q p ≡ r → Held s m p r → cond (has p m && formed_vote n p (slot_vote s p)) (some (slot_vote s p)) none ≡ received r
    within p std.None e h = ap (λ (t : Bool). cond (t && formed_vote n p (slot_vote s p)) (some (slot_vote s p)) none) h.bit
    within p (std.Some w) e h =
        ap₂ (λ (t : Bool) (x : Vote). cond (t && formed_vote n p x) (some x) none) h.bit (h.slot w refl)
        ∙ ap (λ (t : Bool). cond t (some w) none) (received-formed n p count (v p q 0) (v p q 1) w e)

    go : (p : ℕ) (low own : Bool) → ltb p n ≡ low → eqb p q ≡ own
        → cond (low && ((not own && has p m) && formed_vote n p (slot_vote s p))) (some (slot_vote s p)) none ≡ cond (low && not own) (received (vote_got n count v q p)) none
    go p false own a b = refl
    go p true true a b = refl
    go p true false a b = within p (vote_got n count v q p) refl (held p (ltb-lt a) b)

    each : (p : ℕ) → ◌≡◌ {A = Option Vote} (cond (has p (arrived_in n q s m)) (some (slot_vote s p)) none) (cond (ltb p n && not (eqb p q)) (received (vote_got n count v q p)) none)
    each p =
        ap (λ (t : Bool). cond t (some (slot_vote s p)) none) (has-those p n (λ x. not (eqb x q) && has x m && formed_vote n x (slot_vote s x)))
        ∙ go p (ltb p n) (eqb p q) refl refl
