-- `entry_receive_vote::receive` meets its contract, by what the two copies give. Assumes nothing.
use mathlib.Core.Path.{◌≡◌, refl, sym, ap, ap₂, ◌∙◌}
use mathlib.Core.Bool.{Bool, true, false, ◌||◌}
use mathlib.Core.List.{List, [], ◌∷◌}
use Prim.Native.Nat.{ℕ}
use native.Mathlib.Omega.{arith}
use lib.ListN.{length}
use Rattle.sets.specs.Sets.{single, ◌∪◌, ◌∖◌}
use Rattle.std.specs.Prelude.{Option, None, Some, Result}
use Rattle.rules.specs.declared.Vote.{Vote}
use Rattle.frames.specs.declared.Fault.{Fault}
use Rattle.frames.specs.Written.{vote_payload}
use Rattle.frames.specs.Read.{read_vote, receive_vote}
use Rattle.refusal.specs.Refusal.{when, first}
use Rattle.entry_lent.specs.Refusals.{wrong_count, wrong_node, wrong_cycle, wrong_length}
use Rattle.entry_receive_vote.specs.Arrivals.{slot_or, arrived_or, received_vote, receive_vote_status, receive_vote_left, receive_vote_arrived}
use Rattle.entry_slots.specs.Slots.{with_slot}
use Rattle.refusal.proofs.Laws.{unless-done, unless-refused}
use Rattle.frames.proofs.Lengths.{length_payload}
use Rattle.refusal.proofs.Codes.{numbered, exit_status}
use Rattle.entry_write_vote.proofs.Accepted.{slot_status, accepted, small}
use Rattle.entry_receive_vote.proofs.receive.Goals as goal

got : (n q cycle : ℕ) (a b : List ℕ) {x y : Result Vote Fault} {d : Option Vote} → x ≡ read_vote n q cycle 0 a → y ≡ read_vote n q cycle 1 b → d ≡ receive_vote x y
    → received_vote n q cycle a b ≡ d
got n q cycle a b e f g = sym (g ∙ ap₂ receive_vote e f)

-- channel 0 is never refused
no-channel : (n q cycle : ℕ) (votes : List ℕ) → slot_status n q cycle 0 (length votes) 1792 ≡ receive_vote_status n q cycle votes
unfolding receive_vote_status
no-channel n q cycle votes =
    ap (λ (x : Bool). first (when (wrong_count n) 1 ∷ when x 2 ∷ when (wrong_length 1792 votes) 3 ∷ [])) (or-false (wrong_node n q || wrong_cycle cycle))
  where
    or-false : (b : Bool) → (b || false) ≡ b
    or-false true = refl
    or-false false = refl

module _ (n q cycle : ℕ) (a b votes : List ℕ) (arrived : ℕ) where
  refused : {r : ℕ} → r ≡ slot_status n q cycle 0 (length votes) 1792 → (r ≡ 0 → ⊥)
      → (r ≡ receive_vote_status n q cycle votes) × ((votes ≡ receive_vote_left n q cycle a b votes) × (arrived ≡ receive_vote_arrived n q cycle a b votes arrived))
  unfolding receive_vote_left receive_vote_arrived
  refused e h =
      let k = e ∙ no-channel n q cycle votes in
      (k, (sym (unless-refused _ _ _ (λ z. h (k ∙ z))), sym (unless-refused _ _ _ (λ z. h (k ∙ z)))))

  module _ (z : slot_status n q cycle 0 (length votes) 1792 ≡ 0) where
    -- what is left is by what was received
    received : (d : Option Vote) → received_vote n q cycle a b ≡ d
        → (0 ≡ receive_vote_status n q cycle votes) × (slot_or d q votes ≡ receive_vote_left n q cycle a b votes) × (arrived_or d q arrived ≡ receive_vote_arrived n q cycle a b votes arrived)
    unfolding receive_vote_left receive_vote_arrived
    received d e =
        let k = sym (no-channel n q cycle votes) ∙ z in (
          sym k,
          sym (unless-done _ _ _ k ∙ ap (λ (x : Option Vote). slot_or x q votes) e),
          sym (unless-done _ _ _ k ∙ ap (λ (x : Option Vote). arrived_or x q arrived) e),
        )

    missed : {sender left : ℕ} → received_vote n q cycle a b ≡ None → sender ≡ single q → left ≡ arrived ∖ sender
        → (0 ≡ receive_vote_status n q cycle votes) × ((votes ≡ receive_vote_left n q cycle a b votes) × (left ≡ receive_vote_arrived n q cycle a b votes arrived))
    missed e s l = let r = received None e in (r.0, (r.1, l ∙ ap (λ (x : ℕ). arrived ∖ x) s ∙ r.2))

    whole : (v : Vote) (payload : List ℕ) {left : List ℕ} {sender mask : ℕ} → received_vote n q cycle a b ≡ Some v → payload ≡ vote_payload v
        → left ≡ with_slot q payload votes → sender ≡ single q → mask ≡ sender ∪ arrived
        → (0 ≡ receive_vote_status n q cycle votes) × ((left ≡ receive_vote_left n q cycle a b votes) × (mask ≡ receive_vote_arrived n q cycle a b votes arrived))
    whole v payload e p l s m =
        let r = received (Some v) e in
        (r.0, (l ∙ ap (λ (x : List ℕ). with_slot q x votes) p ∙ r.1, m ∙ ap (λ (x : ℕ). x ∪ arrived) s ∙ r.2))

pub returns-in_err-check_call : goal.returns-in_err-check_call
returns-in_err-check_call c =
    let a = c.args in
    let told = refused a.n a.node a.cycle a.a.now a.b.now a.votes.now _ c.in_err-check_call.ensures (numbered _) in
    record { value = exit_status _ _ c.from_residual.ensures.1 ∙ told.0; votes_after = told.1.0; arrived_after = told.1.1 }

pub read_vote-one-requires : goal.read_vote-one-requires
read_vote-one-requires c =
    let r = accepted c.args.n c.args.node c.args.cycle 0 (length c.args.votes.now) 1792 [] (sym c.in_ok-check_call.ensures) in
    record { n_bound = r.count; q_lt_n = r.node }

pub read_vote-other-requires : goal.read_vote-other-requires
read_vote-other-requires c =
    let r = accepted c.args.n c.args.node c.args.cycle 0 (length c.args.votes.now) 1792 [] (sym c.in_ok-check_call.ensures) in
    record { n_bound = r.count; q_lt_n = r.node }

pub single-sender-requires : goal.single-sender-requires
single-sender-requires c = small (accepted c.args.n c.args.node c.args.cycle 0 (length c.args.votes.now) 1792 [] (sym c.in_ok-check_call.ensures))

pub overflow_mul-node : goal.overflow_mul-node
overflow_mul-node c = let h = small (accepted c.args.n c.args.node c.args.cycle 0 (length c.args.votes.now) 1792 [] (sym c.in_ok-check_call.ensures)) in omega arith

pub put-requires : goal.put-requires
put-requires c =
    let r = accepted c.args.n c.args.node c.args.cycle 0 (length c.args.votes.now) 1792 [] (sym c.in_ok-check_call.ensures) in
    let h = small r in
    let l = r.sized in
    let k : length c.vote_payload.result ≡ 28 = ap length c.vote_payload.ensures ∙ length_payload _ in
    omega arith

pub returns-in-None : goal.returns-in-None
returns-in-None c =
    let a = c.args in
    let copies = got _ _ _ _ _ c.read_vote-one.ensures c.read_vote-other.ensures c.receive_vote.ensures in
    let told = missed a.n a.node a.cycle a.a.now a.b.now a.votes.now _ (sym c.in_ok-check_call.ensures) (copies ∙ c.in-None.is) c.single-sender.ensures c.difference.ensures in
    record { value = told.0; votes_after = told.1.0; arrived_after = told.1.1 }

pub returns-in-Some : goal.returns-in-Some
returns-in-Some c =
    let a = c.args in
    let copies = got _ _ _ _ _ c.read_vote-one.ensures c.read_vote-other.ensures c.receive_vote.ensures in
    let told = whole a.n a.node a.cycle a.a.now a.b.now a.votes.now _ (sym c.in_ok-check_call.ensures) _ _ (copies ∙ c.in-Some.is) c.vote_payload.ensures c.put.ensures c.single-sender.ensures c.union.ensures in
    record { value = told.0; votes_after = told.1.0; arrived_after = told.1.1 }
