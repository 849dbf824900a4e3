use mathlib.Core.Path.{◌≡◌, sym, ap, ◌∙◌}
use Rattle.parts.specs.Parts.{at_front}
use mathlib.Core.List.{List, []}
use Prim.Native.Nat.{ℕ}
use lib.ListN.{length}
use Rattle.std.specs.Prelude.{Result, Ok, Err}
use Rattle.rules.specs.declared.Vote.{Vote}
use Rattle.frames.specs.declared.Fault.{Fault}
use Rattle.frames.specs.Written.{vote_payload}
use Rattle.frames.specs.Read.{fault_code, read_vote}
use Rattle.frames.proofs.Lengths.{length_payload}
use Rattle.refusal.specs.Refusal.{unless}
use Rattle.entry_receive_vote.specs.Arrivals.{read_vote_numbers, vote_refusal, payload_or, read_vote_status, read_vote_left}
use Rattle.refusal.proofs.Laws.{unless-done, unless-refused}
use Rattle.refusal.proofs.Codes.{numbered, exit_status}
use Rattle.frames.proofs.Refused.{code-refused}
use Rattle.entry_write_vote.proofs.Accepted.{slot_status, accepted}
use Rattle.parts.proofs.Copies.{copied}
use native.Mathlib.Omega.{arith}
use Rattle.entry_receive_vote.proofs.read.Goals as goal

module _ (n q cycle channel : ℕ) (f out : List ℕ) where
  refused : {r : ℕ} → r ≡ slot_status n q cycle channel (length out) 28 → (r ≡ 0 → ⊥)
      → (r ≡ read_vote_status n q cycle channel f out) × (out ≡ read_vote_left n q cycle channel f out)
  unfolding read_vote_status read_vote_left read_vote_numbers unless
  refused e h =
      let k = read_vote_numbers n q cycle channel out in
      let no : k ≡ 0 → ⊥ = λ z. h (e ∙ z) in
      (e ∙ sym (unless-refused k (vote_refusal (read_vote n q cycle channel f)) k no), sym (unless-refused k (payload_or (read_vote n q cycle channel f) out) out no))

  module _ (z : slot_status n q cycle channel (length out) 28 ≡ 0) where
    -- the status and the bytes left are those of what was read
    answered : (d : Result Vote Fault) → read_vote n q cycle channel f ≡ d
        → (read_vote_status n q cycle channel f out ≡ vote_refusal d) × (read_vote_left n q cycle channel f out ≡ payload_or d out)
    unfolding read_vote_status read_vote_left read_vote_numbers unless
    answered d e =
        let k = read_vote_numbers n q cycle channel out in (
          unless-done k (vote_refusal (read_vote n q cycle channel f)) k z ∙ ap vote_refusal e,
          unless-done k (payload_or (read_vote n q cycle channel f) out) out z ∙ ap (λ (x : Result Vote Fault). payload_or x out) e,
        )

    whole : (v : Vote) (a : List ℕ) {left : List ℕ} → read_vote n q cycle channel f ≡ Ok v → a ≡ vote_payload v
        → left ≡ at_front a out → (0 ≡ read_vote_status n q cycle channel f out) × (left ≡ read_vote_left n q cycle channel f out)
    whole v a e k l =
        let r = answered (Ok v) e in
        let sized : length out ≡ 28 = (accepted n q cycle channel (length out) 28 [] z).sized in
        (sym r.0, copied a out (ap length k ∙ length_payload v ∙ sym sized) l ∙ k ∙ sym r.1)

    faulty : (x : Fault) {r : ℕ} → read_vote n q cycle channel f ≡ Err x → r ≡ fault_code x
        → (r ≡ read_vote_status n q cycle channel f out) × (out ≡ read_vote_left n q cycle channel f out)
    faulty x e k = let r = answered (Err x) e in (k ∙ sym r.0, sym r.1)

pub returns-in_err-check_call : goal.returns-in_err-check_call
returns-in_err-check_call c =
    let a = c.args in
    let told = refused a.n a.node a.cycle a.channel a.frame.now a.vote.now c.in_err-check_call.ensures (numbered _) in
    record { value = exit_status _ _ c.from_residual.ensures.1 ∙ told.0; vote_after = told.1 }

pub read_vote-requires : goal.read_vote-requires
read_vote-requires c =
    let r = accepted c.args.n c.args.node c.args.cycle c.args.channel (length c.args.vote.now) 28 [] (sym c.in_ok-check_call.ensures) in
    record { n_bound = r.count; q_lt_n = r.node }

pub returns-in_err-v : goal.returns-in_err-v
returns-in_err-v c =
    let a = c.args in
    let told = faulty a.n a.node a.cycle a.channel a.frame.now a.vote.now (sym c.in_ok-check_call.ensures) _ (sym c.read_vote.ensures ∙ c.in_err-v.was) (code-refused _) in
    record { value = exit_status _ _ c.from_residual-in_err-v.ensures.1 ∙ told.0; vote_after = told.1 }

pub copy-requires : goal.copy-requires
copy-requires c =
    let r = accepted c.args.n c.args.node c.args.cycle c.args.channel (length c.args.vote.now) 28 [] (sym c.in_ok-check_call.ensures) in
    let l : length c.vote_payload.result ≡ 28 = ap length c.vote_payload.ensures ∙ length_payload _ in
    omega arith

pub returns : goal.returns
returns c =
    let a = c.args in
    let told = whole a.n a.node a.cycle a.channel a.frame.now a.vote.now (sym c.in_ok-check_call.ensures) _ _ (sym c.read_vote.ensures ∙ c.in_ok-v.was) c.vote_payload.ensures c.copy.ensures.after in
    record { value = told.0; vote_after = told.1 }
