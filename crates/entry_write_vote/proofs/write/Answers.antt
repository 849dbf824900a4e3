use Rattle.std.proofs.Common.{◌≡◌, ℕ, List, [], ◌∷◌, not, length, sym, ap, ◌∙◌, arith}
use Rattle.parts.specs.Parts.{at_front}
use Rattle.parts.proofs.Copies.{copied}
use Rattle.rules.specs.declared.Vote.{Vote}
use Rattle.frames.specs.Written.{vote_frame, formed_vote}
use Rattle.frames.proofs.Lengths.{length-vote}
use Rattle.refusal.specs.Refusal.{when}
use Rattle.refusal.proofs.Laws.{unless-done}
use Rattle.refusal.proofs.Codes.{unless_err}
use Rattle.entry_write_vote.specs.Votes.{write_vote_status, write_vote_left}
use Rattle.entry_write_vote.proofs.Accepted.{Accepted, accepted, small}
use Rattle.entry_write_vote.proofs.write.Goals as goal

taken : (n q cycle channel : ℕ) (v : Vote) (f : List ℕ) → 0 ≡ write_vote_status n q v cycle channel f → Accepted n q cycle (length f) 36
unfolding write_vote_status
taken n q cycle channel v f z = accepted n q cycle channel (length f) 36 (when (not (formed_vote n q v)) 10 ∷ []) (sym z)

written : {left : List ℕ} (n q cycle channel : ℕ) (v : Vote) (a f : List ℕ) → 0 ≡ write_vote_status n q v cycle channel f → a ≡ vote_frame q v cycle channel
    → left ≡ at_front a f → left ≡ write_vote_left n q v cycle channel f
unfolding write_vote_left
written n q cycle channel v a f z e l =
    let sized : length f ≡ 36 = (taken n q cycle channel v f z).sized in
    copied a f (ap length e ∙ length-vote q v cycle channel ∙ sym sized) l ∙ e ∙ sym (unless-done _ _ _ (sym z))

pub returns-in_err-check-clause-frame_after : goal.returns-in_err-check-clause-frame_after
unfolding write_vote_left
returns-in_err-check-clause-frame_after c = unless_err _ _ _ _ c.in_err-check.ensures

pub invariant_of-slot : goal.invariant_of-slot
invariant_of-slot c = let a = taken _ _ _ _ _ c.args.frame.now c.in_ok-check.ensures in record { node_bound = small a; cycle_bound = a.timed }

pub copy-requires : goal.copy-requires
copy-requires c =
    let a = taken _ _ _ _ _ c.args.frame.now c.in_ok-check.ensures in
    let l : length c.write_vote.result ≡ 36 = ap length c.write_vote.ensures ∙ length-vote _ _ _ _ in
    omega arith

pub returns-clause-frame_after : goal.returns-clause-frame_after
returns-clause-frame_after c = written _ _ _ _ _ _ c.args.frame.now c.in_ok-check.ensures c.write_vote.ensures c.copy.ensures.after
