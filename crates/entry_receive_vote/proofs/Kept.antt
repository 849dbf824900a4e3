-- A read that is refused leaves the bytes for the vote. Assumes nothing.
use mathlib.Core.Path.{◌≡◌, refl}
use mathlib.Core.List.{List}
use Prim.Native.Nat.{ℕ}
use Rattle.std.specs.Prelude.{Result, Ok, Err}
use Rattle.rules.specs.declared.Vote.{Vote}
use Rattle.frames.specs.declared.Fault.{Fault}
use Rattle.frames.specs.Read.{read_vote}
use Rattle.entry_lent.proofs.Reading.{frame-kept}
use Rattle.entry_receive_vote.specs.Arrivals.{vote_refusal, payload_or, read_vote_status, read_vote_left}

pub refused_kept : (n q cycle channel : ℕ) (f out : List ℕ) → (read_vote_status n q cycle channel f out ≡ 0 → ⊥) → read_vote_left n q cycle channel f out ≡ out
unfolding read_vote_status read_vote_left
refused_kept n q cycle channel f out = frame-kept _ _ _ out (by (read_vote n q cycle channel f))
  where
    by : (d : Result Vote Fault) → (vote_refusal d ≡ 0 → ⊥) → payload_or d out ≡ out
    by (Ok v) h = absurd (h refl)
    by (Err fault) h = refl
