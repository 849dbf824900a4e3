-- How long the parts of a frame are, and the frames. Assumes nothing.
use mathlib.Core.Path.{◌≡◌, refl, ap, ◌∙◌}
use mathlib.Core.List.{List, ◌∷◌, ◌++◌}
use Prim.Native.Nat.{ℕ, ◌+◌, ◌/◌}
use native.Mathlib.Omega.{arith}
use lib.ListN.{length, length-append}
use Rattle.bigendian.proofs.Laws.{length_bytes}
use Rattle.crc.specs.Crc.{channel_start}
use Rattle.rules.specs.declared.Vote.{Vote}
use Rattle.frames.specs.Written.{header, frame, first_byte, heartbeat_frame, vote_payload, vote_frame}

pub length-header : (sync startup number words cycle : ℕ) → length (header sync startup number words cycle) ≡ 5
unfolding header
length-header sync startup number words cycle = length_bytes 5 _

pub length-frame : (start : ℕ) (s : List ℕ) → length (frame start s) ≡ length s + 3
unfolding frame
length-frame start s = length-append s _ ∙ ap (λ (k : ℕ). length s + k) (length_bytes 3 _)

-- a frame with its header and a payload of k bytes
pub length_with : (start sync startup number words cycle k : ℕ) (payload : List ℕ) → length payload ≡ k
    → length (frame start (header sync startup number words cycle ++ payload)) ≡ 5 + k + 3
length_with start sync startup number words cycle k payload e =
    length-frame start (header sync startup number words cycle ++ payload)
    ∙ simp (length-append, length-header sync startup number words cycle, e)

pub length_payload : (v : Vote) → length (vote_payload v) ≡ 28
unfolding vote_payload
length_payload v = simp (length-append, length_bytes)

pub length_heartbeat : (q join request sync startup cycle channel : ℕ) (drive : List ℕ)
    → length (heartbeat_frame q join request sync startup cycle channel drive) ≡ 10 + length drive
unfolding heartbeat_frame
length_heartbeat q join request sync startup cycle channel drive =
    let e = length_with (channel_start channel) sync startup (q + 1) (1 + length drive / 2) cycle (length (first_byte join request ∷ 0 ∷ drive)) (first_byte join request ∷ 0 ∷ drive) refl in
    omega arith

pub length-vote : (q : ℕ) (v : Vote) (cycle channel : ℕ) → length (vote_frame q v cycle channel) ≡ 36
unfolding vote_frame
length-vote q v cycle channel = length_with _ 0 0 (q + 65) 14 cycle 28 (vote_payload v) (length_payload v)
