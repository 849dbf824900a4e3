-- A buffer into which header, payload and the check over both are put is the frame. Assumes nothing.
use mathlib.Core.Path.{◌≡◌, sym, ap, ap₂, ◌∙◌}
use mathlib.Core.List.{List, ◌++◌}
use Prim.Native.Nat.{ℕ, ◌+◌}
use native.Mathlib.Omega.{arith}
use lib.ListN.{length, take, length-append}
use Rattle.bigendian.specs.BigEndian.{bytes_of}
use Rattle.bigendian.proofs.Laws.{length_bytes}
use Rattle.crc.specs.Crc.{frame_check}
use Rattle.parts.specs.Parts.{with_part}
use Rattle.parts.proofs.Laws.{part_all, part-front, fill_next}
use Rattle.frames.specs.Written.{frame}

pub framed : (start at check : ℕ) (h p c f₀ f₁ f₂ f₃ : List ℕ) → length h ≡ 5 → at ≡ 5 + length p → length f₀ ≡ at + 3 → f₁ ≡ with_part 0 h f₀ → f₂ ≡ with_part 5 p f₁
    → check ≡ frame_check start (take at f₂) → c ≡ bytes_of 3 check → f₃ ≡ with_part at c f₂ → f₃ ≡ frame start (h ++ p)
unfolding frame
framed start at check h p c f₀ f₁ f₂ f₃ lh e l ph pp ek ec pc =
    let lc : length c ≡ 3 = ap length ec ∙ length_bytes 3 check in
    let two : length (h ++ p) ≡ length h + length p = length-append h p in
    let three : length ((h ++ p) ++ c) ≡ length (h ++ p) + length c = length-append (h ++ p) c in
    let ends : at ≡ 0 + length (h ++ p) = omega arith in
    let p2 = fill_next h p f₀ f₁ f₂ 5 (sym lh) ph pp in
    let p3 = fill_next (h ++ p) c f₀ f₂ f₃ at (omega arith) p2 pc in
    let seen : take at f₂ ≡ h ++ p = ap₂ take ends p2 ∙ part-front 0 (h ++ p) f₀ (omega arith) in
    p3 ∙ part_all ((h ++ p) ++ c) f₀ (omega arith) ∙ ap (λ (x : List ℕ). (h ++ p) ++ x) (ec ∙ ap (bytes_of 3) (ek ∙ ap (frame_check start) seen))
