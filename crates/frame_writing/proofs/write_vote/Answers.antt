-- `frame_writing::write_vote` meets its contract: header and payload are put one after the other, and the check over them last. Assumes nothing.
use mathlib.Core.Path.{◌≡◌, sym, ap, ap₂, ◌∙◌}
use mathlib.Core.List.{List, ◌++◌}
use Prim.Native.Nat.{ℕ, ◌+◌, ◌≤◌}
use native.Mathlib.Omega.{arith}
use lib.ListN.{length, take}
use lib.Seq.{length-take-le}
use Rattle.bigendian.specs.BigEndian.{bytes_of}
use Rattle.crc.specs.Crc.{frame_check, channel_start}
use Rattle.parts.specs.Parts.{with_part}
use Rattle.rules.specs.declared.Vote.{Vote}
use Rattle.frames.specs.Written.{header, frame, vote_payload, vote_frame}
use Rattle.frames.proofs.Lengths.{length-header, length_payload}
use Rattle.frame_writing.proofs.Framed.{framed}
use Rattle.frame_writing.proofs.write_vote.Goals as goal

whole : (q : ℕ) (v : Vote) (cycle channel : ℕ) (h p c f₀ f₁ f₂ f₃ : List ℕ) (start check : ℕ) → length f₀ ≡ 36 → h ≡ header 0 0 (q + 65) 14 cycle
    → p ≡ vote_payload v → start ≡ channel_start channel → check ≡ frame_check start (take 33 f₂) → c ≡ bytes_of 3 check → f₁ ≡ with_part 0 h f₀
    → f₂ ≡ with_part 5 p f₁ → f₃ ≡ with_part 33 c f₂ → f₃ ≡ vote_frame q v cycle channel
unfolding vote_frame
whole q v cycle channel h p c f₀ f₁ f₂ f₃ start check l eh ep es ek ec ph pp pc =
    let lh : length h ≡ 5 = ap length eh ∙ length-header 0 0 (q + 65) 14 cycle in
    let lp : length p ≡ 28 = ap length ep ∙ length_payload v in
    framed start 33 check h p c f₀ f₁ f₂ f₃ lh (omega arith) l ph pp ek ec pc ∙ ap₂ frame es (ap₂ ◌++◌ eh ep)

pub slice_bounds-frame_check-end : goal.slice_bounds-frame_check-end
slice_bounds-frame_check-end c =
    let f = c.put-2.new.f in
    let l : 33 ≤ length f = omega arith in
    sym (length-take-le 33 f l)

pub returns : goal.returns
returns c =
    let a = c.args in
    let k = a.slot in
    whole k.node a.v k.cycle k.channel _ _ _ _ c.put.new.f c.put-2.new.f c.put-3.new.f _ _ (omega arith)
    c.header_bytes.ensures c.vote_payload.ensures c.channel_start.ensures.value c.frame_check-check.ensures.value
    (c.write.ensures ∙ ap (bytes_of 3) c.from.ensures) c.put.ensures c.put-2.ensures c.put-3.ensures
