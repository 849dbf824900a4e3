-- `frame_writing::vote_payload` meets its contract: the four numbers are put one after the other. Assumes nothing.
use mathlib.Core.Path.{◌≡◌, ap, ◌∙◌}
use mathlib.Core.List.{List}
use Prim.Native.Nat.{ℕ}
use native.Mathlib.Omega.{arith}
use lib.ListN.{length}
use Rattle.bigendian.specs.BigEndian.{bytes_of}
use Rattle.bigendian.proofs.Laws.{length_bytes}
use Rattle.parts.specs.Parts.{with_part}
use Rattle.parts.proofs.Laws.{four_parts}
use Rattle.rules.specs.declared.Vote.{Vote}
use Rattle.frames.specs.Written.{vote_payload}
use Rattle.frame_writing.proofs.vote_payload.Goals as goal

whole : (v : Vote) (g m b w f₀ f₁ f₂ f₃ f₄ : List ℕ) → length f₀ ≡ 28 → g ≡ bytes_of 4 v.group.number → m ≡ bytes_of 8 v.group.set
    → b ≡ bytes_of 8 v.group.base → w ≡ bytes_of 8 v.view → f₁ ≡ with_part 0 g f₀ → f₂ ≡ with_part 4 m f₁ → f₃ ≡ with_part 12 b f₂ → f₄ ≡ with_part 20 w f₃
    → f₄ ≡ vote_payload v
unfolding vote_payload
whole v g m b w f₀ f₁ f₂ f₃ f₄ l eg em eb ew pg pm pb pw =
    let lg : length g ≡ 4 = ap length eg ∙ length_bytes 4 v.group.number in
    let lm : length m ≡ 8 = ap length em ∙ length_bytes 8 v.group.set in
    let lb : length b ≡ 8 = ap length eb ∙ length_bytes 8 v.group.base in
    let lw : length w ≡ 8 = ap length ew ∙ length_bytes 8 v.view in
    pw ∙ ap (with_part 20 w) (pb ∙ ap (with_part 12 b) (pm ∙ ap (with_part 4 m) pg))
    ∙ four_parts g m b w f₀ 4 12 20 lg (omega arith) (omega arith) (omega arith)
    ∙ simp (eg, em, eb, ew)

pub returns : goal.returns
returns c =
    let a = c.args in
    whole a.v _ _ _ _ _ c.put.new.f c.put-2.new.f c.put-3.new.f c.put-4.new.f (omega arith) (c.write.ensures ∙ ap (bytes_of 4) c.from.ensures) c.write-2.ensures c.write-3.ensures c.write-4.ensures c.put.ensures c.put-2.ensures c.put-3.ensures c.put-4.ensures
