-- `frame_writing::write_heartbeat` meets its contract: header, first word and drive bytes are put one after the other, and the check over them last. Assumes nothing.
use mathlib.Core.Path.{◌≡◌, ap, ap₂, ◌∙◌}
use mathlib.Core.Bool.{false}
use mathlib.Core.List.{List, [], ◌∷◌, ◌++◌}
use Prim.Native.Nat.{ℕ, ◌+◌, ◌*◌, ◌/◌, ◌≤◌}
use native.Mathlib.Omega.{arith}
use lib.ListN.{length, take}
use Rattle.bigendian.specs.BigEndian.{bytes_of}
use Rattle.crc.specs.Crc.{frame_check, channel_start}
use Rattle.parts.specs.Parts.{with_part}
use Rattle.parts.proofs.Laws.{part_length, part-next}
use Rattle.frames.specs.Written.{header, frame, first_byte, heartbeat_frame, wrong_drive}
use Rattle.frames.proofs.Lengths.{length-header}
use Rattle.frames.proofs.Payloads.{drive_bounds}
use Rattle.frames.proofs.Converted.{bit-from}
use Rattle.frame_writing.proofs.Framed.{framed}
use Rattle.frame_writing.proofs.write_heartbeat.Goals as goal

whole : (q join request sync startup cycle channel : ℕ) (drive h c f₀ f₁ f₂ f₃ f₄ : List ℕ) (start check : ℕ) → length f₀ ≡ 10 + length drive
    → h ≡ header sync startup (q + 1) (1 + length drive / 2) cycle → start ≡ channel_start channel → check ≡ frame_check start (take (7 + length drive) f₃)
    → c ≡ bytes_of 3 check → f₁ ≡ with_part 0 h f₀ → f₂ ≡ with_part 5 (first_byte join request ∷ 0 ∷ []) f₁ → f₃ ≡ with_part 7 drive f₂ → f₄ ≡ with_part (7 + length drive) c f₃
    → f₄ ≡ heartbeat_frame q join request sync startup cycle channel drive
unfolding heartbeat_frame
whole q join request sync startup cycle channel drive h c f₀ f₁ f₂ f₃ f₄ start check l eh es ek ec ph pw pd pc =
    let lh : length h ≡ 5 = ap length eh ∙ length-header sync startup (q + 1) (1 + length drive / 2) cycle in
    let room : 0 + length h ≤ length f₀ = omega arith in
    let l₁ : length f₁ ≡ length f₀ = ap length ph ∙ part_length 0 h f₀ room in
    let fits : 5 ≤ length f₁ = omega arith in
    let pp : f₃ ≡ with_part 5 (first_byte join request ∷ 0 ∷ drive) f₁ = pd ∙ ap (with_part 7 drive) pw ∙ part-next 5 (first_byte join request ∷ 0 ∷ []) f₁ fits drive 7 (omega arith) in
    framed start (7 + length drive) check h (first_byte join request ∷ 0 ∷ drive) c f₀ f₁ f₃ f₄ lh (omega arith) (omega arith) ph pp ek ec pc
    ∙ ap₂ frame es (ap (λ (x : List ℕ). x ++ (first_byte join request ∷ 0 ∷ drive)) eh)

-- above all else: what is wrong in a frame is wrong here
pub returns : goal.returns
returns c =
    let a = c.args in
    let k = a.slot in
    let b = a.bits in
    whole k.node _ _ _ _ k.cycle k.channel a.drive.now _ _ a.frame.now c.put.new.f c.put-2.new.f c.put-3.new.f c.put-4.new.f _ _
    c.requires.frame_len c.header_bytes.ensures c.channel_start.ensures.value c.frame_check-check.ensures.value
    (c.write.ensures ∙ ap (bytes_of 3) c.from-3.ensures)
    c.put.ensures (c.put-2.ensures ∙ ap (λ (x : ℕ). with_part 5 (x ∷ 0 ∷ []) c.put.new.f) (ap₂ (λ (x y : ℕ). x * 128 + y * 64) (c.from.ensures ∙ bit-from b.join) (c.from-2.ensures ∙ bit-from b.request)))
    c.put-3.ensures c.put-4.ensures

few : (drive : List ℕ) → wrong_drive drive ≡ false → length drive ≤ 252
few drive e = (drive_bounds drive e).1

pub overflow_cast-words : goal.overflow_cast-words
overflow_cast-words c = let b = few c.args.drive.now c.requires.drive_value in omega arith

pub overflow_add-words : goal.overflow_add-words
overflow_add-words c = let b = few c.args.drive.now c.requires.drive_value in omega arith

pub header_bytes-requires-clause-words_bound : goal.header_bytes-requires-clause-words_bound
header_bytes-requires-clause-words_bound c = let b = few c.args.drive.now c.requires.drive_value in omega arith
