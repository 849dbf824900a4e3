-- `frame_writing::header_bytes` meets its contract: its bytes are those of `header`. Assumes nothing.
use mathlib.Core.Path.{◌≡◌, ap, ap₂, ◌∙◌}
use Prim.Native.Nat.{ℕ, ◌+◌, ◌*◌, ◌^◌}
use native.Mathlib.Omega.{arith}
use Rattle.bigendian.specs.BigEndian.{bytes_of}
use Rattle.crc.specs.Crc.{header_check}
use Rattle.frames.specs.Written.{header}
use Rattle.frames.proofs.Converted.{bit-from}
use Rattle.frame_writing.proofs.header_bytes.Goals as goal

-- the number of 40 bits, by its upper and its lower part
joined : (sync startup number words cycle : ℕ) {s t check high low : ℕ} → s ≡ sync → t ≡ startup → check ≡ header_check s t number words
    → high ≡ ((4 + s * 2 + t) * 2048 + number) * 128 + words → low ≡ check * 64 + cycle
    → high * 131072 + low ≡ (((4 + sync * 2 + startup) * 2 ^ 11 + number) * 2 ^ 7 + words) * 2 ^ 17 + header_check sync startup number words * 2 ^ 6 + cycle
joined sync startup number words cycle es et ek eh el =
    let k = ek ∙ ap₂ (λ (x y : ℕ). header_check x y number words) es et in omega arith

pub returns : goal.returns
unfolding header
returns c =
    c.write.ensures
    ∙ ap (bytes_of 5)
    (joined _ _ _ _ _ (c.from-sync.ensures ∙ bit-from c.args.sync) (c.from-startup.ensures ∙ bit-from c.args.startup) c.header_check-check.ensures.value c.from.ensures c.from-2.ensures)
