-- `frame_reading::same_payload` meets its contract. Assumes nothing.
use mathlib.Core.Path.{ap₂, ◌∙◌}
use Rattle.parts.specs.Compared.{same_bytes}
use Rattle.parts.proofs.Compared.{pointwise_same}
use Rattle.frames.specs.Read.{same_payload}
use Rattle.frames.proofs.Payloads.{payload_part}
use Rattle.frame_reading.proofs.same_payload.Goals as goal

pub returns : goal.returns
unfolding same_payload
returns c = c.eq.ensures ∙ pointwise_same _ _ ∙ ap₂ same_bytes (payload_part _) (payload_part _)
