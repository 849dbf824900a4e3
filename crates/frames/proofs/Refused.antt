-- A frame's refusal keeps its number as a call's. Assumes nothing.
use mathlib.Core.Path.{◌≡◌, refl}
use Rattle.refusal.specs.Codes.{code_of}
use Rattle.frames.specs.declared.Fault.{Fault}
use Rattle.frames.specs.declared.Fault.TheVariants.{Length, HeaderCheck, FrameCheck, NullFrame, NotDue, Content}
use Rattle.frames.specs.Read.{fault_code}
use Rattle.frames.specs.Refused.{refusal_of}

pub code-refused : (f : Fault) → code_of (refusal_of f) ≡ fault_code f
code-refused Length = refl
code-refused HeaderCheck = refl
code-refused FrameCheck = refl
code-refused NullFrame = refl
code-refused NotDue = refl
code-refused Content = refl
