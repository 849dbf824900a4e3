-- The refusals 5 to 10 as a call of the product gives them.
-- Assumes nothing.
use Rattle.frames.specs.declared.Fault.{Fault}
use Rattle.frames.specs.declared.Fault.TheVariants as fault
use Rattle.refusal.specs.declared.Refusal.{Refusal}
use Rattle.refusal.specs.declared.Refusal.TheVariants.{FrameLength, HeaderCheck, FrameCheck, NullFrame, NotDue, Content}

-- that of a frame, with the number of `fault_code`
abbrev pub refusal_of : Fault → Refusal
refusal_of fault.Length = FrameLength
refusal_of fault.HeaderCheck = HeaderCheck
refusal_of fault.FrameCheck = FrameCheck
refusal_of fault.NullFrame = NullFrame
refusal_of fault.NotDue = NotDue
refusal_of fault.Content = Content
