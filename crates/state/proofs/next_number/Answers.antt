use Rattle.state.specs.State.{next_number}
use Rattle.state.proofs.next_number.Goals as goal

pub returns : goal.returns
unfolding next_number
returns c = c.wrapping_add_u32.ensures.value
