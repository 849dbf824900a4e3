use Rattle.state.specs.Image.{image_of}
use Rattle.state_encoding.proofs.encode.Goals as goal

pub returns : goal.returns
unfolding image_of
returns c = simp (c.image.ensures, c.group_held.ensures, c.reason_byte.ensures, c.kind_code.ensures)
