use Rattle.bigendian.specs.BigEndian.{bytes_of}
use Rattle.state_encoding.proofs.image.Goals as goal

pub returns : goal.returns
unfolding bytes_of
returns c = simp (c.write-g4.ensures, c.write-m8.ensures, c.write-b8.ensures, c.from.ensures)
