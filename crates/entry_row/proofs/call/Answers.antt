use Rattle.entry_row.specs.OnImages.{images_status, images_left}
use Rattle.entry_row.proofs.call.Goals as goal

pub returns : goal.returns
unfolding images_status images_left
returns c = let e = c.call_with.ensures in record { value = e.value; images_after = e.images_after }
