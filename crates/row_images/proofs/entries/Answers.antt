use mathlib.Core.Path.{sym}
use Rattle.row_images.proofs.Images.{entries-whole, entries_none}
use Rattle.row_images.proofs.entries.Goals as goal

pub returns-then-images-eq0 : goal.returns-then-images-eq0
returns-then-images-eq0 c = sym (entries-whole c.args.images.now c.if-images-eq0.true)

pub returns-else-images-eq0 : goal.returns-else-images-eq0
returns-else-images-eq0 c = sym (entries_none c.args.images.now c.if-images-eq0.false)
