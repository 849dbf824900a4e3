use mathlib.Core.Path.{sym, ◌∙◌}
use Rattle.row_images.proofs.Walks.{nodes_length}
use Rattle.row_images.proofs.U8Lent.entries.Goals as goal

pub returns : goal.returns
returns c = c.entries.ensures ∙ sym (nodes_length c.args.row.now)
