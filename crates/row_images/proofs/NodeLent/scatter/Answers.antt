use mathlib.Core.Path.{◌∙◌}
use Rattle.row.proofs.Meaning.{scattered}
use Rattle.row_images.proofs.NodeLent.scatter.Goals as goal

pub returns : goal.returns
returns c = c.scatter.ensures ∙ scattered c.args.n c.args.states.now c.args.row.now c.requires.2 c.requires.1
