use mathlib.Core.Path.{◌∙◌}
use Rattle.row_images.proofs.Walks.{node_found, unwrapped}
use Rattle.row_images.proofs.node_in.Goals as goal

pub returns : goal.returns
returns c = c.unwrap_or.ensures ∙ unwrapped c.decode.result ∙ node_found _ _ _ c.decode.ensures
