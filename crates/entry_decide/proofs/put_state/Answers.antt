use mathlib.Core.Path.{sym, ap, ◌∙◌}
use lib.ListN.{length}
use Rattle.state.proofs.RoundTrip.{image_length}
use Rattle.parts.proofs.Copies.{copied}
use Rattle.entry_decide.proofs.put_state.Goals as goal

pub returns : goal.returns
returns c =
    copied _ _ (ap length c.encode.ensures ∙ image_length _ ∙ sym c.requires) c.copy.ensures.after ∙ c.encode.ensures
