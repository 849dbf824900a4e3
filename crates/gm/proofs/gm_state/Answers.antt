-- `gm::gm_state` meets its contract: it is that of `entry_state::read`. By hand, since a search over eight facts runs to its step limit where one is false. Assumes nothing.
use Rattle.std.proofs.Common.{◌∙◌}
use Rattle.gm.proofs.gm_state.Goals as goal

pub returns : goal.returns
returns c = record { value = c.status.ensures ∙ c.read.ensures.value; kind_after = c.read.ensures.kind_after; reason_after = c.read.ensures.reason_after; node_after = c.read.ensures.node_after; n_after = c.read.ensures.n_after; number_after = c.read.ensures.number_after; set_after = c.read.ensures.set_after; base_after = c.read.ensures.base_after }
