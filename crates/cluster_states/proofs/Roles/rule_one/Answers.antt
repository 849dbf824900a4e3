use Rattle.cluster_states.specs.Decided.{roles_after}
use Rattle.cluster_states.proofs.Roles.rule_one.Goals as goal

pub returns : goal.returns
unfolding roles_after
returns c = cc
