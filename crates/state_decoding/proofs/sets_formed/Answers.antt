use Rattle.std.proofs.Common.{arith}
use Rattle.std.proofs.lemmas.Grind.{common_steps}
use Rattle.state.specs.State.{formed_sets}
use Rattle.state_decoding.proofs.sets_formed.Goals as goal

pub returns-then-subset : goal.returns-then-subset
unfolding formed_sets
returns-then-subset c = grind (arith, common_steps)

pub returns-else-subset : goal.returns-else-subset
unfolding formed_sets
returns-else-subset c = grind (arith, common_steps)
