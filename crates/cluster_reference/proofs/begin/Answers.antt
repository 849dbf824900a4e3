use mathlib.Core.Path.{ap}
use mathlib.Core.Option.{some}
use Rattle.state.specs.State.{founding_group}
use Rattle.rules.specs.Faults.{Row}
use Rattle.rules.specs.Reference.{Cluster, beginning}
use Rattle.cluster_reference.proofs.begin.Goals as goal

pub returns : goal.returns
unfolding beginning
returns c = λ C s e. ap {B = Cluster} (λ (r : Row). record { row = r; reference = some (founding_group 0 c.args.founding); lately = 0 }) e
