use Rattle.std.proofs.Common.{arith}
use Rattle.std.proofs.lemmas.Bool.Decides.{nat_tests}
use Rattle.std.proofs.lemmas.Grind.{common_steps}
use Rattle.state.specs.State.{formed_place}
use Rattle.state_decoding.proofs.place_formed.Goals as goal

pub returns-then-n-le64 : goal.returns-then-n-le64
unfolding formed_place
returns-then-n-le64 c = grind (arith, nat_tests, common_steps)

pub returns-else-n-le64 : goal.returns-else-n-le64
unfolding formed_place
returns-else-n-le64 c = grind (arith, nat_tests, common_steps)
