use mathlib.Core.Path.{◌∙◌}
use native.Mathlib.Omega.{arith}
use borrow.Author.Tests.{eq-eqb, ne_eqb}
use Rattle.sets.proofs.Machine.{and-not}
use Rattle.register_block.proofs.flags_after.Goals as goal

pub returns-then-address-eq24 : goal.returns-then-address-eq24
returns-then-address-eq24 c = and-not 8 c.args.flags c.args.value (omega arith) (omega arith) ∙ rw (eq-eqb c.args.address 24 c.if-address-eq24.true)

pub returns-else-address-eq24 : goal.returns-else-address-eq24
returns-else-address-eq24 c = rw (ne_eqb c.args.address 24 c.if-address-eq24.false)
