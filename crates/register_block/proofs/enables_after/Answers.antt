use borrow.Author.Tests.{eq-eqb, ne_eqb}
use Rattle.register_block.proofs.enables_after.Goals as goal

pub returns-then-address-eq25 : goal.returns-then-address-eq25
returns-then-address-eq25 c = rw (eq-eqb c.args.address 25 c.if-address-eq25.true)

pub returns-else-address-eq25 : goal.returns-else-address-eq25
returns-else-address-eq25 c = rw (ne_eqb c.args.address 25 c.if-address-eq25.false)
