use Rattle.sets.specs.Sets.{◌∪◌}
use Rattle.entry_registers.proofs.InPlace.{cycled-left}
use Rattle.entry_registers.proofs.put_cycled.Goals as goal

pub returns : goal.returns
unfolding ◌∪◌
returns c =
    let a = c.args in
    cycled-left a.n a.flags a.enables a.block.now _ _ _ _ _ c.encode-image.ensures c.put.ensures c.raised_by.ensures c.put_flags.ensures
