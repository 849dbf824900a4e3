use Rattle.std.proofs.Common.{◌∙◌}
use Rattle.registers.proofs.Found.{cycle_as_write}
use Rattle.entry_registers.proofs.cycle.Goals as goal

pub returns-clause-value : goal.returns-clause-value
returns-clause-value c =
    let a = c.args in
    c.write_cycle.ensures.value ∙ (cycle_as_write a.mode a.heard.members a.heard.joining a.heard.requests a.votes.now a.arrived a.block.now).0

pub returns-clause-block_after : goal.returns-clause-block_after
returns-clause-block_after c =
    let a = c.args in
    c.write_cycle.ensures.block_after ∙ (cycle_as_write a.mode a.heard.members a.heard.joining a.heard.requests a.votes.now a.arrived a.block.now).1
