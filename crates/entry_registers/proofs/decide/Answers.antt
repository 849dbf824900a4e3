use Rattle.std.proofs.Common.{sym, ap, ◌∙◌}
use Rattle.state.specs.declared.Node.{Node}
use Rattle.entry_decide.specs.Decide.{decision}
use Rattle.entry_registers.proofs.InPlace.{cycle-left}
use Rattle.entry_registers.proofs.decide.Goals as goal

pub returns-in-Some : goal.returns-in-Some
returns-in-Some c =
    let a = c.args in
    cycle-left a.quiet a.n a.flags a.enables a.heard.members a.heard.joining a.heard.requests a.votes.now a.arrived a.block.now _ _
    (sym c.in-Some.ensures.0 ∙ ap (λ (m : Node). decision a.quiet m m.state a.heard.members a.heard.joining a.heard.requests a.votes.now a.arrived) c.requires.block_value) c.put_cycled.ensures

pub returns-in_default : goal.returns-in_default
returns-in_default c =
    let a = c.args in
    cycle-left a.quiet a.n a.flags a.enables a.heard.members a.heard.joining a.heard.requests a.votes.now a.arrived a.block.now _ _ c.next_state.ensures c.put_cycled-in_default.ensures
