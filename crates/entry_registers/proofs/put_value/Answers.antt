use Rattle.entry_registers.proofs.InPlace.{with-command, without-command}
use Rattle.entry_registers.proofs.put_value.Goals as goal

pub returns-then-address-eq27 : goal.returns-then-address-eq27
returns-then-address-eq27 c =
    with-command _ _ _ c.args.block.now _ _ _ c.flags_after-flags.ensures c.enables_after-enables.ensures c.put_flags.ensures _ c.if-address-eq27.true c.command.ensures

pub returns-else-address-eq27 : goal.returns-else-address-eq27
returns-else-address-eq27 c =
    without-command _ _ _ c.args.block.now _ _ _ c.flags_after-flags.ensures c.enables_after-enables.ensures c.put_flags.ensures c.if-address-eq27.false
