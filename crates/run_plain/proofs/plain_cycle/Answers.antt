use Rattle.std.proofs.Common.{◌∙◌, sym}
use Rattle.table.proofs.Missed.{none_missed}
use Rattle.run_plain.proofs.plain_cycle.Goals as goal

pub returns-else-entries-ne0-clause-unheard_after : goal.returns-else-entries-ne0-clause-unheard_after
returns-else-entries-ne0-clause-unheard_after c =
    let e = c.cycle_missed.ensures in
    let none = none_missed c.args.record.bytes.now (sym c.entries.ensures ∙ c.if-entries-ne0.false) in
    (e.heartbeats_after ∙ none.0, e.votes_after ∙ none.1)
