use Rattle.std.proofs.Common.{rules}
use Rattle.table.proofs.Refusals.{cycle-kind}
use Rattle.table_records.proofs.check_cycle.Goals as goal

pub returns-in_err-check_kind-clause-refused : goal.returns-in_err-check_kind-clause-refused
returns-in_err-check_kind-clause-refused c = search (rules, cycle-kind)
