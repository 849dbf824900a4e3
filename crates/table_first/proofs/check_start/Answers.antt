use Rattle.std.proofs.Common.{rules}
use Rattle.table.proofs.Refusals.{start-kind}
use Rattle.table_first.proofs.check_start.Goals as goal

pub returns-in_err-check_kind-clause-refused : goal.returns-in_err-check_kind-clause-refused
returns-in_err-check_kind-clause-refused c = search (rules, start-kind)
