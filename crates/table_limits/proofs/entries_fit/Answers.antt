use mathlib.Core.Path.{◌∙◌, ap}
use Prim.Native.Nat.{ℕ}
use Rattle.std.proofs.Common.{rules, arith}
use borrow.Author.Tests.{tests}
use Rattle.std.proofs.lemmas.Iterator.{YieldsList-from_range}
use Rattle.std.proofs.lemmas.Iterator.Search.{all_from_yields_List}
use Rattle.sets.specs.Sets.{every}
use Rattle.table.specs.Records.{good_entry}
use Rattle.table.proofs.Refusals.{list_all-every}
use Rattle.table_limits.proofs.entries_fit.Goals as goal

pub returns : goal.returns
returns c =
    let good = good_entry c.args.n c.args.cycle.bytes.now in
    all_from_yields_List good _ _ _ c.all.ensures.ran (YieldsList-from_range 0 c.from.result c.from.result (cc) (omega arith)) (λ x b q k. search (rules, tests))
    ∙ list_all-every c.from.result good ∙ ap (λ (n : ℕ). every n good) (c.from.ensures ∙ c.entries.ensures)
