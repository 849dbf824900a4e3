use Rattle.std.proofs.Common.{refl}
use Rattle.refusal.proofs.Codes.{passed}
use Rattle.entry_lent.proofs.Bounds.{count_bounds}
use Rattle.entry_begin.proofs.check.Goals as goal

pub below-requires : goal.below-requires
below-requires c = (count_bounds _ (passed _ 1 refl c.in_ok-check_count.ensures)).1
