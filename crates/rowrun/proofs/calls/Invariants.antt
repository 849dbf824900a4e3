use lib.ListN.{length}
use Rattle.rowrun.proofs.calls.Given as goal

abbrev pub decreases-loop-bytes : goal.decreases-loop-bytes
decreases-loop-bytes l = length l.rest
