-- `print_program::print` meets its contract. The loop's invariant: what the run has come to, and that the next read may be made. Assumes nothing.
use mathlib.Core.Path.{◌≡◌}
use mathlib.Core.Bool.{false}
use Prim.Native.Nat.{◌-◌, ◌≤◌}
use lib.ListN.{length}
use Rattle.print_stream.specs.Stream.{is_over}
use Rattle.print_program.specs.Run.{Ready, Along}
use Rattle.print_program.proofs.print.Given as goal

abbrev pub invariant-loop-rt : goal.invariant-loop-rt
invariant-loop-rt l =
    Along l.quiet l.run l.states l.input × (is_over l.run.last ≡ false → Ready l.input l.out l.run.last) × (length l.input ≡ length l.initial.input) × (length l.out ≡ length l.initial.out)
    × (l.run.reads ≤ 18446744073709551615)

abbrev pub decreases-loop-rt : goal.decreases-loop-rt
decreases-loop-rt l = 18446744073709551615 - l.run.reads
