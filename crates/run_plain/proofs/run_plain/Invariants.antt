-- The invariant is that of `run_framed`, without frames; the arrays for what is missed are clear. Assumes nothing.
use Rattle.std.proofs.Common.{◌≡◌, replicate}
use Rattle.cluster_states.specs.States.{row_of}
use Rattle.run_turns.proofs.Ran.{Passing}
use Rattle.run_plain.proofs.run_plain.Given as goal

abbrev pub invariant-loop-record : goal.invariant-loop-record
invariant-loop-record l = record {
  passing : Passing l.config (row_of l.config.nodes l.initial.states) l.s l.states l.record-iterator.rest.now;
  clear : (l.unheard ≡ replicate 64 0) × (l.missed ≡ replicate 64 0);
}
