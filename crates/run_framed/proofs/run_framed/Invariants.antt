-- The invariant: the records that are left take the states to what all take the beginning to. Assumes nothing.
use Rattle.cluster_states.specs.States.{row_of}
use Rattle.run_framed.proofs.Frames.{Showing}
use Rattle.run_framed.proofs.run_framed.Given as goal

abbrev pub invariant-loop-record : goal.invariant-loop-record
invariant-loop-record l = Showing l.config (row_of l.config.nodes l.initial.states) l.s l.initial.frames l.states l.record-iterator.rest.now l.count l.frames
