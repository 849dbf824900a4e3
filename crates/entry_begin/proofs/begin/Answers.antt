use Rattle.std.proofs.Common.{sym, arith}
use Rattle.refusal.proofs.Codes.{unless_err}
use Rattle.entry_begin.specs.Begin.{begin_left}
use Rattle.entry_begin.proofs.Begun.{begin_bounds, begun}
use Rattle.entry_begin.proofs.begin.Goals as goal

pub returns-in_err-check-clause-state_after : goal.returns-in_err-check-clause-state_after
unfolding begin_left
returns-in_err-check-clause-state_after c = unless_err _ _ _ _ c.in_err-check.ensures

pub initial-requires : goal.initial-requires
initial-requires c = let b = begin_bounds _ _ _ _ (sym c.in_ok-check.ensures) in omega arith

pub overflow_cast-node-2 : goal.overflow_cast-node-2
overflow_cast-node-2 c = let b = begin_bounds _ _ _ _ (sym c.in_ok-check.ensures) in omega arith

pub overflow_cast-n : goal.overflow_cast-n
overflow_cast-n c = let b = begin_bounds _ _ _ _ (sym c.in_ok-check.ensures) in omega arith

pub copy-requires : goal.copy-requires
copy-requires c = let b = begin_bounds _ _ _ _ (sym c.in_ok-check.ensures) in omega arith

pub returns-clause-state_after : goal.returns-clause-state_after
returns-clause-state_after c = begun _ _ _ _ _ _ _ c.in_ok-check.ensures c.initial.ensures c.encode-image.ensures c.copy.ensures.after
