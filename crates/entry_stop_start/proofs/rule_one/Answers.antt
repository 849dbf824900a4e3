use Rattle.std.proofs.Common.{sym, ap, arith}
use Rattle.state.specs.declared.State.{State}
use Rattle.entry_lent.proofs.Images.{good_length, found_state}
use Rattle.entry_stop_start.proofs.Answers.{ruled}
use Rattle.entry_stop_start.proofs.rule_one.Goals as goal

pub copy-requires : goal.copy-requires
copy-requires c = let l = good_length _ _ _ (found_state _ _ _ (sym c.in_ok-n.ensures)).1 in omega arith

pub returns-clause-state_after : goal.returns-clause-state_after
returns-clause-state_after c =
    ruled _ _ _ _ _ _ _ _ c.in_ok-n.ensures (ap (λ (s : State). record { state = s; id = c.in_ok-n.n.id; nodes = c.in_ok-n.n.nodes }) c.stop_and_start.ensures) c.encode-image.ensures c.copy.ensures.after
