use Rattle.std.proofs.Common.{sym}
use Rattle.entry_lent.proofs.Images.{good_place, found_state}
use Rattle.entry_send_vote.proofs.view.Goals as goal

pub view_of-requires : goal.view_of-requires
view_of-requires c =
    let a = c.args in
    good_place _ a.state.now _ (λ i. (c.type_inv.state i).fits) (found_state a.mode a.state.now _ (sym c.in_ok-lent_state.ensures)).1
