use Rattle.rules.proofs.Slots.{one_none}
use Rattle.entry_decide.proofs.member_decides.Goals as goal

pub silent_decides-requires-clause-one_vote : goal.silent_decides-requires-clause-one_vote
silent_decides-requires-clause-one_vote c =
    let a = c.args in
    one_none a.groups.now.numbers a.groups.now.sets a.groups.now.bases a.views.now a.n.nodes a.present
