-- What is gathered of the row is answered: a call that is not refused sets the row, one that is leaves it. Assumes nothing.
use Rattle.row_press.proofs.Meaning.{from_row, fills, row_set, row_kept}
use Rattle.row_press.proofs.call_with.Goals as goal

pub returns-in_err-left-clause-row_after : goal.returns-in_err-left-clause-row_after
returns-in_err-left-clause-row_after g c =
    let a = c.args in
    let nodes = g.L.Lent.nodes a.row.now in
    let from = from_row a.n _ _ _ nodes c.count_byte.ensures c.entries-count.ensures c.gather-gathered.ensures in
    row_kept a.task a.n a.mode nodes _ a.bytes.now c.in_err-left.field-0.0 _ a.row.now (c.in_err-left.ensures.answered nodes from)

pub scatter-requires : goal.scatter-requires
scatter-requires g c =
    let a = c.args in
    let nodes = g.L.Lent.nodes a.row.now in
    let from = from_row a.n _ _ _ nodes c.count_byte.ensures c.entries-count.ensures c.gather-gathered.ensures in
    let l = c.in_ok-left in
    fills a.task a.n a.mode nodes _ a.bytes.now l.left.nodes _ l.left.states (l.ensures.answered nodes from) c.entries-count.ensures (l.ensures.left nodes from)

pub returns-clause-row_after : goal.returns-clause-row_after
returns-clause-row_after g c =
    let a = c.args in
    let nodes = g.L.Lent.nodes a.row.now in
    let from = from_row a.n _ _ _ nodes c.count_byte.ensures c.entries-count.ensures c.gather-gathered.ensures in
    let l = c.in_ok-left in
    row_set a.task a.n a.mode nodes _ a.bytes.now g.L.Lent.lent a.row.now _ l.left.nodes _ l.left.states (l.ensures.answered nodes from) (l.ensures.left nodes from) c.scatter.ensures
