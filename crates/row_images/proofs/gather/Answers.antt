use Rattle.std.proofs.Common.{arith, rules, sym, ◌≡◌, ◌∙◌}
use Rattle.row_images.specs.Images.{node_in, nodes_in}
use Rattle.row_images.proofs.Images.{entries_fit}
use Rattle.row_images.proofs.Walks.{nodes_length, nodes_at}
use Rattle.row_images.proofs.gather.Goals as goal

pub gather-requires : goal.gather-requires
gather-requires c = let fit = entries_fit c.args.images.now in grind (arith, c.entries.ensures)

pub returns : goal.returns
returns c =
    let s = c.args.images.now in
    c.gather.ensures (nodes_in s) (
      nodes_length s ∙ sym c.entries.ensures,
      λ q x d l e.
          let read : x ≡ node_in s q = search rules in
          read ∙ sym (nodes_at s q d (omega (arith, c.entries.ensures))),
    )
