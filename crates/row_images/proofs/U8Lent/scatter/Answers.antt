-- A row with entries is one of whole images. Assumes nothing.
use mathlib.Core.Path.{◌≡◌, ap, ◌∙◌}
use Prim.Native.Nat.{ℕ, ◌*◌, ◌≤◌}
use native.Mathlib.Omega.{arith}
use Rattle.row_images.specs.Images.{entries_in}
use Rattle.row_images.proofs.Images.{entries-all}
use Rattle.row_images.proofs.Walks.{nodes_length}
use Rattle.row_images.proofs.U8Lent.scatter.Goals as goal

pub scatter-requires : goal.scatter-requires
scatter-requires c =
    let s = c.args.row.now in
    let count = nodes_length s in
    let n : entries_in s ≡ c.args.n = (let long = c.requires.2 in omega arith) in
    let some : 1 ≤ entries_in s = (let more = c.requires.0 in omega arith) in
    (c.requires.1, entries-all s some ∙ ap (λ (k : ℕ). 24 * k) n)
