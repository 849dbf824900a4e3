use Rattle.std.proofs.Common.{◌≡◌, ℕ, List, length, take, drop, ap, ◌∙◌, arith}
use lib.ListN.{length-drop}
use lib.Seq.{take-length}
use Rattle.registers.specs.Block.{all_zero}
use Rattle.register_block.proofs.rest_is_zero.Goals as goal

-- the last 37 bytes of 64 are all from byte 27 on
pub returns : goal.returns
returns c =
    let rest : List ℕ = drop 27 c.args.block.now in
    let many : 37 ≡ length rest = simp length-drop (omega arith) in
    c.is_zero.ensures ∙ ap (λ (k : ℕ). all_zero (take k rest)) many ∙ ap all_zero (take-length rest)
