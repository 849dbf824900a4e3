-- `print_window::keep` meets its contract. Assumes nothing.
use mathlib.Core.Path.{sym, ap, ◌∙◌}
use mathlib.Core.List.{◌++◌}
use Prim.Native.Nat.{ℕ, ◌+◌, ◌-◌, ◌≤◌}
use native.Mathlib.Omega.{arith}
use lib.ListN.{length, take, drop, length-drop}
use lib.Seq.{length-take-le}
use Rattle.parts.specs.Parts.{with_part}
use Rattle.print_window.proofs.keep.Goals as goal

pub returns-clause-window_after : goal.returns-clause-window_after
unfolding with_part
returns-clause-window_after c =
    let w = c.args.window.now in
    let kept : ℕ = c.args.have - c.args.at in
    let fits : kept ≤ length (drop c.args.at w) = omega (arith, length-drop c.args.at w) in
    c.copy_within.ensures.after
    ∙ ap (λ (j : ℕ). take kept (drop c.args.at w) ++ drop (0 + j) w) (sym (length-take-le kept (drop c.args.at w) fits))
