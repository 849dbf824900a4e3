-- A run through frames gives, after every cycle, the states that the fault table alone gives. Assumes nothing.
use mathlib.Core.Path.{◌≡◌, refl, ap, ◌∙◌}
use mathlib.Core.List.{List, [], ◌∷◌}
use Prim.Native.Nat.{ℕ, suc, ◌-◌, ◌≤◌}
use native.Mathlib.Nat.{mod-lt}
use lib.Dec.{lit<}
use Rattle.rules.specs.declared.Faults.{Faults}
use Rattle.rules.specs.declared.Config.{Config}
use Rattle.rules.specs.Faults.{Row, cycle}
use Rattle.rules.specs.Reference.{Cluster, step, after}
use Rattle.theorem_formed.proofs.Formed.{FormedRow, cycle-formed}
use Rattle.bus_units.specs.Run.{cycle_count, framed_rows, plain_rows, last_row}
use Rattle.bus_units.proofs.Delivered.{framed_is_plain}

pub framed_run_is_plain : (C : Config) (n : ℕ) (row : Row) (cs : List Faults) → C.nodes ≤ 64 → FormedRow C row → framed_rows C n row cs ≡ plain_rows C row cs
unfolding framed_rows plain_rows
framed_run_is_plain C n row [] few w = refl
framed_run_is_plain C n row (c ∷ cs) few w =
    let e = framed_is_plain C (cycle_count n) c row few (mod-lt (n - 1) (lit< tt)) w in
    ap (λ (r : Row). r ∷ framed_rows C (suc n) r cs) e
    ∙ ap (λ (rs : List Row). cycle C c row ∷ rs) (framed_run_is_plain C (suc n) (cycle C c row) cs few (cycle-formed C c row w))

-- the last of the rows that the rules give is the row after all cycles
pub last_plain : (C : Config) (k : Cluster) (cs : List Faults) → last_row k.row (plain_rows C k.row cs) ≡ (after C k cs).row
unfolding last_row plain_rows after step
last_plain C k [] = refl
last_plain C k (c ∷ cs) = last_plain C (step C k c) cs
