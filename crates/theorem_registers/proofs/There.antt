-- The premise over calls on a block can be met: any steps can be made on any bytes. Assumes nothing.
use mathlib.Core.Path.{refl}
use mathlib.Core.List.{List, [], ◌∷◌}
use Prim.Native.Nat.{ℕ}
use denote.Ref.{Bor}
use denote.MutBor.{MutBor}
use Rattle.registers.specs.Steps.{Step, Read, Write, Cycle, WriteCycle, step_status, step_left, step_value}
use Rattle.registers.specs.Series.{Shown}
use Rattle.theorem_registers.specs.Calls.{Done, none_more, read, write, cycle, write_cycle}

-- a value that is lent to be read, and one that is lent to be written, at any place
abbrev ref : {X : Type 0} → X → Bor X
ref x = record { ref_ptr = (0, 0); now = x }

abbrev own : {X : Type 0} → X → MutBor X
own x = record { ref_ptr = (0, 0); ghost_name = 0; now = x }

-- for every list of steps, on any bytes, there are calls of which the contracts tell so
pub calls_there : (ts : List Step) (x : List ℕ) → (vs : List Shown) × (z : List ℕ) × Done ts vs x z
calls_there [] x = ([], x, none_more)
calls_there (Read mode a ∷ ts) x =
    let t = Read mode a in
    let rest = calls_there ts x in
    (_, rest.1, read ([], ([], tt)) (mode, (ref x, (a, (own 0, tt)))) (step_status t x) (mode, (ref x, (a, (own (step_value t x 0), tt)))) (refl, refl) refl rest.2)
calls_there (Write mode a v ∷ ts) x =
    let t = Write mode a v in
    let rest = calls_there ts (step_left t x) in
    (_, rest.1, write ([], tt) (mode, (own x, (a, (v, tt)))) (step_status t x) (mode, (own (step_left t x), (a, (v, tt)))) (refl, refl) refl refl rest.2)
calls_there (Cycle mode heard0 heard1 requests votes arrived ∷ ts) x =
    let t = Cycle mode heard0 heard1 requests votes arrived in
    let rest = calls_there ts (step_left t x) in (
      _,
      rest.1,
      cycle ([], ([], tt)) (mode, (own x, (heard0, (heard1, (requests, (ref votes, (arrived, tt))))))) (step_status t x)
          (mode, (own (step_left t x), (heard0, (heard1, (requests, (ref votes, (arrived, tt))))))) (refl, refl) refl refl rest.2,
    )
calls_there (WriteCycle mode a v heard0 heard1 requests votes arrived ∷ ts) x =
    let t = WriteCycle mode a v heard0 heard1 requests votes arrived in
    let rest = calls_there ts (step_left t x) in (
      _,
      rest.1,
      write_cycle ([], ([], tt)) (mode, (own x, (a, (v, (heard0, (heard1, (requests, (ref votes, (arrived, tt))))))))) (step_status t x)
          (mode, (own (step_left t x), (a, (v, (heard0, (heard1, (requests, (ref votes, (arrived, tt))))))))) (refl, refl) refl refl rest.2,
    )
