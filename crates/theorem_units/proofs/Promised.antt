-- The promise for units that call the compiled entries. Assumes nothing.
use mathlib.Core.Path.{◌≡◌}
use mathlib.Core.Logic.{Lift}
use mathlib.Core.Bool.{false}
use mathlib.Core.List.{List}
use Prim.Native.Nat.{ℕ, ◌≤◌}
use lib.Dec.{eqb}
use Rattle.sets.specs.Sets.{below}
use Rattle.rules.specs.declared.Faults.{Faults}
use Rattle.rules.specs.OneCycle.{wrong_mode}
use Rattle.rules.specs.Faults.{founding}
use Rattle.frames.specs.Written.{wrong_drive}
use Rattle.theorem_unit_calls.specs.Cycle.{Pressed, Driven, SoundPressed}
use Rattle.theorem_unit_calls.specs.Promise.{Begins, OverUnits, OverAnyBus}
use Rattle.theorem_unit_calls.proofs.Press.{over_units, over_any_bus}
use Rattle.theorem_unit_calls.proofs.There.{press_there}
use Rattle.theorem_unit_calls.proofs.Sound.{SameRuleOne, pressed_sound}
use Rattle.theorem_units.specs.Compiled.{compiled}
use Rattle.theorem_units.proofs.Compiled.{told, had}

pub compiled_units : OverUnits compiled
compiled_units = over_units compiled told

pub compiled_any_bus : OverAnyBus compiled
compiled_any_bus = over_any_bus compiled told

-- the premises can be met: for every mode, founding set, list of fault records and choice of drive bytes there is such a press
pub compiled_there : (mode n F : ℕ) (cs : List Faults) (drive : (k q : ℕ) → List ℕ) → wrong_mode mode ≡ false → 2 ≤ n → n ≤ 64 → eqb F 0 ≡ false → below n F ≡ F
    → ((k q : ℕ) → wrong_drive (drive k q) ≡ false)
    → (x : ℕ → List ℕ) × (z : ℕ → List ℕ) × Begins compiled n F x × (k : Pressed compiled mode n cs x z) × Lift {0, 1} (Driven drive 1 k)
compiled_there = press_there compiled had

-- and where nobody knows the records: the same press, cycle by cycle with the same units stopped and started, under the records of what came
pub compiled_sound_there : (mode n F : ℕ) (cs : List Faults) (drive : (k q : ℕ) → List ℕ) → wrong_mode mode ≡ false → 2 ≤ n → n ≤ 64 → eqb F 0 ≡ false → below n F ≡ F
    → ((k q : ℕ) → wrong_drive (drive k q) ≡ false)
    → (x : ℕ → List ℕ) × (z : ℕ → List ℕ) × Begins compiled n F x × ((k : Pressed compiled mode n cs x z) × Lift {0, 1} (Driven drive 1 k))
    × (ds : List Faults) × SameRuleOne cs ds × SoundPressed compiled mode n (founding n 0 F) ds x z
compiled_sound_there mode n F cs drive accepted two few some-founder founders writable =
    let press = compiled_there mode n F cs drive accepted two few some-founder founders writable in
    let sound = pressed_sound compiled mode n (founding n 0 F) cs press.0 press.1 press.3 in
    (press.0, press.1, press.2, (press.3, press.4), sound.0, sound.1, sound.2)
