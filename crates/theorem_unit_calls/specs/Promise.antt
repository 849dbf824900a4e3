-- Demand 3 of the units of a press: what is promised of units that call the entries for one node.
-- Assumes nothing.
use Rattle.std.specs.Prelude.{◌≡◌, List, ℕ, ◌<◌}
use Rattle.state.specs.Image.{image_of}
use Rattle.rules.specs.declared.Faults.{Faults}
use Rattle.rules.specs.OneCycle.{in_mode}
use Rattle.rules.specs.Faults.{at, founding}
use Rattle.theorem_agreement.specs.Demand3.{Demand3, cluster_after}
use Rattle.theorem_unit_calls.specs.Entries.{Entries}
use Rattle.theorem_unit_calls.specs.Cycle.{Pressed, SoundPressed}

-- every unit begins with `gm_begin` and the same founding set
abbrev pub Begins : Entries → (n F : ℕ) → (x : ℕ → List ℕ) → Type 1
Begins E n F x = (q : ℕ) → q < n → E.begin n q F (x q)

-- Of the images z of the units after the cycles cs from the founding set F: they are those that the rules give, and demand 3 speaks of them. Lists are of any
-- length, so it is said after every cycle.
pub record UnitsPromised (mode n F : ℕ) (cs : List Faults) (z : ℕ → List ℕ) : Type 0 where
  pub states : (q : ℕ) → q < n → z q ≡ image_of (record { state = at (cluster_after (in_mode mode n) 0 F cs).row q; id = q; nodes = n })
  pub claims : Demand3 (in_mode mode n) 0 F

-- under fault records; request 3: "All nodes of a press are in the same mode": every accepted call has it
abbrev pub OverUnits : Entries → Type 1
OverUnits E = (mode n F : ℕ) (cs : List Faults) (x z : ℕ → List ℕ) → Begins E n F x → Pressed E mode n cs x z → UnitsPromised mode n F cs z

-- under the records that say what came
abbrev pub OverAnyBus : Entries → Type 1
OverAnyBus E = (mode n F : ℕ) (cs : List Faults) (x z : ℕ → List ℕ) → Begins E n F x → SoundPressed E mode n (founding n 0 F) cs x z → UnitsPromised mode n F cs z
