-- Paper 01, "Table file": a whole table, "looked at record by record".
-- Assumes nothing.
use Rattle.std.specs.Prelude.{Bool, cond, List, [], ◌∷◌, ℕ, zero, suc, eqb, length, drop}
use Rattle.rules.specs.declared.Faults.{Faults}
use Rattle.table.specs.Records.{start_length, count_at, founding_at, start_refusal, cycle_length, cycle_refusal, faults_at}

-- the whole cycles of the records in s, the first of which is cycle k, and the refusal after them, 0 if there is none; `most` is at least their number
pub record Cycles : Type 0 where
  pub whole : List Faults
  pub refusal : ℕ

abbrev pub with_cycle : Faults → Cycles → Cycles
with_cycle c r = record { whole = c ∷ r.whole; refusal = r.refusal }

unfoldable pub cycles_in : ℕ → ℕ → ℕ → List ℕ → Cycles
cycles_in zero n k s = record { whole = []; refusal = 0 }
cycles_in (suc most) n k s =
    let next = with_cycle (faults_at s) (cycles_in most n (suc k) (drop (cycle_length s) s)) in
    let here = cond (eqb (cycle_refusal n k s) 0) next (record { whole = []; refusal = cycle_refusal n k s }) in
    cond (eqb (length s) 0) (record { whole = []; refusal = 0 }) here

-- a table: N and the founding set, the whole cycles, and the refusal; nothing before the refusal of its first record
pub record Table : Type 0 where
  pub nodes : ℕ
  pub founding : ℕ
  pub cycles : Cycles

unfoldable pub table_of : Bool → ℕ → List ℕ → Table
table_of lent entries s =
    record {
      nodes = count_at s;
      founding = founding_at s;
      cycles =
          cond (eqb (start_refusal lent entries s) 0) (cycles_in (length s) (count_at s) 1 (drop start_length s))
          (record { whole = []; refusal = start_refusal lent entries s });
    }
