-- Paper 01: demand 3 speaks "likewise of the whole cycles of a refused table that `grouprun` prints, from that table's beginning"; with request 3, of what either program prints.
-- Assumes nothing.
use Rattle.std.specs.Prelude.{◌≡◌, Bool, true, false, List, [], ◌∷◌, ◌++◌, ℕ, suc, length}
use Rattle.std.proofs.Math.Option.{some}
use Rattle.state.specs.declared.Group.{Group}
use Rattle.rules.specs.declared.Faults.{Faults}
use Rattle.rules.specs.declared.Config.{Config}
use Rattle.rules.specs.OneCycle.{config_of}
use Rattle.rules.specs.Reference.{Cluster, beginning, keeps, halted_in, entered_in}
use Rattle.theorem_agreement.specs.Demand3.{Demand3, Kept, Reference, cluster_after}
use Rattle.table.specs.Table.{table_of}
use Rattle.print_run.specs.Printed.{header_line, fields, lines, refused_line, printed}

-- the press of the table s in a program's mode, and its beginning
abbrev pub table_press : Bool → List ℕ → Config
table_press quiet s = config_of quiet (table_of false 0 s).nodes

abbrev pub founders_of : List ℕ → ℕ
founders_of s = (table_of false 0 s).founding

-- after the first cycles of the table
abbrev pub cluster_at : Bool → List ℕ → List Faults → Cluster
cluster_at quiet s past = cluster_after (table_press quiet s) 0 (founders_of s) past

-- all that is printed of s, its whole cycles being `past`, then c, then `rest`: x stands where the line of c is
abbrev pub around : Bool → List ℕ → List Faults → Faults → List Faults → List ℕ → List ℕ
around quiet s past c rest x =
    header_line
    ++ (lines (table_press quiet s) 1 (beginning (table_press quiet s) 0 (founders_of s)) past
    ++ (x ++ (lines (table_press quiet s) (suc (suc (length past))) (cluster_at quiet s (past ++ (c ∷ []))) rest ++ refused_line (table_of false 0 s).cycles.refusal)))

-- Of the cycle c of the table: if it meets the premise, all before it did, and its line shows number and set of the group of record that demand 3 speaks of.
pub record PrintedCycle (quiet : Bool) (s : List ℕ) (past : List Faults) (c : Faults) (rest : List Faults) : Type 0 where
  pub shows : keeps (table_press quiet s) (cluster_at quiet s past) c ≡ true → (g : Group) × Kept (table_press quiet s) 0 (founders_of s) (past ++ (c ∷ []))
      × Reference (cluster_at quiet s (past ++ (c ∷ []))) g
      × (printed quiet s
      ≡ around quiet s past c rest
      (fields (suc (length past)) true (some g) (halted_in (table_press quiet s) c (cluster_at quiet s past).row) (entered_in (table_press quiet s) c (cluster_at quiet s past).row)))
  pub claims : Demand3 (table_press quiet s) 0 (founders_of s)

-- of every whole cycle of every table, refused later on or not, in both modes
abbrev pub OverPrinted : Type 0
OverPrinted = (quiet : Bool) (s : List ℕ) (past : List Faults) (c : Faults) (rest : List Faults) → (table_of false 0 s).cycles.whole ≡ past ++ (c ∷ rest) → PrintedCycle quiet s past c rest
