-- The flags of the card and the columns of a printed run speak of the same cycle. Assumes nothing.
use mathlib.Core.Path.{◌≡◌, refl, sym, ap₂, ◌∙◌, subst}
use mathlib.Core.Bool.{Bool, false, ◌&&◌}
use Prim.Native.Nat.{ℕ, ◌<◌}
use Rattle.sets.specs.Sets.{has}
use Rattle.sets.proofs.Nodes.{those_in}
use Rattle.state.specs.declared.State.{State}
use Rattle.state.specs.declared.State.TheVariants.{Out, Joining, Member}
use Rattle.state.specs.State.{halted}
use Rattle.rules.specs.declared.Faults.{Faults}
use Rattle.rules.specs.declared.Config.{Config}
use Rattle.rules.specs.OneCycle.{stopped, stop_and_start, sends_member, sends_join}
use Rattle.rules.specs.Faults.{Row, at, rule_one, cycle}
use Rattle.rules.specs.Reference.{halted_in, entered_in}
use Rattle.rules.proofs.Rows.{get-tabulate}
use Rattle.registers.specs.Steps.{halted_by, entered_by, raised_by}

halted_by_lem : (s t : State) → halted_by s t ≡ (sends_member s && halted t)
halted_by_lem (Out r) t = refl
halted_by_lem Joining t = refl
halted_by_lem (Member g a) t = refl

entered_by_lem : (s t : State) → entered_by s t ≡ (sends_join s && sends_member t)
entered_by_lem (Out r) t = refl
entered_by_lem Joining (Out r) = refl
entered_by_lem Joining Joining = refl
entered_by_lem Joining (Member h b) = refl
entered_by_lem (Member g a) t = refl

-- In every cycle of the rules: of the state as the heartbeats go out and the one after the cycle, a node raises halted exactly if it is among the halted of the run, and
-- entered exactly if it is among the entered.
pub flags_of_a_cycle : (C : Config) (c : Faults) (row : Row) (q : ℕ) → q < C.nodes → let f = raised_by (at (rule_one C.nodes c row) q) (at (cycle C c row) q) in
    (f.halted ≡ has q (halted_in C c row)) × (f.entered ≡ has q (entered_in C c row))
unfolding raised_by halted_in entered_in
flags_of_a_cycle C c row q l =
    let before = at (rule_one C.nodes c row) q in
    let left = at (cycle C c row) q in
    (halted_by_lem before left ∙ sym (those_in q C.nodes _ l), entered_by_lem before left ∙ sym (those_in q C.nodes _ l))

-- rule 1 leaves a node that is neither stopped nor started
left_alone_lem : (n : ℕ) (c : Faults) (row : Row) (q : ℕ) → q < n → has q c.stop ≡ false → has q c.start ≡ false → at (rule_one n c row) q ≡ at row q
unfolding rule_one stop_and_start
left_alone_lem n c row q l a b =
    get-tabulate n q (λ x. stop_and_start (has x c.stop) (has x c.start) (at row x)) stopped l
    ∙ ap₂ (λ (stop start : Bool). stop_and_start stop start (at row q)) a b

-- so that of one that is neither, the states before and after the cycle say it
pub flags_of_a_run : (C : Config) (c : Faults) (row : Row) (q : ℕ) → q < C.nodes → has q c.stop ≡ false → has q c.start ≡ false
    → ((raised_by (at row q) (at (cycle C c row) q)).halted ≡ has q (halted_in C c row)) × ((raised_by (at row q) (at (cycle C c row) q)).entered ≡ has q (entered_in C c row))
flags_of_a_run C c row q l a b =
    subst (λ (s : State). ((raised_by s (at (cycle C c row) q)).halted ≡ has q (halted_in C c row)) × ((raised_by s (at (cycle C c row) q)).entered ≡ has q (entered_in C c row)))
    (left_alone_lem C.nodes c row q l a b) (flags_of_a_cycle C c row q l)
