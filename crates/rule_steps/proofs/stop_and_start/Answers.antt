use mathlib.Core.Logic.{⊎_elim}
use Rattle.sets.proofs.Booleans.{bool}
use Rattle.rules.specs.OneCycle.{stop_and_start}
use Rattle.rule_steps.proofs.stop_and_start.Goals as goal
use Rattle.rule_steps.proofs.stop_and_start.Goals.{then-stop, else-stop}

pub returns-then-start : goal.returns-then-start
unfolding stop_and_start
returns-then-start c = elim c.if-stop.branch [ then-stop w ↦ cc | else-stop w ↦ cc ]

pub returns-else-start : goal.returns-else-start
unfolding stop_and_start
returns-else-start c = elim c.if-stop.branch [ then-stop w ↦ cc | else-stop w ↦ cc ]

pub returns-in-Joining : goal.returns-in-Joining
unfolding stop_and_start
returns-in-Joining c =
    ⊎_elim
    (λ e. elim c.if-stop.branch [ then-stop w ↦ cc | else-stop w ↦ ⊎_elim (λ b. cc) (λ b. cc) (bool c.args.start) ])
    (λ e. let is = e.2 in elim c.if-stop.branch [ then-stop w ↦ cc | else-stop w ↦ ⊎_elim (λ b. cc) (λ b. cc) (bool c.args.start) ])
    c.in-Joining.is
