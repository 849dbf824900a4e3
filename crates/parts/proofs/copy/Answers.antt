use mathlib.Core.Path.{sym, ◌∙◌}
use Rattle.parts.proofs.Laws.{part_none}
use Rattle.parts.proofs.Copies.{copied_next, copied_all}
use Rattle.parts.proofs.copy.Goals as goal

pub loop-i-init : goal.loop-i-init
loop-i-init c = sym (part_none 0 c.args.f.now)

pub loop-i-preserved : goal.loop-i-preserved
loop-i-preserved c = let l = c.loop-i in copied_next c.args.x.now c.args.f.now l.f l.i c.loop-i-test.true c.requires l.invariant

pub returns-clause-after : goal.returns-clause-after
returns-clause-after c = let l = c.loop-i in l.invariant ∙ copied_all c.args.x.now c.args.f.now l.i c.loop-i-test.false
