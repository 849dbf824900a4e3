use Rattle.sets.proofs.include.Goals as goal

pub returns-then-yes : goal.returns-then-yes
returns-then-yes c = cc
