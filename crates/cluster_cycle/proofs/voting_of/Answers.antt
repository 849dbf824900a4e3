use mathlib.Core.Path.{ap₂, ◌∙◌}
use mathlib.Core.Bool.{Bool, ◌&&◌}
use Prim.Native.Nat.{ℕ}
use native.Mathlib.Omega.{arith}
use lib.ListN.{get_or}
use borrow.Author.Tests.{not-true}
use Rattle.sets.specs.Sets.{has}
use Rattle.sets.proofs.Nodes.{those-none, those-next, those_end}
use Rattle.rules.specs.OneCycle.{called, will_vote}
use Rattle.cluster_states.specs.Decided.{votes_at, voting_of}
use Rattle.cluster_states.proofs.Whole.{all-vote}
use Rattle.cluster_cycle.proofs.voting_of.Goals as goal

pub returns-then-not-config : goal.returns-then-not-config
returns-then-not-config c =
    let a = c.args in
    all-vote a.config a.sets.now a.views.now a.w a.requests a.missed.now (not-true a.config.quiet c.if-not-config.true) c.requires.below

pub loop-p-init : goal.loop-p-init
loop-p-init c = those-none _

pub loop-p-preserved : goal.loop-p-preserved
loop-p-preserved c =
    let a = c.args in
    let p = c.loop-p.p in
    let heard = ap₂ (λ (x : Bool) (y : ℕ). will_vote a.config (get_or a.sets.now p 0) (get_or a.views.now p 0) (called (get_or a.sets.now p 0) x y)) c.contains-own.ensures c.difference-heard.ensures in
    those-next p _ c.loop-p.m c.include-m.result _ c.loop-p.invariant (ap₂ (λ (x y : Bool). x && y) c.contains.ensures (c.will_vote-called.ensures ∙ heard)) c.include-m.ensures

pub returns : goal.returns
unfolding voting_of
returns c =
    let votes_here : ℕ → Bool = λ j. let a = c.args in has j a.w.members && votes_at a.config a.sets.now a.views.now a.w.asking a.requests a.missed.now j in
    those_end c.loop-p.p c.args.config.nodes (votes_here) c.loop-p.m c.loop-p.invariant (omega arith)
