use mathlib.Core.Path.{sym, ap, subst, ◌∙◌}
use Prim.Native.Nat.{ℕ, ◌+◌, ◌<◌}
use native.Mathlib.Omega.{arith}
use lib.ListN.{get_or, length, length-replicate}
use Rattle.sets.specs.Sets.{◌∖◌}
use Rattle.state.specs.declared.State.{State}
use Rattle.rules.specs.declared.Groups.{Groups}
use Rattle.cluster_states.proofs.Deciding.{Holds, none-by_parts, holds_none, holds_next, holds_state}
use Rattle.bus_channels.specs.Channels.{decided_read}
use Rattle.bus_cycle.proofs.decisions.Goals as goal

pub loop-q-init : goal.loop-q-init
loop-q-init c =
    let zeros = c.zeros.ensures in
    holds_none _ _ _ _ _ (none-by_parts _ c.default.ensures)
    (ap (λ (g : Groups). length g.numbers) zeros ∙ length-replicate {A = ℕ} 64 0)
    (ap (λ (g : Groups). length g.sets) zeros ∙ length-replicate {A = ℕ} 64 0)
    (ap (λ (g : Groups). length g.bases) zeros ∙ length-replicate {A = ℕ} 64 0)

pub loop-q-preserved : goal.loop-q-preserved
loop-q-preserved c =
    let a = c.args in
    let g = a.groups.now in
    let l = c.loop-q in
    let read : ℕ → ℕ → State = λ came j. decided_read g.numbers g.sets g.bases a.views.now a.config a.bus.count a.w a.voting came a.bus.a.now a.bus.b.now j in
    let decided : ℕ → State = λ j. read (a.bus.reach ∖ get_or a.missed.now j 0) j in
    let below64 : l.q < 64 = omega arith in
    subst (λ (x : Groups). Holds decided (l.q + 1) c.with_state-next.result x.numbers x.sets x.bases) (sym c.put.ensures)
    (holds_next decided l.q l.next.roles _ _ _ _ c.decide-d.result c.group_held.result below64 l.invariant
    (c.decide-d.ensures ∙ ap (λ (x : ℕ). read x l.q) c.difference.ensures) c.group_held.ensures c.with_state-next.ensures)

pub returns : goal.returns
returns c =
    let a = c.args in
    let g = a.groups.now in
    let l = c.loop-q in
    holds_state (λ j. decided_read g.numbers g.sets g.bases a.views.now a.config a.bus.count a.w a.voting (a.bus.reach ∖ get_or a.missed.now j 0) a.bus.a.now a.bus.b.now j)
    a.config.nodes l.q l.next.roles l.next.groups.numbers l.next.groups.sets l.next.groups.bases l.invariant (omega arith)
