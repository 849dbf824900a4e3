use mathlib.Core.Path.{refl, sym, ap, subst, ◌∙◌}
use Prim.Native.Nat.{ℕ, ◌<◌, ◌+◌}
use native.Mathlib.Omega.{arith}
use lib.ListN.{get_or, length, length-replicate}
use Rattle.std.specs.Prelude.{Option, IfSome}
use Rattle.sets.specs.Sets.{◌∖◌}
use Rattle.state.specs.declared.State.{State}
use Rattle.state.specs.declared.State.TheVariants.{Member}
use Rattle.rules.specs.declared.Groups.{Groups}
use Rattle.cluster_tallies.specs.Grouped.{Within}
use Rattle.cluster_cycle.specs.declared.Followed.{Followed}
use Rattle.cluster_cycle.specs.Follows.{Worth, decides}
use Rattle.cluster_tallies.proofs.Tallies.{inside_less}
use Rattle.cluster_cycle.proofs.Keeping.{kept-worth, followed-some, IfSome_at}
use Rattle.cluster_states.proofs.Deciding.{Holds, none-by_parts, holds_none, holds_next, holds_state}
use Rattle.cluster_cycle.proofs.decisions.Goals as goal
use Rattle.cluster_cycle.proofs.decisions.Goals.{in-Some, in_default}

pub loop-q-init : goal.loop-q-init
loop-q-init c =
    let zeros = c.requires.zeros in (
      holds_none _ _ _ _ _ (none-by_parts _ c.default-next.ensures) (ap (λ (g : Groups). length g.numbers) zeros ∙ length-replicate {A = ℕ} 64 0) (ap (λ (g : Groups). length g.sets) zeros ∙ length-replicate {A = ℕ} 64 0) (ap (λ (g : Groups). length g.bases) zeros ∙ length-replicate {A = ℕ} 64 0),
      tt,
    )

pub decide-d-requires-clause-within : goal.decide-d-requires-clause-within
decide-d-requires-clause-within c = inside_less c.args.sent _ _ c.args.votes.now.voting c.requires.within c.difference-came.ensures

pub loop-q-preserved : goal.loop-q-preserved
loop-q-preserved c =
    let t = c.args.votes.now in
    let decided : ℕ → State = λ q. decides t c.args.w (c.args.sent ∖ get_or c.args.missed.now q 0) q in
    let worth : Option Followed → Type 0 = λ k. IfSome k (Worth t.groups.now.numbers t.groups.now.sets t.groups.now.bases t.views.now t.config c.args.w t.voting) in
    let inside : Within c.difference-came.result t.voting = inside_less c.args.sent _ _ t.voting c.requires.within c.difference-came.ensures in
    let below64 : c.loop-q.q < 64 = omega (arith, t.bounded) in
    let arrived = ap (λ (x : ℕ). decides t c.args.w x c.loop-q.q) c.difference-came.ensures in
    elim c.match-followed_by.branch [
      | in-Some w ↦
          let k = w.in-Some.k in
          let found = followed-some c.loop-q.kept k c.difference-came.result c.loop-q.q w.in-Some.ensures in (
            subst (λ (g : Groups). Holds decided (c.loop-q.q + 1) c.match-followed_by.next g.numbers g.sets g.bases) (sym (w.after-is ∙ w.put.ensures))
                (holds_next decided c.loop-q.q c.loop-q.next _ _ _ _ (Member k.group k.request) k.group below64 c.loop-q.invariant.0
                (sym (IfSome_at c.loop-q.kept k _ found.0 c.loop-q.invariant.1 c.loop-q.q c.difference-came.result c.loop-q-test.true inside found.1) ∙ arrived) refl (w.next-is ∙ w.with_state-next.ensures)),
            subst worth (sym w.kept-is) c.loop-q.invariant.1,
          )
      | in_default w ↦ (
        subst (λ (g : Groups). Holds decided (c.loop-q.q + 1) c.match-followed_by.next g.numbers g.sets g.bases) (sym (w.after-is ∙ w.put-in_default.ensures))
            (holds_next decided c.loop-q.q c.loop-q.next _ _ _ _ w.decide-d.result w.group_held.result below64 c.loop-q.invariant.0 (w.decide-d.ensures ∙ arrived) w.group_held.ensures (w.next-is ∙ w.with_state-next-in_default.ensures)),
        subst worth (sym (w.kept-is ∙ w.keep-kept.ensures))
            (kept-worth _ _ _ _ t.config c.args.w t.voting t.lead t.same t.grouped c.loop-q.q c.difference-came.result w.decide-d.result c.loop-q.kept c.loop-q-test.true inside w.decide-d.ensures c.loop-q.invariant.1),
      )
    ]

pub returns : goal.returns
returns c =
    let t = c.args.votes.now in
    let l = c.loop-q in
    holds_state (λ q. decides t c.args.w (c.args.sent ∖ get_or c.args.missed.now q 0) q) t.config.nodes l.q l.next l.after.numbers l.after.sets l.after.bases l.invariant.0 (omega arith)
