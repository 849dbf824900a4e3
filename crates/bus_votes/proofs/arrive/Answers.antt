use Rattle.std.proofs.Common.{◌≡◌, ℕ, ◌+◌, ◌<◌, length, set, ap, ap₂, refl, sym, subst, ◌∙◌, arith}
use Rattle.sets.specs.Sets.{single, ◌∪◌}
use Rattle.rules.specs.Ballots.{with_group}
use lib.ListN.{length-replicate}
use Rattle.rules.specs.declared.Groups.{Groups}
use Rattle.bus_channels.specs.Channels.{vote_read}
use Rattle.bus_votes.proofs.Filled.{Filled, filled_none, filled_skip, filled_next, filled_ballots}
use Rattle.bus_votes.proofs.arrive.Goals as goal
use Rattle.bus_votes.proofs.arrive.Goals.{in-Some, in_default}

pub loop-p-init : goal.loop-p-init
loop-p-init c =
    let e = c.zeros.ensures in
    filled_none _ _ refl
    (ap (λ (g : Groups). length g.numbers) e ∙ length-replicate {A = ℕ} 64 0)
    (ap (λ (g : Groups). length g.sets) e ∙ length-replicate {A = ℕ} 64 0)
    (ap (λ (g : Groups). length g.bases) e ∙ length-replicate {A = ℕ} 64 0) refl

pub loop-p-preserved : goal.loop-p-preserved
loop-p-preserved c =
    let l = c.loop-p in
    let R = vote_read c.args.n c.args.bus.count c.args.bus.reach c.args.bus.a.now c.args.bus.b.now in
    elim c.match-read_vote.branch [
      | in-Some w ↦
          let v = w.in-Some.vote in
          let filled : c.match-read_vote.arrived ≡ record { present = single l.p ∪ l.arrived.present; groups = with_group l.arrived.groups l.p v.group; views = set l.arrived.views l.p v.view } =
          w.arrived-is ∙ ap₂ (λ (x : ℕ) (g : Groups). record { present = x; groups = g; views = set l.arrived.views l.p v.view })
          (w.union.ensures ∙ ap (λ (x : ℕ). x ∪ l.arrived.present) w.single.ensures) w.put.ensures in
          let l64 : l.p < 64 = omega arith in
          subst (Filled R (l.p + 1)) (sym filled) (filled_next R l.arrived l.p l.invariant v l64 (sym c.read_vote.ensures ∙ w.in-Some.is))
      | in_default w ↦ subst (Filled R (l.p + 1)) (sym w.arrived-is) (filled_skip R l.arrived l.p l.invariant (sym c.read_vote.ensures ∙ w.in_default.is))
    ]

pub returns : goal.returns
returns c = let done : c.loop-p.p ≡ c.args.n = omega arith in filled_ballots _ _ _ _ _ _ _ c.loop-p.invariant done
