use mathlib.Core.Bool.{Bool, true, cond}
use mathlib.Core.Path.{◌≡◌, sym, ◌∙◌}
use Prim.Native.Nat.{ℕ, ◌<◌}
use native.Mathlib.Omega.{arith}
use Rattle.sets.specs.Sets.{has, those, lowest, subset}
use Rattle.state.specs.declared.State.TheVariants.{Joining}
use Rattle.rules.specs.declared.Vote.{Vote}
use Rattle.rules.specs.OneCycle.{enters_with, joiner_decides}
use Rattle.rules.specs.Ballots.{fits_at}
use Rattle.rules.proofs.Counting.{cond-taken, cond-left}
use Rattle.cluster_tallies.specs.declared.Tallied.{Tallied}
use Rattle.cluster_tallies.specs.Grouped.{Within, spread_at}
use Rattle.cluster_tallies.specs.Tallied.{vote_of, arrived}
use Rattle.cluster_tallies.proofs.Tallies.{enters-nowhere, first_fits, first-present, enters-with, entrant-with}
use Rattle.cluster_tallies.proofs.Tallied.joiner_decides.Goals as goal

-- the first slot that fits, and what a node does by it
module _ (t : Tallied) (q present fit first : ℕ) (inside : Within present t.voting) (e : fit ≡ those t.config.nodes (fits_at t.config.nodes q (arrived t present))) (found : fit ≡ 0 → ⊥) (low : first ≡ lowest 64 (λ x. has x fit)) where
  slot-first : (first < t.config.nodes) × ((first < 64) × (has first present ≡ true))
  slot-first =
      let l = (first_fits _ _ _ _ t.config t.voting present inside t.lead t.same t.grouped q fit e first found low t.bounded).0 in
      (l, (omega (arith, l, t.bounded), first-present _ _ _ _ t.config t.voting present inside t.lead t.same t.grouped q fit e first found low t.bounded))

  entered : (votes : ℕ) (v : Vote) (r : Bool) → v ≡ vote_of t first → votes ≡ spread_at t.lead t.same first → r ≡ subset fit votes
      → joiner_decides t.config q (arrived t present) ≡ cond r (enters_with t.config (arrived t present) v) Joining
  entered = enters-with _ _ _ _ t.config t.voting present inside t.lead t.same t.grouped q fit e first found low t.bounded

pub returns-then-fit-eq0 : goal.returns-then-fit-eq0
returns-then-fit-eq0 c =
    let t = c.args.self.now in
    sym (enters-nowhere _ _ _ _ t.config t.voting c.args.present c.requires.within t.lead t.same t.grouped c.args.q _ c.fitting-fit.ensures c.if-fit-eq0.true)

pub vote_at-v-requires : goal.vote_at-v-requires
vote_at-v-requires c =
    (slot-first c.args.self.now c.args.q c.args.present _ _ c.requires.within c.fitting-fit.ensures c.if-fit-eq0.false c.lowest-first.ensures).1.0

pub votes_like-votes-requires : goal.votes_like-votes-requires
votes_like-votes-requires c =
    (slot-first c.args.self.now c.args.q c.args.present _ _ c.requires.within c.fitting-fit.ensures c.if-fit-eq0.false c.lowest-first.ensures).1.0

pub returns-then-subset : goal.returns-then-subset
returns-then-subset c =
    let t = c.args.self.now in
    let first = slot-first t c.args.q c.args.present _ _ c.requires.within c.fitting-fit.ensures c.if-fit-eq0.false c.lowest-first.ensures in
    c.enters_with.ensures
    ∙ entrant-with _ _ _ _ t.config t.voting c.args.present c.requires.within t.lead t.same t.grouped c.lowest-first.result _ _ _ first.0 (c.requires.within c.lowest-first.result first.1.1) c.vote_at-v.ensures c.votes_like-votes.ensures c.tally.ensures
    ∙ sym (entered t c.args.q c.args.present _ _ c.requires.within c.fitting-fit.ensures c.if-fit-eq0.false c.lowest-first.ensures _ _ _ c.vote_at-v.ensures c.votes_like-votes.ensures c.subset.ensures ∙ cond-taken _ _ _ c.if-subset.true)

pub returns-else-subset : goal.returns-else-subset
returns-else-subset c =
    sym (entered c.args.self.now c.args.q c.args.present _ _ c.requires.within c.fitting-fit.ensures c.if-fit-eq0.false c.lowest-first.ensures _ _ _ c.vote_at-v.ensures c.votes_like-votes.ensures c.subset.ensures ∙ cond-left _ _ _ c.if-subset.false)
