use mathlib.Core.Bool.{◌&&◌}
use mathlib.Core.Option.{some}
use mathlib.Core.Path.{◌≡◌, sym, ap, ◌∙◌}
use Rattle.rules.specs.OneCycle.{Ballots, wins, fits}
use Rattle.rules.specs.Ballots.{fits_at}
use Rattle.rules.proofs.Counting.{and_taken, and_left}
use Rattle.rules.proofs.Slots.{slot-full, slot-empty}
use Rattle.rules.proofs.Entering.{fits_test}
use Rattle.cluster_tallies.specs.Tallied.{arrived}
use Rattle.cluster_tallies.proofs.Tallies.{slot-wins}
use Rattle.cluster_tallies.proofs.Tallied.fits_at.Goals as goal

pub returns-then-contains-2 : goal.returns-then-contains-2
returns-then-contains-2 c =
    let t = c.args.self.now in
    let p = c.args.p in
    let b : Ballots = arrived t c.args.present in
    let here = sym c.contains.ensures ∙ c.if-contains.true in
    let full = slot-full _ _ _ _ c.args.present p here in
    let tested : fits_at t.config.nodes c.args.q b p ≡ (c.contains-then-contains.result && wins t.config.nodes b c.vote_at-v.result) =
    fits_test t.config.nodes c.args.q b _ c.vote_at-v.result _ _ (full ∙ ap some (sym c.vote_at-v.ensures)) c.difference.ensures c.contains-then-contains.ensures in
    slot-wins _ _ _ _ t.config.nodes t.voting c.args.present c.requires.within t.lead t.same t.grouped p _ _ c.vote_at-v.result _ c.requires.are_nodes.1 here c.vote_at-v.ensures c.votes_like-votes.ensures c.tally.ensures c.is_quorum.ensures
    ∙ sym (tested ∙ and_taken c.contains-then-contains.result _ c.if-contains-2.true)

pub returns-else-contains-2 : goal.returns-else-contains-2
returns-else-contains-2 c =
    let t = c.args.self.now in
    let p = c.args.p in
    let b : Ballots = arrived t c.args.present in
    let full = slot-full _ _ _ _ c.args.present p (sym c.contains.ensures ∙ c.if-contains.true) in
    let tested : fits_at t.config.nodes c.args.q b p ≡ (c.contains-then-contains.result && wins t.config.nodes b c.vote_at-v.result) =
    fits_test t.config.nodes c.args.q b _ c.vote_at-v.result _ _ (full ∙ ap some (sym c.vote_at-v.ensures)) c.difference.ensures c.contains-then-contains.ensures in
    c.if-contains-2.false ∙ sym (tested ∙ and_left c.contains-then-contains.result _ c.if-contains-2.false)

pub returns-else-contains : goal.returns-else-contains
returns-else-contains c =
    let t = c.args.self.now in
    c.if-contains.false
    ∙ sym (ap (fits t.config.nodes c.args.q (arrived t c.args.present)) (slot-empty _ _ _ _ c.args.present c.args.p (sym c.contains.ensures ∙ c.if-contains.false)))
