use mathlib.Core.Path.{◌≡◌, sym, ◌∙◌}
use native.Mathlib.Omega.{arith}
use Rattle.rules.specs.OneCycle.{Ballots, voters, wins, with_own}
use Rattle.rules.specs.Ballots.{ballots_of}
use Rattle.rules.proofs.Own.{own-tally, wins_by, decides-on}
use Rattle.rules.proofs.Slots.{one_none}
use Rattle.rule_member.proofs.member_decides.Goals as goal

pub halts-requires : goal.halts-requires
halts-requires c =
    let arrived : Ballots = ballots_of c.args.groups.now.numbers c.args.groups.now.sets c.args.groups.now.bases c.args.views.now c.args.present in
    let mine : c.with_own-mine.result ≡ voters c.args.config.nodes (with_own c.args.q c.args.own (arrived)) c.args.own = let a = c.args in
    own-tally a.groups.now.numbers a.groups.now.sets a.groups.now.bases a.views.now a.config.nodes a.present a.q _ _ c.single.ensures c.difference-others.ensures a.own _ _ c.requires.1 c.equal_votes-alike.ensures c.with_own-mine.ensures in
    let won : c.is_quorum.result ≡ wins c.args.config.nodes (with_own c.args.q c.args.own (arrived)) c.args.own = let a = c.args in wins_by a.config.nodes _ (with_own a.q a.own (arrived)) a.own _ (mine) c.is_quorum.ensures in
    let a = c.args in record { nodes_bound = (c.requires.0, omega (arith, c.requires.0, c.requires.1)); one_vote = one_none a.groups.now.numbers a.groups.now.sets a.groups.now.bases a.views.now a.config.nodes a.present; own_value = sym (won) ∙ c.if-is_quorum.false }

pub returns-then-is_quorum : goal.returns-then-is_quorum
returns-then-is_quorum c =
    let arrived : Ballots = ballots_of c.args.groups.now.numbers c.args.groups.now.sets c.args.groups.now.bases c.args.views.now c.args.present in
    let mine : c.with_own-mine.result ≡ voters c.args.config.nodes (with_own c.args.q c.args.own (arrived)) c.args.own = let a = c.args in
    own-tally a.groups.now.numbers a.groups.now.sets a.groups.now.bases a.views.now a.config.nodes a.present a.q _ _ c.single.ensures c.difference-others.ensures a.own _ _ c.requires.1 c.equal_votes-alike.ensures c.with_own-mine.ensures in
    let won : c.is_quorum.result ≡ wins c.args.config.nodes (with_own c.args.q c.args.own (arrived)) c.args.own = let a = c.args in wins_by a.config.nodes _ (with_own a.q a.own (arrived)) a.own _ (mine) c.is_quorum.ensures in
    let a = c.args in
    c.member_on.ensures ∙ sym (decides-on a.config a.q a.own (arrived) _ (mine) (sym (won) ∙ c.if-is_quorum.true))

pub returns-else-is_quorum : goal.returns-else-is_quorum
returns-else-is_quorum c = c.halts.ensures
