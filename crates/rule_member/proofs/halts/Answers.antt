use mathlib.Core.Path.{◌≡◌, sym, ap, ◌∙◌}
use mathlib.Core.Bool.{cond}
use Rattle.sets.specs.Sets.{any}
use Rattle.state.specs.declared.Reason.TheVariants.{NoQuorum, Outvoted}
use Rattle.state.specs.declared.State.TheVariants.{Out}
use Rattle.rules.specs.OneCycle.{Ballots, rival, member_decides}
use Rattle.rules.specs.Ballots.{ballots_of}
use Rattle.rules.proofs.Counting.{cond-taken, cond-left}
use Rattle.rules.proofs.Own.{others, decides-out}
use Rattle.rules.proofs.Slots.{one_less}
use Rattle.rule_member.proofs.halts.Goals as goal

pub any_agreed-requires : goal.any_agreed-requires
any_agreed-requires c =
    let a = c.args in record { n_bound = c.requires.nodes_bound.0; one_vote = one_less a.groups.now.numbers a.groups.now.sets a.groups.now.bases a.views.now a.config.nodes a.present a.lead c.single.result c.difference-theirs.result c.difference-theirs.ensures c.requires.one_vote }

pub returns-then-any_agreed : goal.returns-then-any_agreed
returns-then-any_agreed c =
    let arrived : Ballots = let a = c.args in ballots_of a.groups.now.numbers a.groups.now.sets a.groups.now.bases a.views.now a.present in
    let halted : member_decides c.args.config c.args.q c.args.own (arrived) ≡ cond c.any_agreed.result (Out Outvoted) (Out NoQuorum) = let a = c.args in
    decides-out a.config a.q a.own (arrived) _ c.requires.own_value
    (c.any_agreed.ensures
    ∙ ap (λ (b : Ballots). any a.config.nodes (λ p. rival a.config.nodes b a.own.group (b p))) (others a.groups.now.numbers a.groups.now.sets a.groups.now.bases a.views.now a.config.nodes a.present a.q _ _ c.single.ensures c.difference-theirs.ensures)) in
    sym (halted ∙ cond-taken _ _ _ c.if-any_agreed.true)

pub returns-else-any_agreed : goal.returns-else-any_agreed
returns-else-any_agreed c =
    let arrived : Ballots = let a = c.args in ballots_of a.groups.now.numbers a.groups.now.sets a.groups.now.bases a.views.now a.present in
    let halted : member_decides c.args.config c.args.q c.args.own (arrived) ≡ cond c.any_agreed.result (Out Outvoted) (Out NoQuorum) = let a = c.args in
    decides-out a.config a.q a.own (arrived) _ c.requires.own_value
    (c.any_agreed.ensures
    ∙ ap (λ (b : Ballots). any a.config.nodes (λ p. rival a.config.nodes b a.own.group (b p))) (others a.groups.now.numbers a.groups.now.sets a.groups.now.bases a.views.now a.config.nodes a.present a.q _ _ c.single.ensures c.difference-theirs.ensures)) in
    sym (halted ∙ cond-left _ _ _ c.if-any_agreed.false)
