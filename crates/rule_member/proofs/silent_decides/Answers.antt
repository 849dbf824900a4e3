use mathlib.Core.Path.{◌≡◌, sym, ap, ◌∙◌}
use mathlib.Core.Bool.{false, cond}
use Rattle.sets.specs.Sets.{any}
use Rattle.state.specs.declared.Reason.TheVariants.{Outvoted}
use Rattle.state.specs.declared.Group.{Group}
use Rattle.state.specs.declared.State.TheVariants.{Out, Member}
use Rattle.rules.specs.OneCycle.{Ballots, rival, rests, silent_decides}
use Rattle.rules.specs.Ballots.{ballots_of}
use Rattle.rules.proofs.Counting.{cond-taken, cond-left}
use Rattle.rules.proofs.Own.{others, silent_out}
use Rattle.rules.proofs.Slots.{one_less}
use Rattle.rule_member.proofs.silent_decides.Goals as goal

pub any_agreed-requires : goal.any_agreed-requires
any_agreed-requires c =
    let a = c.args in record { n_bound = c.requires.nodes_bound.0; one_vote = one_less a.groups.now.numbers a.groups.now.sets a.groups.now.bases a.views.now a.config.nodes a.present a.lead c.single.result c.difference-came.result c.difference-came.ensures c.requires.one_vote }

pub returns-then-any_agreed : goal.returns-then-any_agreed
returns-then-any_agreed c =
    let arrived : Ballots = let a = c.args in ballots_of a.groups.now.numbers a.groups.now.sets a.groups.now.bases a.views.now a.present in
    let decided : silent_decides c.args.config c.args.q c.args.group (arrived) ≡ cond c.any_agreed.result (Out Outvoted) (Member (rests c.args.group) false) = let a = c.args in
    silent_out a.config a.q a.group (arrived) _
    (c.any_agreed.ensures
    ∙ ap (λ (b : Ballots). any a.config.nodes (λ p. rival a.config.nodes b a.group (b p))) (others a.groups.now.numbers a.groups.now.sets a.groups.now.bases a.views.now a.config.nodes a.present a.q _ _ c.single.ensures c.difference-came.ensures)) in
    sym (decided ∙ cond-taken _ _ _ c.if-any_agreed.true)

pub returns : goal.returns
returns c =
    let arrived : Ballots = let a = c.args in ballots_of a.groups.now.numbers a.groups.now.sets a.groups.now.bases a.views.now a.present in
    let decided : silent_decides c.args.config c.args.q c.args.group (arrived) ≡ cond c.any_agreed.result (Out Outvoted) (Member (rests c.args.group) false) = let a = c.args in
    silent_out a.config a.q a.group (arrived) _
    (c.any_agreed.ensures
    ∙ ap (λ (b : Ballots). any a.config.nodes (λ p. rival a.config.nodes b a.group (b p))) (others a.groups.now.numbers a.groups.now.sets a.groups.now.bases a.views.now a.config.nodes a.present a.q _ _ c.single.ensures c.difference-came.ensures)) in
    ap (λ (g : Group). Member g false) c.resting.ensures ∙ sym (decided ∙ cond-left _ _ _ c.if-any_agreed.false)
