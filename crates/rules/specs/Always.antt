-- A press that votes in every cycle, as paper 01 has it: a cycle in which every member votes and goes by its vote, whatever else a state says of it. Request 3:
-- "Comparison is made with these rules on a quiet press, with document 01 otherwise."
-- Assumes nothing.
--     always_vote: what a node sends as its vote
--     always_decides: what a node decides
--     always_cycle: one whole cycle
use Rattle.std.specs.Prelude.{ℕ}
use Rattle.std.proofs.Math.Option.{Option, none, some}
use Rattle.state.specs.declared.State.{State}
use Rattle.state.specs.declared.State.TheVariants.{Out, Joining, Member}
use Rattle.rules.specs.declared.Vote.{Vote}
use Rattle.rules.specs.declared.Faults.{Faults}
use Rattle.rules.specs.OneCycle.{Ballots, of_nodes, member_decides, joiner_decides}
use Rattle.rules.specs.Faults.{Row, at, tabulate, rule_one, own_vote, arrived_at}

-- 4. "A member's vote is G, M, B and V. Joining nodes do not vote."
abbrev pub always_vote : ℕ → Faults → Row → ℕ → State → Option Vote
always_vote N c r q (Out k) = none
always_vote N c r q Joining = none
always_vote N c r q (Member g a) = some (own_vote N c r q g)

-- 5 and 6
abbrev pub always_decides : ℕ → Faults → Row → ℕ → State → Ballots → State
always_decides N c r q (Out k) b = Out k
always_decides N c r q Joining b = joiner_decides (of_nodes N) q b
always_decides N c r q (Member g a) b = member_decides (of_nodes N) q (own_vote N c r q g) b

unfoldable pub always_cycle : ℕ → Faults → Row → Row
always_cycle N c row =
    let r = rule_one N c row in
    let sent = tabulate N (λ q. always_vote N c r q (at r q)) in
    tabulate N (λ q. always_decides N c r q (at r q) (arrived_at c sent q))
