use lib.ListN.{get_or}
use Rattle.sets.specs.Sets.{◌∖◌}
use Rattle.cluster_states.proofs.Deciding.{Holds}
use Rattle.bus_channels.specs.Channels.{decided_read}
use Rattle.bus_cycle.proofs.decisions.Given as goal

abbrev pub invariant-loop-q : goal.invariant-loop-q
invariant-loop-q l =
    Holds (λ j. decided_read l.groups.numbers l.groups.sets l.groups.bases l.views l.config l.bus.count l.w l.voting (l.bus.reach ∖ get_or l.missed j 0) l.bus.a.now l.bus.b.now j)
    l.q l.next.roles l.next.groups.numbers l.next.groups.sets l.next.groups.bases
