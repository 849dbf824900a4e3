-- The row that masks and arrays stand for.
-- Assumes nothing.
use Rattle.std.specs.Prelude.{cond, List, ℕ, get_or}
use Rattle.sets.specs.Sets.{has}
use Rattle.state.specs.declared.Reason.TheVariants.{Stopped, NoQuorum, Outvoted}
use Rattle.state.specs.declared.Group.{Group}
use Rattle.state.specs.declared.State.{State}
use Rattle.state.specs.declared.State.TheVariants.{Out, Joining, Member}
use Rattle.rules.specs.declared.Faults.{Faults}
use Rattle.rules.specs.Faults.{Row, tabulate}
use Rattle.rules.specs.declared.Marks.{Marks}
use Rattle.cluster_states.specs.declared.Roles.{Roles}
use Rattle.cluster_states.specs.declared.States.{States}

-- the states of masks and arrays, and the faults of marks and of what each node misses
abbrev pub states_of : Roles → List ℕ → List ℕ → List ℕ → States
states_of w numbers sets bases = record { roles = w; groups = record { numbers = numbers; sets = sets; bases = bases } }

abbrev pub faults_of : Marks → List ℕ → List ℕ → Faults
faults_of m heartbeats votes =
    record {
      stop = m.stop;
      start = m.start;
      heartbeat_lost = m.heartbeat_lost;
      vote_lost = m.vote_lost;
      heartbeat_missed = heartbeats;
      vote_missed = votes;
    }

-- the masks that name nobody
abbrev pub no_roles : Roles
no_roles = record { members = 0; asking = 0; joining = 0; no_quorum = 0; outvoted = 0 }

-- the masks of the states
abbrev pub roles_of : States → Roles
roles_of s = s.roles

abbrev pub group_at : States → ℕ → Group
group_at s q = record { number = get_or s.groups.numbers q 0; set = get_or s.groups.sets q 0; base = get_or s.groups.bases q 0 }

unfoldable pub state_at : States → ℕ → State
state_at s q =
    cond (has q s.roles.members) (Member (group_at s q) (has q s.roles.asking))
    (cond (has q s.roles.joining) Joining
    (cond (has q s.roles.no_quorum) (Out NoQuorum)
    (cond (has q s.roles.outvoted) (Out Outvoted)
    (Out Stopped))))

unfoldable pub row_of : ℕ → States → Row
row_of n s = tabulate n (state_at s)
