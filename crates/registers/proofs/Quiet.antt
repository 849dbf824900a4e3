-- What a cycle raises in a quiet press, of a member that is not called, by computation. Assumes nothing.
use mathlib.Core.Path.{◌≡◌, refl}
use mathlib.Core.Bool.{false}
use mathlib.Core.List.{List, ◌++◌}
use Prim.Native.Nat.{ℕ}
use lib.Count.{ones}
use lib.ListN.{replicate}
use Rattle.sets.specs.Sets.{has, single, ◌∪◌, ◌∩◌, ◌∖◌, those, subset, below, size, any}
use Rattle.sets.specs.Quorum.{quorum}
use Rattle.bigendian.specs.BigEndian.{bytes_of, number_at}
use Rattle.state.specs.declared.State.TheVariants.{Member}
use Rattle.rules.specs.OneCycle.{view_of, called, will_vote, same_group, same_vote, voters, wins, new_set, group_with, new_group, request_with, request_after, member_decides, silent_decides}
use Rattle.frames.specs.Written.{formed_vote}
use Rattle.entry_slots.specs.Slots.{slot_vote, arrived_in, buffer_ballots}
use Rattle.registers.specs.Block.{Machine, flags_byte}
use Rattle.registers.specs.Steps.{Cycle, raised_by, cycled, stepped}
use Rattle.registers.proofs.Bits.{three}

-- node 0 of three that hold number 0, set 7 and base 7, with no flag set
abbrev member : Machine
member =
    record {
      node = record { state = Member (record { number = 0; set = 7; base = 7 }) false; id = 0; nodes = 3 };
      flags = three false false false;
      enables = three false false false;
    }

-- votes of nodes 1 and 2 for 7
abbrev for_seven : List ℕ
for_seven = bytes_of 4 0 ++ bytes_of 8 7 ++ bytes_of 8 7 ++ bytes_of 8 7

abbrev buffer : List ℕ
buffer = replicate 28 0 ++ for_seven ++ for_seven

-- byte 24 after a cycle in which nodes 1 and 2 were heard
abbrev raises : ℕ → ℕ → ℕ → ℕ
raises mode requests arrived = flags_byte (stepped (Cycle mode 6 0 requests buffer arrived) member).flags

-- Two votes are a quorum without it: it halts. One is none; if node 1 requests it votes too; and with mode 0 it votes in every cycle.
pub silent_member : (raises 1 0 6 ≡ 2) × (raises 1 0 2 ≡ 0) × (raises 1 2 6 ≡ 0) × (raises 0 0 6 ≡ 0)
unfolding ones has single ◌∪◌ ◌∩◌ ◌∖◌ those subset below size any quorum bytes_of number_at view_of called will_vote same_group same_vote voters wins new_set group_with new_group request_with request_after member_decides silent_decides formed_vote slot_vote arrived_in buffer_ballots raised_by cycled
silent_member = (refl, refl, refl, refl)
