-- Paper 01, "State": what a node is, and what it is at the beginning. The types are those of src/lib.rt.
-- Assumes nothing.
use Rattle.std.specs.Prelude.{ℕ, ◌+◌, ◌%◌, ◌^◌, Bool, true, false, cond, not, ◌&&◌, ◌||◌, ◌==◌, nat_le, nat_lt}
use Rattle.std.proofs.Math.Option.{Option, none, some}
use Rattle.sets.specs.Sets.{has, subset, below}
use Rattle.state.specs.declared.Reason.{Reason}
use Rattle.state.specs.declared.Reason.TheVariants.{Stopped, NoQuorum, Outvoted}
use Rattle.state.specs.declared.Group.{Group}
use Rattle.state.specs.declared.State.{State}
use Rattle.state.specs.declared.State.TheVariants.{Out, Joining, Member}
use Rattle.state.specs.declared.Node.{Node}

-- "A node is out (with reason 0 stopped or never started, 1 no quorum, 2 outvoted), joining, or a member with group number G (32 bits), set M
-- and base B."
abbrev pub reason_code : Reason → ℕ
reason_code Stopped = 0
reason_code NoQuorum = 1
reason_code Outvoted = 2

-- the group that a node holds
abbrev pub group_of : State → Option Group
group_of (Out r) = none
group_of Joining = none
group_of (Member g a) = some g

-- "It halts in a cycle that puts it out with reason 1 or 2."
abbrev pub halted : State → Bool
halted (Out r) = not (reason_code r == 0)
halted Joining = false
halted (Member g a) = false

-- "for a member M holds the node itself, B holds M, and no bit stands at N or above"; B holds M, so none in B is none in M
unfoldable pub formed_sets : ℕ → ℕ → ℕ → ℕ → Bool
formed_sets id n M B = has id M && subset M B && below n B == B

-- "N is 2 to 64 and the node below it"
unfoldable pub formed_place : ℕ → ℕ → Bool
formed_place id n = nat_le 2 n && nat_le n 64 && nat_lt id n

-- whether the press is quiet is given: no member of one that votes in every cycle requests
abbrev pub formed_state : Bool → ℕ → ℕ → State → Bool
formed_state quiet id n (Out r) = true
formed_state quiet id n Joining = true
formed_state quiet id n (Member g a) = (quiet || not a) && (nat_lt g.number (2 ^ 32) && formed_sets id n g.set g.base)

-- a node whose image is well formed
unfoldable pub formed : Bool → Node → Bool
formed quiet n = formed_place n.id n.nodes && formed_state quiet n.id n.nodes n.state

-- "At the beginning the nodes of the founding set are members with G 0 and M and B the founding set; the others are out with reason 0."
-- G is left open, so that P10 can begin with another. Request 3: "founding members begin with 0", and do not request.
abbrev pub founding_group : ℕ → ℕ → Group
founding_group G F = record { number = G; set = F; base = F }

abbrev pub initial : ℕ → ℕ → ℕ → State
initial G F q = cond (has q F) (Member (founding_group G F) false) (Out Stopped)

-- Rule 5: "the number after 4294967295 is 0"
unfoldable pub next_number : ℕ → ℕ
next_number G = (G + 1) % 2 ^ 32
