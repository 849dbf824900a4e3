-- Paper 01, "State": the 24-byte image of a node.
-- Assumes nothing.
use Rattle.std.specs.Prelude.{ℕ, zero, suc, Bool, cond, not, ◌&&◌, ◌||◌, List, ◌∷◌, ◌++◌, length, ◌==◌, nat_lt, slice_index, Result, Ok, Err}
use Rattle.bigendian.specs.BigEndian.{bytes_of, number_at}
use Rattle.refusal.specs.declared.Refusal.{Refusal}
use Rattle.refusal.specs.declared.Refusal.TheVariants.{Length, Image}
use Rattle.refusal.specs.Codes.{status_of}
use Rattle.state.specs.declared.Reason.{Reason}
use Rattle.state.specs.declared.Reason.TheVariants.{Stopped, NoQuorum, Outvoted}
use Rattle.state.specs.declared.Group.{Group}
use Rattle.state.specs.declared.State.{State}
use Rattle.state.specs.declared.State.TheVariants.{Out, Joining, Member}
use Rattle.state.specs.declared.Node.{Node}
use Rattle.state.specs.State.{reason_code, formed_sets, formed_place}

-- "Its image has 24 bytes: kind (0 out, 1 joining, 2 member), reason, node, N, G in 4, M in 8, B in 8."
abbrev pub kind_code : State → ℕ
kind_code (Out r) = 0
kind_code Joining = 1
kind_code (Member g a) = 2

-- "the reason is 0 unless out, G, M and B are 0 unless member"; request 3: "A member's reason byte is 1 when it will request, else 0"
abbrev pub reason_byte : State → ℕ
reason_byte (Out r) = reason_code r
reason_byte Joining = 0
reason_byte (Member g a) = cond a 1 0

abbrev pub no_group : Group
no_group = record { number = 0; set = 0; base = 0 }

abbrev pub group_bytes : State → Group
group_bytes (Out r) = no_group
group_bytes Joining = no_group
group_bytes (Member g a) = g

-- its bytes in their order
abbrev pub layout : ℕ → ℕ → ℕ → ℕ → Group → List ℕ
layout kind reason id n g = kind ∷ reason ∷ id ∷ n ∷ (bytes_of 4 g.number ++ (bytes_of 8 g.set ++ bytes_of 8 g.base))

unfoldable pub image_of : Node → List ℕ
image_of n = layout (kind_code n.state) (reason_byte n.state) n.id n.nodes (group_bytes n.state)

-- the fields of an image
abbrev pub kind_at : List ℕ → ℕ
kind_at s = slice_index s 0

abbrev pub reason_at : List ℕ → ℕ
reason_at s = slice_index s 1

abbrev pub group_at : List ℕ → Group
group_at s = record { number = number_at s 4 4; set = number_at s 8 8; base = number_at s 16 8 }

-- "It is well formed if kind and reason are known, N is 2 to 64 and the node below it, the reason is 0 unless out, G, M and B are 0 unless member,
-- and for a member M holds the node itself, B holds M, and no bit stands at N or above."
abbrev pub is_zero : Group → Bool
is_zero g = g.number == 0 && g.set == 0 && g.base == 0

-- request 3: the reason of a member that requests is known in a quiet press alone
abbrev pub member_reason : Bool → ℕ → Bool
member_reason quiet reason = reason == 0 || (quiet && reason == 1)

abbrev pub formed_reason : Bool → ℕ → ℕ → Bool
formed_reason quiet kind reason = kind == 0 || cond (kind == 2) (member_reason quiet reason) (reason == 0)

unfoldable pub well_formed : Bool → List ℕ → Bool
well_formed quiet s =
    nat_lt (kind_at s) 3 && nat_lt (reason_at s) 3
    && formed_place (slice_index s 2) (slice_index s 3)
    && formed_reason quiet (kind_at s) (reason_at s)
    && (kind_at s == 2 || is_zero (group_at s))
    && (not (kind_at s == 2) || formed_sets (slice_index s 2) (slice_index s 3) (group_at s).set (group_at s).base)

-- the node of a well-formed image
abbrev pub reason_of : ℕ → Reason
reason_of zero = Stopped
reason_of (suc zero) = NoQuorum
reason_of (suc (suc r)) = Outvoted

abbrev pub state_of : ℕ → ℕ → Group → State
state_of zero r g = Out (reason_of r)
state_of (suc zero) r g = Joining
state_of (suc (suc k)) r g = Member g (r == 1)

-- a node that passed a test, or not
abbrev pub node_if : Bool → State → ℕ → ℕ → Result Node Refusal
node_if test t id n = cond test (Ok (record { state = t; id = id; nodes = n })) (Err Image)

abbrev pub node_at : List ℕ → Node
node_at s = record { state = state_of (kind_at s) (reason_at s) (group_at s); id = slice_index s 2; nodes = slice_index s 3 }

-- What reading an image finds, in a quiet press or in one that votes in every cycle, and the refusal's number. "3: a lent buffer of another length than named here"; "4: a state image not well formed".
unfoldable pub decoded : Bool → List ℕ → Result Node Refusal
decoded quiet s = cond (length s == 24) (cond (well_formed quiet s) (Ok (node_at s)) (Err Image)) (Err Length)

abbrev pub refusal : Result Node Refusal → ℕ
refusal = status_of
