-- Request 1, "A register block for the drive card": the 64 bytes of a plain machine, and the machine of 64 bytes.
-- Assumes nothing.
use Rattle.std.specs.Prelude.{Bool, true, ◌&&◌, ◌||◌, cond, List, [], ◌∷◌, ◌++◌, ℕ, ◌+◌, eqb, ltb, get_or, length, take, drop, replicate, Result, Ok, Err}
use Rattle.sets.specs.Sets.{has}
use Rattle.state.specs.declared.Node.{Node}
use Rattle.refusal.specs.declared.Refusal.{Refusal}
use Rattle.state.specs.State.{formed}
use Rattle.state.specs.Image.{image_of, decoded}

-- one bit for each of the three things that a cycle can do to a node: its set changed, it halted, it entered
pub record Flags : Type 0 where
  pub changed : Bool
  pub halted : Bool
  pub entered : Bool

-- "a plain machine of state, flags and enables": a node, the flags that are set, and those that are enabled
pub record Machine : Type 0 where
  pub node : Node
  pub flags : Flags
  pub enables : Flags

-- what reading a lent block finds
pub data LentBlock : Type 0 where
  Holds : Machine → LentBlock
  WrongLength : LentBlock
  Malformed : LentBlock

-- "bit 0 the set changed in a cycle in which the node stayed a member, bit 1 halted, bit 2 entered; the rest are 0"
abbrev pub flags_byte : Flags → ℕ
flags_byte f = cond f.changed 1 0 + cond f.halted 2 0 + cond f.entered 4 0

-- the low three bits of a byte; whatever stands above them is not looked at
abbrev pub flags_in : ℕ → Flags
flags_in b = record { changed = has 0 b; halted = has 1 b; entered = has 2 b }

-- "byte 26 is 1 exactly when an enabled flag is set, else 0"
abbrev pub pending_byte : Flags → Flags → ℕ
pending_byte f e = cond ((f.changed && e.changed) || (f.halted && e.halted) || (f.entered && e.entered)) 1 0

-- "The drive card sees the node end as 64 bytes. Bytes 0 to 23 are the state image. Byte 24 holds flags .. Byte 25 enables them .. byte 26 is 1 .. Byte 27
-- .. reads 0. Bytes 28 to 63 read 0"
unfoldable pub block_of : Machine → List ℕ
block_of m = image_of m.node ++ (flags_byte m.flags ∷ flags_byte m.enables ∷ pending_byte m.flags m.enables ∷ replicate 37 0)

-- the byte that a read of an address shows
unfoldable pub shown : Machine → ℕ → ℕ
shown m a =
    cond (ltb a 24) (get_or (image_of m.node) a 0)
    (cond (eqb a 24) (flags_byte m.flags) (cond (eqb a 25) (flags_byte m.enables) (cond (eqb a 26) (pending_byte m.flags m.enables) 0)))

-- a machine whose node is one that an image can hold, in a quiet press or in one that votes in every cycle
abbrev pub formed_machine : Bool → Machine → Bool
formed_machine quiet m = formed quiet m.node

abbrev pub all_zero : List ℕ → Bool
all_zero [] = true
all_zero (b ∷ s) = eqb b 0 && all_zero s

-- "A lent block whose bytes 24 to 63 could not read so gives 4."
unfoldable pub reads_so : List ℕ → Bool
reads_so s =
    ltb (get_or s 24 0) 8 && ltb (get_or s 25 0) 8 && eqb (get_or s 26 0) (pending_byte (flags_in (get_or s 24 0)) (flags_in (get_or s 25 0))) && all_zero (drop 27 s)

-- the machine of a block whose first 24 bytes hold a node
abbrev pub machine_in : Result Node Refusal → List ℕ → LentBlock
machine_in (Ok n) s = Holds (record { node = n; flags = flags_in (get_or s 24 0); enables = flags_in (get_or s 25 0) })
machine_in (Err r) s = Malformed

-- What reading a lent block finds. "3: a lent buffer of another length than named here"; "4: a state image not well formed", and bytes that could not read so.
unfoldable pub registers_at : Bool → List ℕ → LentBlock
registers_at quiet s = cond (eqb (length s) 64) (cond (reads_so s) (machine_in (decoded quiet (take 24 s)) s) Malformed) WrongLength
