-- Demand 3 of the entry on a row of node structs, `row_press::call`.
-- Paper 01, "Over what does demand 3 run?": "It is one claim about the whole list and not one for each call. The calls are for one press and on one row."
-- Assumes nothing.
use Rattle.std.specs.Prelude.{◌≡◌, List, [], ◌∷◌, ℕ}
use Rattle.state.specs.declared.Node.{Node}
use Rattle.bus_units.specs.Run.{frames_length}
use Rattle.row_calls.specs.Histories.{Call, status, left, History, history_after, AllIn, Begun, Promised}

-- what the contract of the entry tells the caller of a call on the row x (`tells` in proofs): its status r, and the row y that it leaves, refused or not
abbrev pub Told : Call → List Node → ℕ → List Node → Type 0
Told c x r y = (c.room ≡ frames_length) × (r ≡ status c x) × (y ≡ left c x)

-- "each call gets it as the last one left it, and nobody else writes it meanwhile": the calls that were made, and the row before and after them; the entry has room of
-- its own for frames, which nobody sees
pub data Done : List Call → List Node → List Node → Type 0 where
  none : {x : List Node} → Done [] x x
  call : {c : Call} {cs : List Call} {x y z : List Node} (r : ℕ) → Told c x r y → Done cs y z → Done (c ∷ cs) x z

-- "Before the first, unless that is an accepted run, the row stands at the beginning for some founding set" (`Begun`). "After each call the row holds the
-- states that the rules give from that beginning through those cycles. Demand 3 speaks of the states after every one of the cycles, those inside a run too"
-- (`Promised`): after any list of calls. n is the number of the row's entries. Request 3: "All nodes of a press are in the same mode, fixed per press from the
-- beginning on" (`AllIn`).
abbrev pub OverRows : Type 0
OverRows =
    (mode n : ℕ) (h : History) (cs : List Call) (x z : List Node) → AllIn mode cs x → Begun mode n x h cs → Done cs x z → Promised mode n z (history_after cs x h)
