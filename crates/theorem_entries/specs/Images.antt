-- Demand 3 of the entries for C on a row: `gm_cycle`, `gm_run` and `gm_run_frames`.
-- Paper 01, "Over what does demand 3 run?": "It is one claim about the whole list and not one for each call. The calls are for one press and on one row."
-- Assumes nothing.
use Rattle.std.specs.Prelude.{◌≡◌, List, [], ◌∷◌, ℕ, length}
use Rattle.row_calls.specs.declared.Task.TheVariants.{Cycle, Run, FramedRun}
use Rattle.row_calls.specs.Histories.{Call, History, history_after, AllIn, Begun, Promised}
use Rattle.row_images.specs.Images.{nodes_in}
use Rattle.gm.proofs.gm_cycle.Reads as gm-cycle
use Rattle.gm.proofs.gm_run.Reads as gm-run
use Rattle.gm.proofs.gm_run_frames.Reads as gm-run-frames

-- "each call gets it as the last one left it, and nobody else writes it meanwhile": the calls that were made, and the bytes of the row before and after them.
-- Each call is known by what the entry's contract tells its caller, `Learnt`, of the arguments a, the status r and the arguments at the end s. Its row was
-- lent at x and came back at y, refused or not; `gm_run_frames` was lent a buffer for frames, of any length.
pub data Done : List Call → List ℕ → List ℕ → Type 1 where
  none : {x : List ℕ} → Done [] x x
  cycle : {cs : List Call} {x y z : List ℕ} (κs : _) (a : _) (r : _) (s : _) → gm-cycle.Learnt κs a r s → a.1.1.0.now ≡ x → s.1.1.0.now ≡ y
      → Done cs y z → Done (record { task = Cycle; count = a.0; mode = a.1.0; room = 0; bytes = a.1.1.1.0.now } ∷ cs) x z
  run : {cs : List Call} {x y z : List ℕ} (κs : _) (a : _) (r : _) (s : _) → gm-run.Learnt κs a r s → a.1.0.now ≡ x → s.1.0.now ≡ y
      → Done cs y z → Done (record { task = Run; count = 0; mode = a.0; room = 0; bytes = a.1.1.0.now } ∷ cs) x z
  run_frames : {cs : List Call} {x y z : List ℕ} (κs : _) (a : _) (r : _) (s : _) → gm-run-frames.Learnt κs a r s → a.1.0.now ≡ x → s.1.0.now ≡ y
      → Done cs y z → Done (record { task = FramedRun; count = 0; mode = a.0; room = length a.1.1.1.0.now; bytes = a.1.1.0.now } ∷ cs) x z

-- "Before the first, unless that is an accepted run, the row stands at the beginning for some founding set" (`Begun`). "After each call the row holds the
-- states that the rules give from that beginning through those cycles. Demand 3 speaks of the states after every one of the cycles, those inside a run too"
-- (`Promised`): of the nodes whose images the row holds, after any list of calls. n is the number of its entries. Request 3: "All nodes of a press are in the
-- same mode, fixed per press from the beginning on" (`AllIn`).
abbrev pub OverImages : Type 1
OverImages =
    (mode n : ℕ) (h : History) (cs : List Call) (x z : List ℕ) → AllIn mode cs (nodes_in x) → Begun mode n (nodes_in x) h cs → Done cs x z
    → Promised mode n (nodes_in z) (history_after cs (nodes_in x) h)
