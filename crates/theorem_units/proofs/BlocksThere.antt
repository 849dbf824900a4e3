-- The premises of units in blocks can be met: for every mode, founding set and list of fault records there is a press whose units keep their states in blocks. Assumes nothing.
use mathlib.Core.Path.{◌≡◌, refl, sym, ap, ◌∙◌, subst}
use mathlib.Core.Logic.{Lift}
use mathlib.Core.Bool.{Bool, false, not, ◌||◌, cond}
use mathlib.Core.List.{List, [], ◌++◌}
use Prim.Native.Nat.{ℕ, ◌≤◌}
use native.Mathlib.Omega.{arith}
use lib.Dec.{eqb}
use lib.ListN.{length, take, replicate}
use lib.Seq.{take_at}
use borrow.Author.Tests.{eq-eqb}
use denote.Ref.{Bor}
use denote.MutBor.{MutBor}
use Rattle.sets.specs.Sets.{below}
use Rattle.sets.proofs.Booleans.{or_f_r}
use Rattle.refusal.proofs.Laws.{none}
use Rattle.state.specs.declared.Node.{Node}
use Rattle.std.specs.Prelude.{Result, Ok, Err}
use Rattle.refusal.specs.declared.Refusal.{Refusal}
use Rattle.refusal.specs.declared.Refusal.TheVariants.{Number}
use Rattle.refusal.specs.Codes.{status_of}
use Rattle.refusal.proofs.Codes.{numbered}
use Rattle.state.specs.Image.{decoded, refusal}
use Rattle.rules.specs.OneCycle.{wrong_mode, quiet_in}
use Rattle.entry_lent.specs.Refusals.{wrong_length}
use Rattle.entry_lent.specs.Found.{lent_state, image_status}
use Rattle.entry_lent.proofs.Bounds.{length-is}
use Rattle.entry_lent.proofs.Images.{good_length, by_image, found_state}
use Rattle.entry_decide.specs.Decide.{decide_status, decide_left}
use Rattle.rules.specs.declared.Faults.{Faults}
use Rattle.registers.specs.Steps.{Step, Write, Cycle, WriteCycle, mode_of, wrong_votes, wrong_address, step_status, step_left}
use Rattle.registers.proofs.Blocks.{begins}
use Rattle.registers.proofs.Found.{status-found}
use Rattle.theorem_unit_calls.specs.Entries.{Within, by_definition}
use Rattle.frames.specs.Written.{wrong_drive}
use Rattle.theorem_unit_calls.specs.Cycle.{Pressed, Driven}
use Rattle.theorem_unit_calls.specs.Promise.{Begins}
use Rattle.theorem_unit_calls.proofs.There.{press_there}
use Rattle.theorem_units.proofs.Compiled as single
use Rattle.theorem_units.specs.Blocks.{Commands, command, Cycles, alone, with_a_write, in_blocks}
use Rattle.theorem_units.proofs.Blocks.{told}

-- a value that is lent to be read, and one that is lent to be written, at any place
abbrev ref : {X : Type 0} → X → Bor X
ref x = record { ref_ptr = (0, 0); now = x }

abbrev own : {X : Type 0} → X → MutBor X
own x = record { ref_ptr = (0, 0); ghost_name = 0; now = x }

-- the node of a state that is accepted, in a mode that there is
node_in_lem : (mode : ℕ) (x : List ℕ) → 0 ≡ image_status mode x → (n : Node) × (wrong_mode mode ≡ false) × (decoded (quiet_in mode) x ≡ Ok n)
unfolding image_status
node_in_lem mode x e = go (lent_state mode x) refl
  where
    go : (d : Result Node Refusal) → lent_state mode x ≡ d → (n : Node) × (wrong_mode mode ≡ false) × (decoded (quiet_in mode) x ≡ Ok n)
    go (Ok n) k = let f = found_state mode x n k in (n, f.0, f.1)
    go (Err r) k = absurd (numbered r (sym (e ∙ ap status_of k)))

-- past the mode a state is refused as its image is
by_mode : (mode : ℕ) (x : List ℕ) → wrong_mode mode ≡ false → image_status mode x ≡ refusal (decoded (quiet_in mode) x)
unfolding image_status lent_state
by_mode mode x e = ap (λ (wrong : Bool). status_of (cond wrong (Err Number) (decoded (quiet_in mode) x))) e

-- ---- a state that is accepted, with zeros behind it, is a block on which a step is accepted

abbrev block : List ℕ → List ℕ
block x = x ++ replicate 40 0

step_good : (t : Step) (x : List ℕ) (n : Node) → wrong_mode (mode_of t) ≡ false → decoded (quiet_in (mode_of t)) x ≡ Ok n → wrong_votes t ≡ false → wrong_address t ≡ false
    → 0 ≡ step_status t (block x)
step_good t x n m e v a = sym (status-found t (block x) _ (begins (quiet_in (mode_of t)) x n (good_length (quiet_in (mode_of t)) x n e) e) ∙ rw (m, v, a))

module _ (mode : ℕ) (x : List ℕ) (n : Node) (moded : wrong_mode mode ≡ false) (e : decoded (quiet_in mode) x ≡ Ok n) where
  front : take 24 (block x) ≡ x
  front = take_at x (replicate 40 0) 24 (good_length (quiet_in mode) x n e)

  command-there : (v : ℕ) → Commands v mode x (take 24 (step_left (Write mode 27 v) (block x)))
  command-there v =
      let left = step_left (Write mode 27 v) (block x) in
      subst (λ (z : List ℕ). Commands v mode z (take 24 left)) front
      (command ([], tt) (mode, (own (block x), (27, (v, tt)))) 0 (mode, (own left, (27, (v, tt)))) (step_good (Write mode 27 v) x n moded e refl refl, refl) refl refl refl)

  module _ (heard0 heard1 requests : ℕ) (votes : List ℕ) (arrived : ℕ) (l : length votes ≡ 1792) where
    cycle_there : Cycles mode x heard0 heard1 requests votes arrived (take 24 (step_left (Cycle mode heard0 heard1 requests votes arrived) (block x)))
    cycle_there =
        let t = Cycle mode heard0 heard1 requests votes arrived in
        let left = step_left t (block x) in
        subst (λ (z : List ℕ). Cycles mode z heard0 heard1 requests votes arrived (take 24 left)) front
        (alone ([], ([], tt)) (mode, (own (block x), (heard0, (heard1, (requests, (ref votes, (arrived, tt))))))) 0
        (mode, (own left, (heard0, (heard1, (requests, (ref votes, (arrived, tt)))))))
        (step_good t x n moded e (ap not (eq-eqb (length votes) 1792 l)) refl, refl) refl)

    -- the same together with a write to byte 24
    pub write-cycle-there : (v : ℕ) → Cycles mode x heard0 heard1 requests votes arrived (take 24 (step_left (WriteCycle mode 24 v heard0 heard1 requests votes arrived) (block x)))
    write-cycle-there v =
        let t = WriteCycle mode 24 v heard0 heard1 requests votes arrived in
        let left = step_left t (block x) in
        subst (λ (z : List ℕ). Cycles mode z heard0 heard1 requests votes arrived (take 24 left)) front
        (with_a_write ([], ([], tt)) (mode, (own (block x), (24, (v, (heard0, (heard1, (requests, (ref votes, (arrived, tt))))))))) 0
        (mode, (own left, (24, (v, (heard0, (heard1, (requests, (ref votes, (arrived, tt)))))))))
        (step_good t x n moded e (ap not (eq-eqb (length votes) 1792 l)) refl, refl) refl (λ z. omega arith))

-- ---- so that every call by the definitions is one of a block

command_had : (v mode : ℕ) (x y left : List ℕ) → 0 ≡ image_status mode x → y ≡ left → ((z : List ℕ) → Commands v mode x z → z ≡ left) → Commands v mode x y
command_had v mode x y left e l same =
    let n = node_in_lem mode x e in
    let k = command-there mode x n.0 n.1 n.2 v in
    subst (Commands v mode x) (same _ k ∙ sym l) k

decide_had : (mode : ℕ) (x : List ℕ) (heard0 heard1 requests : ℕ) (votes : List ℕ) (arrived : ℕ) (y : List ℕ) → 0 ≡ decide_status mode x votes
    → y ≡ decide_left mode x heard0 heard1 requests votes arrived → Cycles mode x heard0 heard1 requests votes arrived y
unfolding decide_status
decide_had mode x heard0 heard1 requests votes arrived y e l =
    let past = none (wrong_mode mode) 2 _ refl (sym e) in
    let sized = length-is 1792 votes (or_f_r (wrong_length 24 x) (wrong_length 1792 votes) (none (wrong_length 24 x || wrong_length 1792 votes) 3 _ refl past.1).0) in
    let n = node_in_lem mode x (sym (by_mode mode x past.0 ∙ by_image (quiet_in mode) x votes 1792 sized ∙ past.1)) in
    let k = cycle_there mode x n.0 n.1 n.2 heard0 heard1 requests votes arrived sized in
    subst (Cycles mode x heard0 heard1 requests votes arrived) ((told.decide mode x heard0 heard1 requests votes arrived _ k).lower.1 ∙ sym l) k

pub had : Within by_definition in_blocks
had =
    record {
      begin = (single.had).begin;
      stop = λ mode x y k. command_had 1 mode x y _ k.lower.0 k.lower.1 (λ z d. (told.stop mode x z d).lower.1);
      start = λ mode x y k. command_had 2 mode x y _ k.lower.0 k.lower.1 (λ z d. (told.start mode x z d).lower.1);
      send_heartbeat = (single.had).send_heartbeat;
      receive_heartbeat = (single.had).receive_heartbeat;
      send_vote = (single.had).send_vote;
      receive_vote = (single.had).receive_vote;
      decide = λ mode x heard0 heard1 requests votes arrived y k. decide_had mode x heard0 heard1 requests votes arrived y k.lower.0 k.lower.1;
    }

pub blocks_there : (mode n F : ℕ) (cs : List Faults) (drive : (k q : ℕ) → List ℕ) → wrong_mode mode ≡ false → 2 ≤ n → n ≤ 64 → eqb F 0 ≡ false → below n F ≡ F
    → ((k q : ℕ) → wrong_drive (drive k q) ≡ false)
    → (x : ℕ → List ℕ) × (z : ℕ → List ℕ) × Begins in_blocks n F x × (k : Pressed in_blocks mode n cs x z) × Lift {0, 1} (Driven drive 1 k)
blocks_there = press_there in_blocks had
