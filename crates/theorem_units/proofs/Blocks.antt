-- The promise for units that keep their states in blocks. Assumes nothing.
use mathlib.Core.Path.{◌≡◌, refl, sym, ap, ap₂, ◌∙◌}
use mathlib.Core.Bool.{Bool, true, false}
use mathlib.Core.List.{List}
use Prim.Native.Nat.{ℕ}
use lib.ListN.{length, take}
use lib.Dec.{eqb}
use borrow.Author.Tests.{eqb-true, eqb-false}
use Rattle.bigendian.proofs.Laws.{Bytes}
use Rattle.refusal.proofs.Laws.{next, unless-done}
use Rattle.state.specs.declared.Node.{Node}
use Rattle.std.specs.Prelude.{Result, Ok}
use Rattle.refusal.specs.declared.Refusal.{Refusal}
use Rattle.refusal.specs.Codes.{status_of}
use Rattle.state.specs.Image.{image_of, decoded, refusal}
use Rattle.rules.specs.OneCycle.{wrong_mode, quiet_in}
use Rattle.entry_lent.specs.Found.{lent_state, image_status}
use Rattle.entry_lent.proofs.Bounds.{length-is}
use Rattle.entry_lent.proofs.Images.{by_image}
use Rattle.entry_stop_start.specs.StopStart.{stopped_and_started, rule_one_of, stop_left, start_left}
use Rattle.entry_decide.specs.Decide.{decide_status, decided_from, decide_left}
use Rattle.registers.specs.Block.{Machine}
use Rattle.registers.specs.Steps.{Step, Write, Cycle, WriteCycle, mode_of, commanded, written, decided_node, cycled, stepped, wrong_votes, step_status, step_left}
use Rattle.registers.proofs.Blocks.{image_part, held_block}
use Rattle.registers.proofs.Found.{image_in_lem, accepted, done-left, refused_left}
use Rattle.registers.proofs.Written.{node_kept}
use Rattle.theorem_unit_calls.specs.Entries.{Within, by_definition}
use Rattle.theorem_unit_calls.specs.Promise.{OverUnits, OverAnyBus}
use Rattle.theorem_unit_calls.proofs.Calls.{state_lent}
use Rattle.theorem_unit_calls.proofs.Press.{over_units, over_any_bus}
use Rattle.theorem_units.proofs.Compiled as single
use Rattle.gm.proofs.gm_register_write.Reads as gm-register-write
use Rattle.theorem_units.specs.Blocks.{Commands, command, Cycles, alone, with_a_write, in_blocks}

-- ---- what an accepted step does to the state in a block

-- the machine before, and the state after
record Did (t : Step) (x y : List ℕ) : Type 0 where
  machine : Machine
  held : decoded (quiet_in (mode_of t)) (take 24 x) ≡ Ok machine.node
  moded : wrong_mode (mode_of t) ≡ false
  voted : wrong_votes t ≡ false
  state : take 24 y ≡ image_of (stepped t machine).node

did : (t : Step) (x y : List ℕ) (r : ℕ) → r ≡ step_status t x → y ≡ step_left t x → r ≡ 0 → Did t x y
did t x y r e l z =
    let m = accepted t x (sym e ∙ z) in
    record {
      machine = m.0;
      held = image_in_lem (quiet_in (mode_of t)) x m.0 m.1;
      moded = m.2;
      voted = m.3;
      state = ap (take 24) (l ∙ done-left t x m.0 m.1 (sym e ∙ z)) ∙ image_part (stepped t m.0);
    }

-- a write that is no command leaves the state, refused or not, so that it may come between the calls of a unit
pub write_keeps_state : (κs : _) (a : _) (r : _) (s : _) → gm-register-write.Learnt κs a r s → Bytes a.1.0.now → (a.1.1.0 ≡ 27 → ⊥)
    → take 24 s.1.0.now ≡ take 24 a.1.0.now
write_keeps_state κs a r s l b c = ap (take 24) l.1 ∙ go (eqb (step_status t x) 0) refl
  where
    x : List ℕ
    x = a.1.0.now

    t : Step
    t = Write a.0 a.1.1.0 a.1.1.1.0

    go : (done : Bool) → eqb (step_status t x) 0 ≡ done → take 24 (step_left t x) ≡ take 24 x
    go true z =
        let m = accepted t x (eqb-true (step_status t x) 0 z) in
        let same = (held_block (quiet_in a.0) x m.0 b m.1).1 in
        ap (take 24) (done-left t x m.0 m.1 (eqb-true (step_status t x) 0 z)) ∙ image_part (stepped t m.0)
        ∙ ap image_of (node_kept a.1.1.0 a.1.1.1.0 m.0 c) ∙ sym (ap (take 24) same ∙ image_part m.0)
    go false z = ap (take 24) (refused_left t x (eqb-false (step_status t x) 0 z))

-- a command is rule 1 on that state
rule_told : (t : Step) (stop start : Bool) (x y : List ℕ) (d : Did t x y) → (stepped t d.machine).node ≡ stopped_and_started stop start d.machine.node
    → (0 ≡ image_status (mode_of t) (take 24 x)) × (take 24 y ≡ rule_one_of stop start (lent_state (mode_of t) (take 24 x)) (take 24 x))
unfolding image_status
rule_told t stop start x y d rule =
    let found : lent_state (mode_of t) (take 24 x) ≡ Ok d.machine.node = state_lent (mode_of t) (take 24 x) d.machine.node d.moded d.held in
    (sym (ap status_of found), d.state ∙ ap image_of rule ∙ sym (ap (λ (n : Result Node Refusal). rule_one_of stop start n (take 24 x)) found))

command_told : (v : ℕ) (stop start : Bool) → ((n : Node) → commanded v n ≡ stopped_and_started stop start n) → (mode : ℕ) (x y : List ℕ) → Commands v mode x y
    → (0 ≡ image_status mode x) × (y ≡ rule_one_of stop start (lent_state mode x) x)
unfolding written
command_told v stop start rule mode x y (command κs a r s l z p q) =
    let before = a.1.0.now in
    let d = did (Write mode 27 v) before s.1.0.now r (l.0 ∙ ap₂ (λ (i w : ℕ). step_status (Write mode i w) before) p q) (l.1 ∙ ap₂ (λ (i w : ℕ). step_left (Write mode i w) before) p q) z in
    rule_told (Write mode 27 v) stop start before s.1.0.now d (rule d.machine.node)

-- a cycle, alone or with a write that is no command, decides as `gm_decide` does
module _ (t : Step) (heard0 heard1 requests : ℕ) (votes : List ℕ) (arrived : ℕ) (x y : List ℕ) (d : Did t x y) where
  abbrev quiet : Bool
  quiet = quiet_in (mode_of t)

  cycle-told : (wrong_votes t ≡ false → length votes ≡ 1792) → (stepped t d.machine).node ≡ decided_node quiet heard0 heard1 requests votes arrived d.machine.node
      → (0 ≡ decide_status (mode_of t) (take 24 x) votes) × (take 24 y ≡ decide_left (mode_of t) (take 24 x) heard0 heard1 requests votes arrived)
  unfolding decide_status decide_left
  cycle-told sized same =
      let image = sym (ap refusal d.held) ∙ by_image quiet (take 24 x) votes 1792 (sized d.voted) in
      let status : 0 ≡ decide_status (mode_of t) (take 24 x) votes = image ∙ sym (next (wrong_mode (mode_of t)) 2 _ d.moded) in (
        status,
        d.state ∙ ap image_of same
            ∙ sym (unless-done _ _ _ (sym status) ∙ ap (λ (z : Result Node Refusal). decided_from quiet z heard0 heard1 requests votes arrived (take 24 x)) d.held),
      )

decide_told : (mode : ℕ) (x : List ℕ) (heard0 heard1 requests : ℕ) (votes : List ℕ) (arrived : ℕ) (y : List ℕ) → Cycles mode x heard0 heard1 requests votes arrived y
    → (0 ≡ decide_status mode x votes) × (y ≡ decide_left mode x heard0 heard1 requests votes arrived)
unfolding cycled
decide_told mode x heard0 heard1 requests votes arrived y (alone κs a r s l z) =
    let t = Cycle mode heard0 heard1 requests votes arrived in
    cycle-told t heard0 heard1 requests votes arrived a.1.0.now s.1.0.now (did t a.1.0.now s.1.0.now r l.0 l.1 z) (length-is 1792 votes) refl
decide_told mode x heard0 heard1 requests votes arrived y (with_a_write κs a r s l z c) =
    let t = WriteCycle mode a.1.1.0 a.1.1.1.0 heard0 heard1 requests votes arrived in
    let d = did t a.1.0.now s.1.0.now r l.0 l.1 z in
    cycle-told t heard0 heard1 requests votes arrived a.1.0.now s.1.0.now d (length-is 1792 votes)
    (ap (decided_node (quiet_in mode) heard0 heard1 requests votes arrived) (node_kept a.1.1.0 a.1.1.1.0 d.machine c))

-- ---- and so the promise holds of units that keep their states in blocks

pub told : Within in_blocks by_definition
unfolding stop_left start_left
told =
    record {
      begin = (single.told).begin;
      stop = λ mode x y k. record { lower = command_told 1 true false (λ n. refl) mode x y k };
      start = λ mode x y k. record { lower = command_told 2 false true (λ n. refl) mode x y k };
      send_heartbeat = (single.told).send_heartbeat;
      receive_heartbeat = (single.told).receive_heartbeat;
      send_vote = (single.told).send_vote;
      receive_vote = (single.told).receive_vote;
      decide = λ mode x heard0 heard1 requests votes arrived y k. record { lower = decide_told mode x heard0 heard1 requests votes arrived y k };
    }

pub block_units : OverUnits in_blocks
block_units = over_units in_blocks told

pub block_any_bus : OverAnyBus in_blocks
block_any_bus = over_any_bus in_blocks told
