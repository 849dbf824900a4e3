-- Units that keep their states in blocks: the first 24 bytes of a block are the state. A unit begins and sends with the entries for one node, and stops, starts and
-- decides by steps of its block. Reads leave the block, and writes that are no command its state (`write_keeps_state`): they may come between these calls.
-- Assumes nothing.
use Rattle.std.specs.Prelude.{◌≡◌, List, ℕ, take}
use Rattle.theorem_unit_calls.specs.Entries.{Entries}
use Rattle.theorem_units.specs.Compiled.{compiled}
use Rattle.gm.proofs.gm_register_write.Reads as gm-register-write
use Rattle.gm.proofs.gm_register_cycle.Reads as gm-register-cycle
use Rattle.gm.proofs.gm_register_write_cycle.Reads as gm-register-write-cycle

-- gm_register_write(mode, block, address, value): a command, from state to state
pub data Commands (v : ℕ) : (mode : ℕ) (x y : List ℕ) → Type 1 where
  command : (κs : _) (a : _) (r : _) (s : _) → gm-register-write.Learnt κs a r s → r ≡ 0 → a.1.1.0 ≡ 27 → a.1.1.1.0 ≡ v
      → Commands v a.0 (take 24 a.1.0.now) (take 24 s.1.0.now)

-- gm_register_cycle(mode, block, heard0, heard1, requests, votes, arrived); gm_register_write_cycle(mode, block, address, value, heard0, heard1, requests, votes, arrived),
-- where the write is no command: one that comes with the cycle comes after the frames of that cycle
pub data Cycles : (mode : ℕ) (x : List ℕ) (heard0 heard1 requests : ℕ) (votes : List ℕ) (arrived : ℕ) (y : List ℕ) → Type 1 where
  alone : (κs : _) (a : _) (r : _) (s : _) → gm-register-cycle.Learnt κs a r s → r ≡ 0
      → Cycles a.0 (take 24 a.1.0.now) a.1.1.0 a.1.1.1.0 a.1.1.1.1.0 a.1.1.1.1.1.0.now a.1.1.1.1.1.1.0 (take 24 s.1.0.now)
  with_a_write : (κs : _) (a : _) (r : _) (s : _) → gm-register-write-cycle.Learnt κs a r s → r ≡ 0 → (a.1.1.0 ≡ 27 → ⊥)
      → Cycles a.0 (take 24 a.1.0.now) a.1.1.1.1.0 a.1.1.1.1.1.0 a.1.1.1.1.1.1.0 a.1.1.1.1.1.1.1.0.now a.1.1.1.1.1.1.1.1.0
      (take 24 s.1.0.now)

abbrev pub in_blocks : Entries
in_blocks =
    record {
      begin = compiled.begin;
      stop = Commands 1;
      start = Commands 2;
      send_heartbeat = compiled.send_heartbeat;
      receive_heartbeat = compiled.receive_heartbeat;
      send_vote = compiled.send_vote;
      receive_vote = compiled.receive_vote;
      decide = Cycles;
    }
