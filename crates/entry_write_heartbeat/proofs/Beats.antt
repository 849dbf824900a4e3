-- What the entry for a heartbeat from numbers answers. Assumes nothing.
use mathlib.Core.Path.{◌≡◌, refl, sym, ◌∙◌}
use mathlib.Core.Bool.{false, ◌||◌}
use mathlib.Core.List.{List}
use Prim.Native.Nat.{ℕ, ◌+◌, ◌≤◌, ◌<◌}
use native.Mathlib.Omega.{arith}
use lib.ListN.{length}
use borrow.Author.Tests.{ltb-false}
use Rattle.sets.proofs.Booleans.{or_f_l, or_f_r}
use Rattle.rules.specs.OneCycle.{wrong_mode}
use Rattle.frames.specs.Written.{heartbeat_frame, wrong_drive, wrong_request}
use Rattle.refusal.proofs.Laws.{none, unless-done}
use Rattle.entry_lent.specs.Refusals.{wrong_count, wrong_node, wrong_cycle, wrong_channel, wrong_bit, wrong_indicators, wrong_length}
use Rattle.entry_write_heartbeat.specs.Heartbeats.{wrong_numbers, write_heartbeat_status, write_heartbeat_left}
use Rattle.entry_lent.proofs.Bounds.{count_bounds, slot_bounds, indicator_bounds, length-is}

-- what numbers that are not wrong satisfy
number_bounds : (n mode q join request sync startup cycle channel : ℕ) → wrong_numbers n mode q join request sync startup cycle channel ≡ false
    → (join ≤ 1) × (request ≤ 1) × ((sync ≤ 1) × (startup ≤ sync)) × ((q < n) × (cycle ≤ 63))
number_bounds n mode q join request sync startup cycle channel h =
    let m = wrong_mode mode in
    let j = m || wrong_bit join in
    let r = j || wrong_bit request in
    let i = r || wrong_indicators sync startup in
    let p = wrong_node n q || wrong_cycle cycle || wrong_channel channel in
    let hi = or_f_l i p h in
    let hr = or_f_l r (wrong_indicators sync startup) hi in
    let hj = or_f_l j (wrong_bit request) hr in
    (ltb-false 1 join (or_f_r m (wrong_bit join) hj), ltb-false 1 request (or_f_r j (wrong_bit request) hr), indicator_bounds sync startup (or_f_r r (wrong_indicators sync startup) hi), slot_bounds n q cycle channel (or_f_r i p h))

module _ (n mode q join request sync startup cycle channel : ℕ) (d f : List ℕ) (e : write_heartbeat_status n mode q join request sync startup cycle channel d f ≡ 0) where
  numbers : (wrong_count n ≡ false) × (wrong_numbers n mode q join request sync startup cycle channel ≡ false) × (wrong_drive d || wrong_length (10 + length d) f) ≡ false
  unfolding write_heartbeat_status
  numbers =
      let a = none (wrong_count n) 1 _ refl e in
      let b = none (wrong_numbers n mode q join request sync startup cycle channel) 2 _ refl a.1 in
      (a.0, b.0, (none (wrong_drive d || wrong_length (10 + length d) f) 3 _ refl b.1).0)

  -- what the writer of frames requires
  pub write-bounds : (q < 64) × ((join < 2) × ((request < 2) × ((sync < 2) × ((startup ≤ sync) × ((cycle < 64) × ((wrong_drive d ≡ false) × (length f ≡ 10 + length d)))))))
  write-bounds =
      let most = (count_bounds n numbers.0).1 in
      let b = number_bounds n mode q join request sync startup cycle channel numbers.1 in
      let room = length-is (10 + length d) f (or_f_r (wrong_drive d) (wrong_length (10 + length d) f) numbers.2) in
      (omega arith, (omega arith, (omega arith, (omega arith, (omega arith, (omega arith, (or_f_l (wrong_drive d) (wrong_length (10 + length d) f) numbers.2, room)))))))

  pub written : (left : List ℕ) → left ≡ heartbeat_frame q join request sync startup cycle channel d
      → left ≡ write_heartbeat_left n mode q join request sync startup cycle channel d f
  unfolding write_heartbeat_left
  written left w = w ∙ sym (unless-done (write_heartbeat_status n mode q join request sync startup cycle channel d f) _ f e)

-- without a request the entry answers and leaves the same in both modes
pub same_in_both : (n q join sync startup cycle channel : ℕ) (d f : List ℕ)
    → (write_heartbeat_status n 1 q join 0 sync startup cycle channel d f ≡ write_heartbeat_status n 0 q join 0 sync startup cycle channel d f)
    × (write_heartbeat_left n 1 q join 0 sync startup cycle channel d f ≡ write_heartbeat_left n 0 q join 0 sync startup cycle channel d f)
unfolding write_heartbeat_status write_heartbeat_left wrong_request
same_in_both n q join sync startup cycle channel d f = (refl, refl)
