-- What numbers that are not refused satisfy. Assumes nothing.
use mathlib.Core.Path.{◌≡◌}
use mathlib.Core.Bool.{false, ◌||◌}
use mathlib.Core.List.{List}
use Prim.Native.Nat.{ℕ, ◌≤◌, ◌<◌}
use lib.Dec.{eqb, ltb}
use lib.ListN.{length}
use borrow.Author.Tests.{ltb-false, leb-false, eqb-true, not-false}
use Rattle.sets.proofs.Booleans.{or_f_l, or_f_r}
use Rattle.entry_lent.specs.Refusals.{wrong_count, wrong_node, wrong_cycle, wrong_channel, wrong_bit, wrong_indicators, wrong_length}

pub count_bounds : (n : ℕ) → wrong_count n ≡ false → (2 ≤ n) × (n ≤ 64)
unfolding wrong_count
count_bounds n e = (ltb-false n 2 (or_f_l (ltb n 2) (ltb 64 n) e), ltb-false 64 n (or_f_r (ltb n 2) (ltb 64 n) e))

pub slot_bounds : (n q cycle channel : ℕ) → (wrong_node n q || wrong_cycle cycle || wrong_channel channel) ≡ false → (q < n) × (cycle ≤ 63)
slot_bounds n q cycle channel e =
    let h = or_f_l (wrong_node n q || wrong_cycle cycle) (wrong_channel channel) e in
    (leb-false n q (or_f_l (wrong_node n q) (wrong_cycle cycle) h), ltb-false 63 cycle (or_f_r (wrong_node n q) (wrong_cycle cycle) h))

pub indicator_bounds : (sync startup : ℕ) → wrong_indicators sync startup ≡ false → (sync ≤ 1) × (startup ≤ sync)
unfolding wrong_indicators
indicator_bounds sync startup e =
    let h = or_f_l (wrong_bit sync || wrong_bit startup) (ltb sync startup) e in
    (ltb-false 1 sync (or_f_l (wrong_bit sync) (wrong_bit startup) h), ltb-false sync startup (or_f_r (wrong_bit sync || wrong_bit startup) (ltb sync startup) e))

pub sending_bounds : (sync startup cycle channel : ℕ) → (wrong_indicators sync startup || wrong_cycle cycle || wrong_channel channel) ≡ false
    → (sync ≤ 1) × (startup ≤ sync) × (cycle ≤ 63)
sending_bounds sync startup cycle channel e =
    let h = or_f_l (wrong_indicators sync startup || wrong_cycle cycle) (wrong_channel channel) e in
    let i = indicator_bounds sync startup (or_f_l (wrong_indicators sync startup) (wrong_cycle cycle) h) in
    (i.0, i.1, ltb-false 63 cycle (or_f_r (wrong_indicators sync startup) (wrong_cycle cycle) h))

pub length-is : (k : ℕ) (s : List ℕ) → wrong_length k s ≡ false → length s ≡ k
length-is k s e = eqb-true (length s) k (not-false (eqb (length s) k) e)
