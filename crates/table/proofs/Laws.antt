-- What the records of a table are, for the layers above. Assumes nothing.
use mathlib.Core.Path.{◌≡◌, refl, sym, ap, ◌∙◌}
use mathlib.Core.Bool.{Bool, true, false, not, ◌&&◌, ◌||◌, cond}
use mathlib.Core.List.{List, []}
use Prim.Native.Nat.{ℕ, zero, suc, ◌-◌, ◌/◌, ◌%◌, ◌^◌, ◌≤◌, ◌<◌}
use native.Mathlib.Omega.{arith}
use native.Mathlib.Nat.{zero-mod}
use lib.Dec.{eqb, ltb}
use lib.ListN.{get_or, length, drop, length-drop}
use borrow.Author.Tests.{eqb-true, eqb-false, eq-eqb, ne_eqb, ltb-true, ltb-false}
use Rattle.sets.specs.Sets.{has, below, every}
use Rattle.sets.proofs.Booleans.{and_l, and_r, or_f_l, or_f_r, not-e, not_f}
use Rattle.sets.proofs.Nodes.{every-e}
use Rattle.bigendian.specs.BigEndian.{number_at}
use Rattle.refusal.specs.Refusal.{first}
use Rattle.rules.specs.declared.Faults.{Faults}
use Rattle.rules.specs.Faults.{tabulate}
use Rattle.rules.proofs.Rows.{get-tabulate, get-tabulate-out}
use Rattle.table.specs.Records.{is_kind, beyond, count_at, founding_at, wrong_row, start_refusal}
use Rattle.table.specs.Records.{entries_at, cycle_length, place_at, missed_at, receiver_at, good_entry, masks_beyond, wrong_cycle, cycle_refusal, missed_of, faults_at}
use Rattle.table.specs.Table.{Cycles, with_cycle, cycles_in, table_of}

-- no bit of m at n or above
abbrev pub Within : ℕ → ℕ → Type 0
Within n m = below n m ≡ m

within : (n m : ℕ) → beyond n m ≡ false → Within n m
within n m e = eqb-true (below n m) m (not_f (eqb (below n m) m) e)

-- ---- a first record that is not refused

pub record Begins (lent : Bool) (entries : ℕ) (s : List ℕ) : Type 0 where
  pub there : 12 ≤ length s
  pub least : 2 ≤ count_at s
  pub most : count_at s ≤ 64
  pub row : wrong_row lent entries (count_at s) ≡ false
  pub some : founding_at s ≡ 0 → ⊥
  pub founding : Within (count_at s) (founding_at s)

none_of_six : (a b c d e f : Bool) → ◌≡◌ {A = ℕ} (cond a 11 (cond b 12 (cond c 11 (cond d 1 (cond e 3 (cond f 13 0)))))) 0
    → (c ≡ false) × (d ≡ false) × (e ≡ false) × (f ≡ false)
none_of_six true b c d e f h = absurd (eqb-false 11 0 refl h)
none_of_six false true c d e f h = absurd (eqb-false 12 0 refl h)
none_of_six false false true d e f h = absurd (eqb-false 11 0 refl h)
none_of_six false false false true e f h = absurd (eqb-false 1 0 refl h)
none_of_six false false false false true f h = absurd (eqb-false 3 0 refl h)
none_of_six false false false false false true h = absurd (eqb-false 13 0 refl h)
none_of_six false false false false false false h = (refl, refl, refl, refl)

pub begins : (lent : Bool) (entries : ℕ) (s : List ℕ) → start_refusal lent entries s ≡ 0 → Begins lent entries s
unfolding start_refusal first
begins lent entries s h =
    let t =
    none_of_six (ltb (length s) 3) (not (is_kind 1 s)) (ltb (length s) 12) (ltb (count_at s) 2 || ltb 64 (count_at s)) (wrong_row lent entries (count_at s))
    (eqb (founding_at s) 0 || beyond (count_at s) (founding_at s)) h in
    record {
      there = ltb-false (length s) 12 t.0;
      least = ltb-false (count_at s) 2 (or_f_l (ltb (count_at s) 2) (ltb 64 (count_at s)) t.1);
      most = ltb-false 64 (count_at s) (or_f_r (ltb (count_at s) 2) (ltb 64 (count_at s)) t.1);
      row = t.2;
      some = eqb-false (founding_at s) 0 (or_f_l (eqb (founding_at s) 0) (beyond (count_at s) (founding_at s)) t.3);
      founding = within (count_at s) (founding_at s) (or_f_r (eqb (founding_at s) 0) (beyond (count_at s) (founding_at s)) t.3);
    }

-- ---- a cycle's record that is not refused

pub record Accepted (n k : ℕ) (s : List ℕ) : Type 0 where
  pub head : 36 ≤ length s
  pub there : cycle_length s ≤ length s
  pub number : k ≤ 4294967295
  pub few : entries_at s ≤ 128
  pub stop : Within n (number_at s 3 8)
  pub start : Within n (number_at s 11 8)
  pub heartbeats : Within n (number_at s 19 8)
  pub votes : Within n (number_at s 27 8)
  pub entries : (i : ℕ) → i < entries_at s → good_entry n s i ≡ true

none_of_four : (a b c d : Bool) → ◌≡◌ {A = ℕ} (cond a 11 (cond b 12 (cond c 11 (cond d 13 0)))) 0 → (c ≡ false) × (d ≡ false)
none_of_four true b c d h = absurd (eqb-false 11 0 refl h)
none_of_four false true c d h = absurd (eqb-false 12 0 refl h)
none_of_four false false true d h = absurd (eqb-false 11 0 refl h)
none_of_four false false false true h = absurd (eqb-false 13 0 refl h)
none_of_four false false false false h = (refl, refl)

pub accepted : (n k : ℕ) (s : List ℕ) → cycle_refusal n k s ≡ 0 → Accepted n k s
unfolding cycle_refusal first wrong_cycle masks_beyond
accepted n k s h =
    let t = none_of_four (ltb (length s) 3) (not (is_kind 2 s)) (ltb (length s) 36 || ltb (length s) (cycle_length s)) (wrong_cycle n k s) h in
    let rest = or_f_l (ltb 4294967295 k || masks_beyond n s || ltb 128 (entries_at s)) (not (every (entries_at s) (good_entry n s))) t.1 in
    let low = or_f_l (ltb 4294967295 k || masks_beyond n s) (ltb 128 (entries_at s)) rest in
    let masks = or_f_r (ltb 4294967295 k) (masks_beyond n s) low in
    let three = or_f_l (beyond n (number_at s 3 8) || beyond n (number_at s 11 8) || beyond n (number_at s 19 8)) (beyond n (number_at s 27 8)) masks in
    let two = or_f_l (beyond n (number_at s 3 8) || beyond n (number_at s 11 8)) (beyond n (number_at s 19 8)) three in
    record {
      head = ltb-false (length s) 36 (or_f_l (ltb (length s) 36) (ltb (length s) (cycle_length s)) t.0);
      there = ltb-false (length s) (cycle_length s) (or_f_r (ltb (length s) 36) (ltb (length s) (cycle_length s)) t.0);
      number = ltb-false 4294967295 k (or_f_l (ltb 4294967295 k) (masks_beyond n s) low);
      few = ltb-false 128 (entries_at s) (or_f_r (ltb 4294967295 k || masks_beyond n s) (ltb 128 (entries_at s)) rest);
      stop = within n (number_at s 3 8) (or_f_l (beyond n (number_at s 3 8)) (beyond n (number_at s 11 8)) two);
      start = within n (number_at s 11 8) (or_f_r (beyond n (number_at s 3 8)) (beyond n (number_at s 11 8)) two);
      heartbeats =
          within n (number_at s 19 8) (or_f_r (beyond n (number_at s 3 8) || beyond n (number_at s 11 8)) (beyond n (number_at s 19 8)) three);
      votes =
          within n (number_at s 27 8)
          (or_f_r (beyond n (number_at s 3 8) || beyond n (number_at s 11 8) || beyond n (number_at s 19 8)) (beyond n (number_at s 27 8)) masks);
      entries =
          λ i l. every-e (entries_at s) i (good_entry n s) l
          (not_f (every (entries_at s) (good_entry n s))
          (or_f_r (ltb 4294967295 k || masks_beyond n s || ltb 128 (entries_at s)) (not (every (entries_at s) (good_entry n s))) t.1));
    }

-- its masks missed are within n too
fourth : (a b c d e f : Bool) → (a && b && c && d && e && f) ≡ true → d ≡ true
fourth a b c d e f h = and_r (a && b && c) d (and_l (a && b && c && d) e (and_l (a && b && c && d && e) f h))

entry_within : (n : ℕ) (s : List ℕ) (i : ℕ) → good_entry n s i ≡ true → Within n (missed_at s i)
unfolding good_entry
entry_within n s i e =
    within n (missed_at s i)
    (not-e (beyond n (missed_at s i))
    (fourth (eqb (place_at s i / 64 % 2) 0) (ltb (receiver_at s i) n) (not (eqb (missed_at s i) 0)) (not (beyond n (missed_at s i)))
    (not (has (receiver_at s i) (missed_at s i))) (eqb i 0 || ltb (place_at s (i - 1)) (place_at s i)) e))

missed_within : (n : ℕ) (s : List ℕ) (i b : ℕ) → ((j : ℕ) → j < i → good_entry n s j ≡ true) → Within n (missed_of s i b)
unfolding missed_of below
missed_within n s zero b good = zero-mod (2 ^ n)
missed_within n s (suc i) b good = go (eqb (place_at s i) b) (missed_within n s i b (λ j l. good j (omega arith)))
  where
    go : (t : Bool) → Within n (missed_of s i b) → Within n (cond t (missed_at s i) (missed_of s i b))
    go true rest = entry_within n s i (good i (omega arith))
    go false rest = rest

pub missed_accepted : (n k : ℕ) (s : List ℕ) (b : ℕ) → cycle_refusal n k s ≡ 0 → Within n (missed_of s (entries_at s) b)
missed_accepted n k s b h = missed_within n s (entries_at s) b (accepted n k s h).entries

-- the same of its fault record
pub record Bounded (n : ℕ) (c : Faults) : Type 0 where
  pub stop : Within n c.stop
  pub start : Within n c.start
  pub heartbeats : Within n c.heartbeat_lost
  pub votes : Within n c.vote_lost
  pub heartbeats_missed : (q : ℕ) → Within n (get_or c.heartbeat_missed q 0)
  pub votes_missed : (q : ℕ) → Within n (get_or c.vote_missed q 0)

within_row : (n : ℕ) (f : ℕ → ℕ) (q : ℕ) → ((p : ℕ) → Within n (f p)) → Within n (get_or (tabulate 64 f) q 0)
unfolding below
within_row n f q h = go (ltb q 64) refl
  where
    go : (b : Bool) → ltb q 64 ≡ b → Within n (get_or (tabulate 64 f) q 0)
    go true e = rw (get-tabulate 64 q f 0 (ltb-true q 64 e)) (h q)
    go false e = rw (get-tabulate-out 64 q f 0 (ltb-false q 64 e)) (zero-mod (2 ^ n))

pub bounded : (n k : ℕ) (s : List ℕ) → cycle_refusal n k s ≡ 0 → Bounded n (faults_at s)
unfolding faults_at
bounded n k s h =
    let t = accepted n k s h in
    record {
      stop = t.stop;
      start = t.start;
      heartbeats = t.heartbeats;
      votes = t.votes;
      heartbeats_missed = λ q. within_row n _ q (λ p. missed_accepted n k s _ h);
      votes_missed = λ q. within_row n _ q (λ p. missed_accepted n k s _ h);
    }

-- ---- the cycles of a table

abbrev pub no_cycle : ℕ → Cycles
no_cycle refusal = record { whole = []; refusal = refusal }

-- at the end
pub cycles_end : (most n k : ℕ) (s : List ℕ) → length s ≡ 0 → cycles_in most n k s ≡ no_cycle 0
unfolding cycles_in
cycles_end zero n k s e = refl
cycles_end (suc most) n k s e = rw (eq-eqb (length s) 0 e)

-- at a refusal
pub cycles_refused : (most n k : ℕ) (s : List ℕ) → length s ≤ most → (length s ≡ 0 → ⊥) → (cycle_refusal n k s ≡ 0 → ⊥)
    → cycles_in most n k s ≡ no_cycle (cycle_refusal n k s)
unfolding cycles_in
cycles_refused zero n k s l ne r = absurd (ne (omega arith))
cycles_refused (suc most) n k s l ne r = rw (ne_eqb (length s) 0 ne, ne_eqb (cycle_refusal n k s) 0 r)

-- at an accepted record, which takes one of `most`
cycles_step : (most n k : ℕ) (s : List ℕ) → cycle_refusal n k s ≡ 0
    → cycles_in (suc most) n k s ≡ with_cycle (faults_at s) (cycles_in most n (suc k) (drop (cycle_length s) s))
unfolding cycles_in
cycles_step most n k s r = rw (ne_eqb (length s) 0 some, eq-eqb (cycle_refusal n k s) 0 r)
  where
    some : length s ≡ 0 → ⊥
    some e = omega (arith, (accepted n k s r).head)

rest_shorter : (most : ℕ) (s : List ℕ) → length s ≤ suc most → length (drop (cycle_length s) s) ≤ most
rest_shorter most s l = omega (arith, length-drop (cycle_length s) s)

-- `most` does not matter once it is at least the length
pub enough : (most more n k : ℕ) (s : List ℕ) → length s ≤ most → length s ≤ more → cycles_in most n k s ≡ cycles_in more n k s
enough zero more n k s l m = let e : length s ≡ 0 = omega arith in cycles_end zero n k s e ∙ sym (cycles_end more n k s e)
enough (suc most) zero n k s l m = let e : length s ≡ 0 = omega arith in cycles_end (suc most) n k s e ∙ sym (cycles_end zero n k s e)
enough (suc most) (suc more) n k s l m =
    go (eqb (length s) 0) refl (eqb (cycle_refusal n k s) 0) refl
    (enough most more n (suc k) (drop (cycle_length s) s) (rest_shorter most s l) (rest_shorter more s m))
  where
    go : (a : Bool) → eqb (length s) 0 ≡ a → (b : Bool) → eqb (cycle_refusal n k s) 0 ≡ b
        → cycles_in most n (suc k) (drop (cycle_length s) s) ≡ cycles_in more n (suc k) (drop (cycle_length s) s)
        → cycles_in (suc most) n k s ≡ cycles_in (suc more) n k s
    go true e b f rest = let z : length s ≡ 0 = eqb-true (length s) 0 e in cycles_end (suc most) n k s z ∙ sym (cycles_end (suc more) n k s z)
    go false e true f rest =
        let r : cycle_refusal n k s ≡ 0 = eqb-true (cycle_refusal n k s) 0 f in
        cycles_step most n k s r ∙ ap (with_cycle (faults_at s)) rest ∙ sym (cycles_step more n k s r)
    go false e false f rest =
        cycles_refused (suc most) n k s l (eqb-false (length s) 0 e) (eqb-false (cycle_refusal n k s) 0 f)
        ∙ sym (cycles_refused (suc more) n k s m (eqb-false (length s) 0 e) (eqb-false (cycle_refusal n k s) 0 f))

-- at an accepted record
pub cycles_next : (most n k : ℕ) (s : List ℕ) → length s ≤ most → cycle_refusal n k s ≡ 0
    → cycles_in most n k s ≡ with_cycle (faults_at s) (cycles_in most n (suc k) (drop (cycle_length s) s))
cycles_next zero n k s l r = absurd (omega (arith, (accepted n k s r).head))
cycles_next (suc most) n k s l r =
    cycles_step most n k s r
    ∙ ap (with_cycle (faults_at s)) (enough most (suc most) n (suc k) (drop (cycle_length s) s) (rest_shorter most s l) (up (rest_shorter most s l)))
  where
    up : length (drop (cycle_length s) s) ≤ most → length (drop (cycle_length s) s) ≤ suc most
    up h = omega arith

-- ---- a table

pub table_refused : (lent : Bool) (entries : ℕ) (s : List ℕ) → (start_refusal lent entries s ≡ 0 → ⊥)
    → (table_of lent entries s).cycles ≡ no_cycle (start_refusal lent entries s)
unfolding table_of
table_refused lent entries s r = rw (ne_eqb (start_refusal lent entries s) 0 r)

pub table_cycles : (lent : Bool) (entries : ℕ) (s : List ℕ) → start_refusal lent entries s ≡ 0
    → (table_of lent entries s).cycles ≡ cycles_in (length (drop 12 s)) (count_at s) 1 (drop 12 s)
unfolding table_of
table_cycles lent entries s r =
    rw (eq-eqb (start_refusal lent entries s) 0 r)
    (enough (length s) (length (drop 12 s)) (count_at s) 1 (drop 12 s) (omega (arith, length-drop 12 s)) (omega arith))
