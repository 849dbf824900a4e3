-- Paper 01, "Table file" and refusals 11 to 13: the records of a table. `s` is what is left of the file where the record begins.
-- Assumes nothing.
--     mark: the two bytes that every record begins with
--     marked: whether a record begins with them
--     is_kind: whether it is a record of the kind
--     beyond: whether a mask has a bit at n or above
--     start_length: the length of the first record
--     count_at, founding_at: N and the founding set in it
--     wrong_row: whether a run is lent a row that is not of N entries
--     start_refusal: the refusal of the first record, 0 if there is none
--     entries_at: the count of entries of a cycle's record
--     cycle_length: its length, by that count
--     place_at, missed_at, receiver_at: the first byte, the mask and the receiver of entry i
--     good_entry: whether entry i is within its limits and in order
--     masks_beyond: whether one of the four masks has a bit at n or above
--     wrong_cycle: whether refusal 13 holds of a cycle's record
--     cycle_refusal: its refusal, 0 if there is none
--     missed_of: the mask of the entry with a first byte, 0 if there is none
--     faults_at: the faults of the cycle
--     marks_at: its four masks
use Rattle.std.specs.Prelude.{Bool, not, ◌&&◌, ◌||◌, cond, List, [], ◌∷◌, ℕ, zero, suc, ◌+◌, ◌-◌, ◌*◌, ◌/◌, ◌%◌, eqb, ltb, get_or, length}
use Rattle.sets.specs.Sets.{has, below, every}
use Rattle.bigendian.specs.BigEndian.{number_at}
use Rattle.refusal.specs.Refusal.{when, first}
use Rattle.rules.specs.declared.Faults.{Faults}
use Rattle.rules.specs.declared.Marks.{Marks}
use Rattle.rules.specs.Faults.{tabulate}

-- "Every record begins with the two bytes hex 47 4D. Then the kind byte."
abbrev pub mark : List ℕ
mark = 0x47 ∷ 0x4D ∷ []

unfoldable pub marked : List ℕ → Bool
marked s = eqb (get_or s 0 0) (get_or mark 0 0) && eqb (get_or s 1 0) (get_or mark 1 0)

abbrev pub is_kind : ℕ → List ℕ → Bool
is_kind kind s = marked s && eqb (get_or s 2 0) kind

-- a mask with a bit at n or above
abbrev pub beyond : ℕ → ℕ → Bool
beyond n m = not (eqb (below n m) m)

-- ---- "Kind 1, first and only once: N (1 byte), founding set (8)."

abbrev pub start_length : ℕ
start_length = 12

abbrev pub count_at : List ℕ → ℕ
count_at s = get_or s 3 0

abbrev pub founding_at : List ℕ → ℕ
founding_at s = number_at s 4 8

-- The row that a run is lent, by the number of its entries; the program is lent none.
abbrev pub wrong_row : Bool → ℕ → ℕ → Bool
wrong_row lent entries n = lent && not (eqb entries n)

-- "fewer than three bytes left of a record give 11; then 12; then 11 if the record's bytes .. are not all there; then 1 for N; then 3 for a run's row; then
-- 13." "13: founding set empty; a bit .. beyond its limit". An empty file is 11.
unfoldable pub start_refusal : Bool → ℕ → List ℕ → ℕ
start_refusal lent entries s =
    first
    (when (ltb (length s) 3) 11
    ∷ when (not (is_kind 1 s)) 12
    ∷ when (ltb (length s) start_length) 11
    ∷ when (ltb (count_at s) 2 || ltb 64 (count_at s)) 1
    ∷ when (wrong_row lent entries (count_at s)) 3
    ∷ when (eqb (founding_at s) 0 || beyond (count_at s) (founding_at s)) 13
    ∷ [])

-- ---- "Kind 2, a cycle: the four masks in the order above (8 each), a count of entries (1 byte, 0 to 128), and entries of 9 bytes: phase in bit 7 (0
-- heartbeat, 1 vote), bit 6 zero, receiver in bits 0 to 5, then the mask missed. Entries ascend strictly by first byte."

abbrev pub entries_at : List ℕ → ℕ
entries_at s = get_or s 35 0

-- the length of the record, "by its count even above 128"
abbrev pub cycle_length : List ℕ → ℕ
cycle_length s = 36 + 9 * entries_at s

-- entry i: its first byte, and the mask missed
abbrev pub place_at : List ℕ → ℕ → ℕ
place_at s i = get_or s (36 + 9 * i) 0

abbrev pub missed_at : List ℕ → ℕ → ℕ
missed_at s i = number_at s (37 + 9 * i) 8

abbrev pub receiver_at : List ℕ → ℕ → ℕ
receiver_at s i = place_at s i % 64

-- "13: .. a bit, receiver or count beyond its limit; an entry with bit 6 set, an empty mask, its own receiver in the mask, or out of order"
unfoldable pub good_entry : ℕ → List ℕ → ℕ → Bool
good_entry n s i =
    eqb (place_at s i / 64 % 2) 0 && ltb (receiver_at s i) n && not (eqb (missed_at s i) 0) && not (beyond n (missed_at s i))
    && not (has (receiver_at s i) (missed_at s i)) && (eqb i 0 || ltb (place_at s (i - 1)) (place_at s i))

-- a bit of one of the four masks beyond its limit
unfoldable pub masks_beyond : ℕ → List ℕ → Bool
masks_beyond n s = beyond n (number_at s 3 8) || beyond n (number_at s 11 8) || beyond n (number_at s 19 8) || beyond n (number_at s 27 8)

-- "a cycle after number 4294967295"; k is the number that this cycle would have
unfoldable pub wrong_cycle : ℕ → ℕ → List ℕ → Bool
wrong_cycle n k s = ltb 4294967295 k || masks_beyond n s || ltb 128 (entries_at s) || not (every (entries_at s) (good_entry n s))

unfoldable pub cycle_refusal : ℕ → ℕ → List ℕ → ℕ
cycle_refusal n k s =
    first
    (when (ltb (length s) 3) 11
    ∷ when (not (is_kind 2 s)) 12
    ∷ when (ltb (length s) 36 || ltb (length s) (cycle_length s)) 11
    ∷ when (wrong_cycle n k s) 13
    ∷ [])

-- the mask of the last of the first i entries whose first byte is b, 0 if there is none
unfoldable pub missed_of : List ℕ → ℕ → ℕ → ℕ
missed_of s zero b = 0
missed_of s (suc i) b = let rest = missed_of s i b in cond (eqb (place_at s i) b) (missed_at s i) rest

-- the fault record of a cycle
unfoldable pub faults_at : List ℕ → Faults
faults_at s =
    record {
      stop = number_at s 3 8;
      start = number_at s 11 8;
      heartbeat_lost = number_at s 19 8;
      vote_lost = number_at s 27 8;
      heartbeat_missed = tabulate 64 (λ q. missed_of s (entries_at s) q);
      vote_missed = tabulate 64 (λ q. missed_of s (entries_at s) (128 + q));
    }

-- the four masks of a cycle's record
abbrev pub marks_at : List ℕ → Marks
marks_at s =
    let f = faults_at s in
    record { stop = f.stop; start = f.start; heartbeat_lost = f.heartbeat_lost; vote_lost = f.vote_lost }
