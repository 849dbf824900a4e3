-- A record is what is seen of it: no refusal, length or fault record looks beyond the record. Assumes nothing.
use mathlib.Core.Path.{◌≡◌, refl, sym, ap, ap₂, fun_ext, ◌∙◌}
use mathlib.Core.Bool.{Bool, true, false, not, ◌&&◌, ◌||◌, cond, true≢false}
use mathlib.Core.List.{List, [], ◌∷◌}
use mathlib.Core.Logic.{◌⊎◌, inl, inr}
use Prim.Native.Nat.{ℕ, zero, suc, ◌+◌, ◌-◌, ◌*◌, ◌/◌, ◌%◌, ◌≤◌, ◌<◌}
use native.Mathlib.Omega.{arith}
use lib.Dec.{eqb, ltb, leb}
use lib.ListN.{get_or, length, length-take}
use lib.Seq.{get_or-take}
use borrow.Author.Tests.{le-ltb, le-leb, leb-true, leb-false}
use Rattle.sets.specs.Sets.{has, every}
use Rattle.sets.proofs.Booleans.{and_l, and_r}
use Rattle.bigendian.specs.BigEndian.{number_at}
use Rattle.refusal.specs.Refusal.{when, first}
use Rattle.rules.specs.Faults.{tabulate}
use Rattle.table.specs.Records.{marked, is_kind, beyond, count_at, founding_at, wrong_row, start_refusal}
use Rattle.table.specs.Records.{entries_at, cycle_length, place_at, missed_at, good_entry, masks_beyond, wrong_cycle, cycle_refusal, missed_of, faults_at}
use Rattle.print_window.specs.Window.{Shows}
use Rattle.print_pieces.specs.Pieces.{longest, whole_in}

-- the first m elements of s are those of t
abbrev Agree : ℕ → List ℕ → List ℕ → Type 0
Agree m s t = (i : ℕ) → i < m → get_or s i 0 ≡ get_or t i 0

every_agree : (n : ℕ) (p q : ℕ → Bool) → ((i : ℕ) → i < n → p i ≡ q i) → every n p ≡ every n q
unfolding every
every_agree zero p q h = refl
every_agree (suc n) p q h = ap₂ (λ (a b : Bool). a && b) (h n (omega arith)) (every_agree n p q (λ i l. h i (omega arith)))

-- an entry, by its first byte, its mask and the first byte before
entry_fits : ℕ → ℕ → ℕ → ℕ → ℕ → Bool
entry_fits n i place missed before =
    eqb (place / 64 % 2) 0 && ltb (place % 64) n && not (eqb missed 0) && not (beyond n missed) && not (has (place % 64) missed)
    && (eqb i 0 || ltb before place)

module _ (m : ℕ) (s t : List ℕ) (agree : Agree m s t) where
  number-agree : (i k : ℕ) → i + k ≤ m → number_at s i k ≡ number_at t i k
  unfolding number_at
  number-agree i zero h = refl
  number-agree i (suc k) h = ap₂ (λ (x y : ℕ). x * 256 + y) (number-agree i k (omega arith)) (agree (i + k) (omega arith))

  good-agree : (n i : ℕ) → 45 + 9 * i ≤ m → good_entry n s i ≡ good_entry n t i
  unfolding good_entry entry_fits
  good-agree n i h =
      ap₂ (λ (p q : ℕ). entry_fits n i p (missed_at s i) q) (agree (36 + 9 * i) (omega arith)) (agree (36 + 9 * (i - 1)) (omega arith))
      ∙ ap (λ (x : ℕ). entry_fits n i (place_at t i) x (place_at t (i - 1))) (number-agree (37 + 9 * i) 8 (omega arith))

  missed-agree : (i b : ℕ) → 36 + 9 * i ≤ m → missed_of s i b ≡ missed_of t i b
  unfolding missed_of
  missed-agree zero b h = refl
  missed-agree (suc i) b h =
      ap₂ (λ (p x : ℕ). cond (eqb p b) x (missed_of s i b)) (agree (36 + 9 * i) (omega arith)) (number-agree (37 + 9 * i) 8 (omega arith))
      ∙ ap (λ (x : ℕ). cond (eqb (place_at t i) b) (missed_at t i) x) (missed-agree i b (omega arith))

  kind-agree : (kind : ℕ) → 3 ≤ m → is_kind kind s ≡ is_kind kind t
  unfolding marked
  kind-agree kind h =
      ap₂ (λ (a b : ℕ). eqb a 0x47 && eqb b 0x4D && eqb (get_or s 2 0) kind) (agree 0 (omega arith)) (agree 1 (omega arith))
      ∙ ap (λ (a : ℕ). eqb (get_or t 0 0) 0x47 && eqb (get_or t 1 0) 0x4D && eqb a kind) (agree 2 (omega arith))

  module _ (head : 36 ≤ m) (there : cycle_length s ≤ m) where
    count-agree : entries_at s ≡ entries_at t
    count-agree = agree 35 (omega arith)

    masks-agree : (n : ℕ) → masks_beyond n s ≡ masks_beyond n t
    unfolding masks_beyond
    masks-agree n =
        ap₂ (λ (a b : ℕ). beyond n a || beyond n b || beyond n (number_at s 19 8) || beyond n (number_at s 27 8)) (number-agree 3 8 (omega arith))
        (number-agree 11 8 (omega arith))
        ∙ ap₂ (λ (a b : ℕ). beyond n (number_at t 3 8) || beyond n (number_at t 11 8) || beyond n a || beyond n b) (number-agree 19 8 (omega arith))
        (number-agree 27 8 (omega arith))

    entries-agree : (n : ℕ) → every (entries_at s) (good_entry n s) ≡ every (entries_at t) (good_entry n t)
    entries-agree n =
        every_agree (entries_at s) (good_entry n s) (good_entry n t) (λ i l. good-agree n i (omega arith))
        ∙ ap (λ (e : ℕ). every e (good_entry n t)) count-agree

    wrong-agree : (n k : ℕ) → wrong_cycle n k s ≡ wrong_cycle n k t
    unfolding wrong_cycle
    wrong-agree n k =
        ap₂ (λ (b : Bool) (e : ℕ). ltb 4294967295 k || b || ltb 128 e || not (every (entries_at s) (good_entry n s))) (masks-agree n) count-agree
        ∙ ap (λ (b : Bool). ltb 4294967295 k || masks_beyond n t || ltb 128 (entries_at t) || not b) (entries-agree n)

    row-agree : (f : ℕ → ℕ) → tabulate 64 (λ q. missed_of s (entries_at s) (f q)) ≡ tabulate 64 (λ q. missed_of t (entries_at t) (f q))
    row-agree f =
        ap (tabulate 64) (fun_ext (λ q. missed-agree (entries_at s) (f q) (omega arith) ∙ ap (λ (e : ℕ). missed_of t e (f q)) count-agree))

    faults-agree : faults_at s ≡ faults_at t
    unfolding faults_at
    faults-agree =
        rw (
          number-agree 3 8 (omega arith),
          number-agree 11 8 (omega arith),
          number-agree 19 8 (omega arith),
          number-agree 27 8 (omega arith),
          row-agree (λ q. q),
          row-agree (λ q. 128 + q),
        )

-- the refusal of a record, by its conditions
of_four : Bool → Bool → Bool → Bool → ℕ
of_four short other cut wrong = first (when short 11 ∷ when other 12 ∷ when cut 11 ∷ when wrong 13 ∷ [])

of_start : Bool → ℕ → Bool → Bool → Bool → ℕ → ℕ → ℕ
of_start lent entries short other cut n founding =
    first
    (when short 11
    ∷ when other 12
    ∷ when cut 11
    ∷ when (ltb n 2 || ltb 64 n) 1
    ∷ when (wrong_row lent entries n) 3
    ∷ when (eqb founding 0 || beyond n founding) 13
    ∷ [])

long : (s : List ℕ) (k : ℕ) → k ≤ length s → ltb (length s) k ≡ false
long s k h = le-ltb (length s) k h

-- ---- what a whole record is known by

pub whole-first : (s : List ℕ) → whole_in false s ≡ true → 12 ≤ length s
unfolding whole_in
whole-first s e = leb-true 12 (length s) e

pub whole-cycle : (s : List ℕ) → whole_in true s ≡ true → (36 ≤ length s) × (cycle_length s ≤ length s)
unfolding whole_in
whole-cycle s e =
    let a = leb 36 (length s) in
    let b = leb (cycle_length s) (length s) in
    (leb-true 36 (length s) (and_l a b e), leb-true (cycle_length s) (length s) (and_r a b e))

-- a later record is whole where all its bytes are there
pub whole-there : (s : List ℕ) (r : Bool) → (r ≡ true → cycle_length s ≤ length s) → (cycle_length s ≤ length s → r ≡ true) → r ≡ whole_in true s
unfolding whole_in
whole-there s r there full = go r refl (leb (cycle_length s) (length s)) refl
  where
    go : (b : Bool) → r ≡ b → (d : Bool) → leb (cycle_length s) (length s) ≡ d → r ≡ (leb 36 (length s) && leb (cycle_length s) (length s))
    go true e d k = let l = there e in e ∙ sym (ap₂ (λ (x y : Bool). x && y) (le-leb 36 (length s) (omega (arith, l))) (le-leb (cycle_length s) (length s) l))
    go false e true k = absurd (true≢false (sym (full (leb-true (cycle_length s) (length s) k)) ∙ e))
    go false e false k = e ∙ sym (ap (λ (y : Bool). leb 36 (length s) && y) k ∙ nothing (leb 36 (length s)))
      where
        nothing : (x : Bool) → (x && false) ≡ false
        nothing true = refl
        nothing false = refl

-- a record that is not whole is shorter than the longest
pub not_whole_short : (begun : Bool) (s : List ℕ) → get_or s 35 0 < 256 → whole_in begun s ≡ false → length s < longest
unfolding whole_in
not_whole_short false s byte e = omega (arith, leb-false 12 (length s) e)
not_whole_short true s byte e = go (leb 36 (length s)) refl (leb (cycle_length s) (length s)) refl e
  where
    go : (a : Bool) → leb 36 (length s) ≡ a → (b : Bool) → leb (cycle_length s) (length s) ≡ b → (a && b) ≡ false → length s < longest
    go false ea b eb h = omega (arith, leb-false 36 (length s) ea)
    go true ea false eb h = omega (arith, leb-false (cycle_length s) (length s) eb)
    go true ea true eb h = absurd (true≢false h)

module _ (left rest : List ℕ) (ended : Bool) (shows : Shows left ended rest) where
  seen-agree : Agree (length left) left rest
  seen-agree i h = ap (λ (l : List ℕ). get_or l i 0) (sym shows.front) ∙ get_or-take (length left) rest i 0 h

  seen-shorter : length left ≤ length rest
  seen-shorter = omega (arith, length-take (length left) rest, ap length shows.front)

  pub none_left : length rest ≡ 0 → length left ≡ 0
  none_left e = omega (arith, seen-shorter)

  -- the file has ended, or the record is whole
  either : (begun : Bool) → (ended || whole_in begun left) ≡ true → (left ≡ rest) ⊎ (whole_in begun left ≡ true)
  either begun e = go ended refl e
    where
      go : (b : Bool) → ended ≡ b → (b || whole_in begun left) ≡ true → (left ≡ rest) ⊎ (whole_in begun left ≡ true)
      go true k h = inl (shows.whole k)
      go false k h = inr h

  pub seen-length : 36 ≤ length left → cycle_length left ≡ cycle_length rest
  seen-length h = ap (λ (e : ℕ). 36 + 9 * e) (seen-agree 35 (omega arith))

  pub seen-faults : 36 ≤ length left → cycle_length left ≤ length left → faults_at left ≡ faults_at rest
  seen-faults h l = faults-agree (length left) left rest seen-agree h l

  module _ (ready : (ended || whole_in true left) ≡ true) where
    pub seen_end : length left ≡ 0 → length rest ≡ 0
    seen_end e = go (either true ready)
      where
        go : (left ≡ rest) ⊎ (whole_in true left ≡ true) → length rest ≡ 0
        go (inl same) = ap length (sym same) ∙ e
        go (inr w) = absurd (omega (arith, (whole-cycle left w).0))

    pub seen-refusal : (n k : ℕ) → cycle_refusal n k left ≡ cycle_refusal n k rest
    unfolding cycle_refusal of_four
    seen-refusal n k = go (either true ready)
      where
        go : (left ≡ rest) ⊎ (whole_in true left ≡ true) → cycle_refusal n k left ≡ cycle_refusal n k rest
        go (inl same) = ap (cycle_refusal n k) same
        go (inr w) =
            let more = seen-shorter in
            let head = (whole-cycle left w).0 in
            let there = (whole-cycle left w).1 in
            let there' : cycle_length rest ≤ length rest = omega (arith, seen-length head) in
            let short : ltb (length left) 3 ≡ ltb (length rest) 3 = long left 3 (omega arith) ∙ sym (long rest 3 (omega arith)) in
            let few : ltb (length left) 36 ≡ ltb (length rest) 36 = long left 36 head ∙ sym (long rest 36 (omega arith)) in
            let cut : ltb (length left) (cycle_length left) ≡ ltb (length rest) (cycle_length rest) = long left _ there ∙ sym (long rest _ there') in
            ap₂ (λ (a b : Bool). of_four a b (ltb (length left) 36 || ltb (length left) (cycle_length left)) (wrong_cycle n k left)) short
            (ap not (kind-agree (length left) left rest seen-agree 2 (omega arith)))
            ∙ ap₂ (λ (a b : Bool). of_four (ltb (length rest) 3) (not (is_kind 2 rest)) a b) (ap₂ (λ (a b : Bool). a || b) few cut)
            (wrong-agree (length left) left rest seen-agree head there n k)

  pub seen-count : 12 ≤ length left → count_at left ≡ count_at rest
  seen-count h = seen-agree 3 (omega arith)

  pub seen-founding : 12 ≤ length left → founding_at left ≡ founding_at rest
  seen-founding h = number-agree (length left) left rest seen-agree 4 8 (omega arith)

  pub seen_start : (ended || whole_in false left) ≡ true → (lent : Bool) (entries : ℕ) → start_refusal lent entries left ≡ start_refusal lent entries rest
  unfolding start_refusal of_start
  seen_start ready lent entries = go (either false ready)
    where
      go : (left ≡ rest) ⊎ (whole_in false left ≡ true) → start_refusal lent entries left ≡ start_refusal lent entries rest
      go (inl same) = ap (start_refusal lent entries) same
      go (inr w) =
          let more = seen-shorter in
          let there = whole-first left w in
          let short : ltb (length left) 3 ≡ ltb (length rest) 3 = long left 3 (omega arith) ∙ sym (long rest 3 (omega arith)) in
          let cut : ltb (length left) 12 ≡ ltb (length rest) 12 = long left 12 there ∙ sym (long rest 12 (omega arith)) in
          ap₂ (λ (a b : Bool). of_start lent entries a (not b) (ltb (length left) 12) (count_at left) (founding_at left)) short
          (kind-agree (length left) left rest seen-agree 1 (omega arith))
          ∙ ap (λ (a : Bool). of_start lent entries (ltb (length rest) 3) (not (is_kind 1 rest)) a (count_at left) (founding_at left)) cut
          ∙ ap₂ (of_start lent entries (ltb (length rest) 3) (not (is_kind 1 rest)) (ltb (length rest) 12)) (seen-count there) (seen-founding there)
