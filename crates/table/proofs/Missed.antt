-- The masks missed, entry by entry: what one pass over the entries of a record builds. Assumes nothing.
use mathlib.Core.Path.{◌≡◌, refl, sym, ap, ◌∙◌}
use mathlib.Core.Logic.{◌⊎◌, inl, inr}
use mathlib.Core.Bool.{Bool, true, false, cond}
use mathlib.Core.List.{List}
use Prim.Native.Nat.{ℕ, suc, ◌+◌, ◌/◌, ◌%◌, ◌<◌}
use native.Mathlib.Omega.{arith}
use native.Mathlib.Numerals.{add-one}
use lib.Dec.{eqb}
use lib.ListN.{get_or, length, set, replicate, length-set}
use lib.Seq.{ext_get_or, get_or-set_same, get_or-set_other}
use borrow.Author.Tests.{eq-eqb, ne_eqb, eqb-true, eqb-false}
use Rattle.sets.proofs.Booleans.{bool}
use Rattle.rules.specs.Faults.{tabulate}
use Rattle.rules.proofs.Rows.{get-tabulate, length-tabulate}
use Rattle.rules.specs.declared.Marks.{Marks}
use Rattle.table.specs.Records.{entries_at, place_at, missed_at, missed_of, faults_at, marks_at}

-- storing x at j in a row, or nothing
row_set : (f g : ℕ → ℕ) (j x : ℕ) → j < 64 → g j ≡ x → ((q : ℕ) → q < 64 → (q ≡ j → ⊥) → g q ≡ f q) → tabulate 64 g ≡ set (tabulate 64 f) j x
row_set f g j x h same other =
    ext_get_or 0 (tabulate 64 g) (set (tabulate 64 f) j x)
    (length-tabulate 64 g ∙ sym (length-set (tabulate 64 f) j x ∙ length-tabulate 64 f))
    (λ q l. let lt : q < 64 = below q l in get-tabulate 64 q g 0 lt ∙ at q lt (bool (eqb q j)))
  where
    below : (q : ℕ) → q < length (tabulate 64 g) → q < 64
    below q l = omega (arith, length-tabulate 64 g)

    there : j < length (tabulate 64 f)
    there = omega (arith, length-tabulate 64 f)

    at : (q : ℕ) → q < 64 → (eqb q j ≡ true) ⊎ (eqb q j ≡ false) → g q ≡ get_or (set (tabulate 64 f) j x) q 0
    at q l (inl e) =
        ap g (eqb-true q j e) ∙ same
        ∙ sym (ap (λ (i : ℕ). get_or (set (tabulate 64 f) j x) i 0) (eqb-true q j e) ∙ get_or-set_same (tabulate 64 f) j x 0 there)
    at q l (inr e) =
        other q l (eqb-false q j e)
        ∙ sym (get_or-set_other (tabulate 64 f) j q x 0 (eqb-false q j e) ∙ get-tabulate 64 q f 0 l)

row_same : (f g : ℕ → ℕ) → ((q : ℕ) → q < 64 → g q ≡ f q) → tabulate 64 g ≡ tabulate 64 f
row_same f g same =
    ext_get_or 0 (tabulate 64 g) (tabulate 64 f) (length-tabulate 64 g ∙ sym (length-tabulate 64 f))
    (λ q l. let lt : q < 64 = below q l in get-tabulate 64 q g 0 lt ∙ same q lt ∙ sym (get-tabulate 64 q f 0 lt))
  where
    below : (q : ℕ) → q < length (tabulate 64 g) → q < 64
    below q l = omega (arith, length-tabulate 64 g)

-- the masks of the first i entries, receiver by receiver; `first` is a receiver's first byte in this phase
abbrev pub row : (ℕ → ℕ) → List ℕ → ℕ → List ℕ
row first s i = tabulate 64 (λ q. missed_of s i (first q))

pub row_none : (first : ℕ → ℕ) (s : List ℕ) → replicate 64 0 ≡ row first s 0
unfolding tabulate missed_of
row_none first s = refl

missed_next : (s : List ℕ) (i b : ℕ) → missed_of s (suc i) b ≡ cond (eqb (place_at s i) b) (missed_at s i) (missed_of s i b)
unfolding missed_of
missed_next s i b = refl

missed_here : (s : List ℕ) (i b : ℕ) → place_at s i ≡ b → missed_of s (suc i) b ≡ missed_at s i
missed_here s i b e = missed_next s i b ∙ rw (eq-eqb (place_at s i) b e)

missed_other : (s : List ℕ) (i b : ℕ) → (place_at s i ≡ b → ⊥) → missed_of s (suc i) b ≡ missed_of s i b
missed_other s i b e = missed_next s i b ∙ rw (ne_eqb (place_at s i) b e)

-- the next entry is stored at its receiver, if its phase is this one
pub row_next : (first : ℕ → ℕ) (phase : ℕ) (s : List ℕ) (i : ℕ)
    → ((q : ℕ) → q < 64 → (first q / 64 ≡ phase) × (first q % 64 ≡ q))
    → ((b : ℕ) → b / 64 ≡ phase → b ≡ first (b % 64))
    → row first s (suc i) ≡ cond (eqb (place_at s i / 64) phase) (set (row first s i) (place_at s i % 64) (missed_at s i)) (row first s i)
row_next first phase s i of to = go (eqb (b / 64) phase) refl
  where
    b : ℕ
    b = place_at s i

    low : b % 64 < 64
    low = omega arith

    go : (t : Bool) → eqb (place_at s i / 64) phase ≡ t → row first s (suc i) ≡ cond t (set (row first s i) (place_at s i % 64) (missed_at s i)) (row first s i)
    go true e =
        row_set (λ q. missed_of s i (first q)) (λ q. missed_of s (suc i) (first q)) (place_at s i % 64) (missed_at s i) low
        (missed_here s i (first (place_at s i % 64)) (to (place_at s i) (eqb-true (place_at s i / 64) phase e)))
        (λ q l ne. missed_other s i (first q) (λ same. ne (sym (of q l).1 ∙ ap (λ (x : ℕ). x % 64) (sym same))))
    go false e =
        row_same (λ q. missed_of s i (first q)) (λ q. missed_of s (suc i) (first q))
        (λ q l. missed_other s i (first q) (λ same. eqb-false (place_at s i / 64) phase e (ap (λ (x : ℕ). x / 64) same ∙ (of q l).0)))

-- one turn of the pass: l is what was stored before it, t after it
turn : (first : ℕ → ℕ) (phase : ℕ) (s l t : List ℕ) (i b m : ℕ)
    → ((q : ℕ) → q < 64 → (first q / 64 ≡ phase) × (first q % 64 ≡ q))
    → ((b : ℕ) → b / 64 ≡ phase → b ≡ first (b % 64))
    → l ≡ row first s i → b ≡ place_at s i → m ≡ missed_at s i → t ≡ cond (eqb (b / 64) phase) (set l (b % 64) m) l → t ≡ row first s (i + 1)
turn first phase s l t i b m of to kl kb km kt = kt ∙ stored ∙ sym (ap (row first s) (add-one i) ∙ row_next first phase s i of to)
  where
    stored : cond (eqb (b / 64) phase) (set l (b % 64) m) l
        ≡ cond (eqb (place_at s i / 64) phase) (set (row first s i) (place_at s i % 64) (missed_at s i)) (row first s i)
    stored = rw (kl, kb, km)

-- the two phases: a heartbeat's first byte is the receiver, a vote's 128 more
pub heartbeat_turn : (s l t : List ℕ) (i b m : ℕ) → l ≡ tabulate 64 (λ q. missed_of s i q) → b ≡ place_at s i → m ≡ missed_at s i
    → t ≡ cond (eqb (b / 64) 0) (set l (b % 64) m) l → t ≡ tabulate 64 (λ q. missed_of s (i + 1) q)
heartbeat_turn s l t i b m = turn (λ q. q) 0 s l t i b m (λ q h. (omega arith, omega arith)) (λ b h. omega arith)

pub vote-turn : (s l t : List ℕ) (i b m : ℕ) → l ≡ tabulate 64 (λ q. missed_of s i (128 + q)) → b ≡ place_at s i → m ≡ missed_at s i
    → t ≡ cond (eqb (b / 64) 2) (set l (b % 64) m) l → t ≡ tabulate 64 (λ q. missed_of s (i + 1) (128 + q))
vote-turn s l t i b m = turn (λ q. 128 + q) 2 s l t i b m (λ q h. (omega arith, omega arith)) (λ b h. omega arith)

-- after the last entry they are those of the fault record
pub missed_end : (s : List ℕ) (i : ℕ) (h v : List ℕ) → i ≡ entries_at s
    → h ≡ tabulate 64 (λ q. missed_of s i q) → v ≡ tabulate 64 (λ q. missed_of s i (128 + q))
    → (h ≡ (faults_at s).heartbeat_missed) × (v ≡ (faults_at s).vote_missed)
unfolding faults_at
missed_end s i h v same kh kv =
    (kh ∙ ap (λ (x : ℕ). tabulate 64 (λ q. missed_of s x q)) same, kv ∙ ap (λ (x : ℕ). tabulate 64 (λ q. missed_of s x (128 + q))) same)

-- and with the four masks it is that record
pub faults_are : (s : List ℕ) (m : Marks) (h v : List ℕ) → m ≡ marks_at s → h ≡ (faults_at s).heartbeat_missed → v ≡ (faults_at s).vote_missed
    → record { stop = m.stop; start = m.start; heartbeat_lost = m.heartbeat_lost; vote_lost = m.vote_lost; heartbeat_missed = h; vote_missed = v } ≡ faults_at s
faults_are s m h v km kh kv =
    λ i. record {
      stop = (km i).stop;
      start = (km i).start;
      heartbeat_lost = (km i).heartbeat_lost;
      vote_lost = (km i).vote_lost;
      heartbeat_missed = kh i;
      vote_missed = kv i;
    }

-- without entries nobody misses anything
pub none_missed : (s : List ℕ) → entries_at s ≡ 0 → ((faults_at s).heartbeat_missed ≡ replicate 64 0) × ((faults_at s).vote_missed ≡ replicate 64 0)
unfolding faults_at missed_of tabulate
none_missed s z = (ap (λ (i : ℕ). tabulate 64 (λ q. missed_of s i q)) z, ap (λ (i : ℕ). tabulate 64 (λ q. missed_of s i (128 + q))) z)
