-- The vote buffer: what is stored in a slot is read from it, and other slots stay. Assumes nothing.
use mathlib.Core.Path.{◌≡◌, refl, sym, ap, ap₂, ◌∙◌, subst}
use mathlib.Core.Logic.{◌⊎◌, inl, inr}
use mathlib.Core.Bool.{true, false, ◌&&◌}
use mathlib.Core.List.{List, ◌++◌, append_assoc}
use Prim.Native.Nat.{ℕ, zero, suc, ◌+◌, ◌*◌, ◌^◌, ◌≤◌, ◌<◌}
use native.Mathlib.Omega.{arith}
use lib.Dec.{eqb, ltb}
use lib.ListN.{length, take, drop, get_or, length-append}
use lib.Seq.{length-take-le}
use Rattle.parts.specs.Parts.{with_part}
use Rattle.parts.proofs.Laws.{part_length, part-outside}
use Rattle.sets.specs.Sets.{has, subset, below}
use Rattle.sets.proofs.Booleans.{bool, and_i, ltb-lt, ltb-le}
use Rattle.sets.proofs.Membership.{subset_of}
use Rattle.bigendian.specs.BigEndian.{bytes_of, number_at}
use Rattle.bigendian.proofs.Laws.{length_bytes, number_at_lem}
use Rattle.state.specs.State.{formed_sets}
use Rattle.state.proofs.RoundTrip.{sets_fit}
use Rattle.rules.specs.declared.Vote.{Vote}
use Rattle.frames.specs.Written.{vote_payload, formed_vote}
use Rattle.frames.proofs.Faults.{all_five}
use Rattle.entry_slots.specs.Slots.{slot_vote, with_slot}

-- ---- four numbers in a row between h and t, each read at its place
module _ (h t : List ℕ) (i a b c d : ℕ) (l : length h ≡ i) where
  abbrev held : List ℕ
  held = h ++ ((bytes_of 4 a ++ (bytes_of 8 b ++ (bytes_of 8 c ++ bytes_of 8 d))) ++ t)

  at-0 : a < 2 ^ 32 → number_at held i 4 ≡ a
  at-0 f = simp append_assoc (number_at_lem h _ i 4 a l f)

  at-4 : b < 2 ^ 64 → number_at held (i + 4) 8 ≡ b
  at-4 f =
      let p = h ++ bytes_of 4 a in
      let e : held ≡ p ++ (bytes_of 8 b ++ (bytes_of 8 c ++ (bytes_of 8 d ++ t))) = simp append_assoc in
      ap (λ (s : List ℕ). number_at s (i + 4) 8) e ∙ number_at_lem p _ (i + 4) 8 b (simp (length-append, length_bytes, l)) f

  at-12 : c < 2 ^ 64 → number_at held (i + 12) 8 ≡ c
  at-12 f =
      let p = h ++ (bytes_of 4 a ++ bytes_of 8 b) in
      let e : held ≡ p ++ (bytes_of 8 c ++ (bytes_of 8 d ++ t)) = simp append_assoc in
      ap (λ (s : List ℕ). number_at s (i + 12) 8) e ∙ number_at_lem p _ (i + 12) 8 c (simp (length-append, length_bytes, l)) f

  at-20 : d < 2 ^ 64 → number_at held (i + 20) 8 ≡ d
  at-20 f =
      let p = h ++ (bytes_of 4 a ++ (bytes_of 8 b ++ bytes_of 8 c)) in
      let e : held ≡ p ++ (bytes_of 8 d ++ t) = simp append_assoc in
      ap (λ (s : List ℕ). number_at s (i + 20) 8) e ∙ number_at_lem p _ (i + 20) 8 d (simp (length-append, length_bytes, l)) f

-- the sets of a vote that is formed fit eight bytes
vote-fits : (n q : ℕ) (v : Vote) → n ≤ 64 → formed_vote n q v ≡ true → (v.group.set < 2 ^ 64) × (v.group.base < 2 ^ 64) × (v.view < 2 ^ 64)
unfolding formed_vote formed_sets
vote-fits n q v l e =
    let M = v.group.set in
    let B = v.group.base in
    let w = v.view in
    let p = all_five (has q M) (has q w) (subset M B) (eqb (below n B) B) (eqb (below n w) w) e in
    let g = sets_fit q n M B l (and_i (has q M && subset M B) (eqb (below n B) B) (and_i (has q M) (subset M B) p.0 p.2) p.3) in
    let s = sets_fit q n w w l (and_i (has q w && subset w w) (eqb (below n w) w) (and_i (has q w) (subset w w) p.1 (subset_of w w (λ x h. h))) p.4) in
    (g.0, g.1, s.0)

pub slot_back : (n p : ℕ) (v : Vote) (s : List ℕ) → n ≤ 64 → 28 * p + 28 ≤ length s → v.group.number < 2 ^ 32 → formed_vote n p v ≡ true
    → slot_vote (with_slot p (vote_payload v) s) p ≡ v
unfolding slot_vote vote_payload with_part
slot_back n p v s few room fg e =
    let g = v.group in
    let z = vote-fits n p v few e in
    let h = take (28 * p) s in
    let t = drop (28 * p + length (bytes_of 4 g.number ++ (bytes_of 8 g.set ++ (bytes_of 8 g.base ++ bytes_of 8 v.view)))) s in
    let l : length h ≡ 28 * p = length-take-le (28 * p) s (omega arith) in
    let eg = at-0 h t (28 * p) g.number g.set g.base v.view l fg in
    let em = at-4 h t (28 * p) g.number g.set g.base v.view l z.0 in
    let eb = at-12 h t (28 * p) g.number g.set g.base v.view l z.1 in
    let ev = at-20 h t (28 * p) g.number g.set g.base v.view l z.2 in
    λ i. record { group = record { number = eg i; set = em i; base = eb i }; view = ev i }

-- ---- other slots

number_ext : (s t : List ℕ) (i k : ℕ) → ((m : ℕ) → m < k → get_or s (i + m) 0 ≡ get_or t (i + m) 0) → number_at s i k ≡ number_at t i k
unfolding number_at
number_ext s t i zero e = refl
number_ext s t i (suc k) e = ap₂ (λ (a b : ℕ). a * 256 + b) (number_ext s t i k (λ m h. e m (omega arith))) (e k (omega arith))

module _ (p : ℕ) (x s : List ℕ) (sized : length x ≡ 28) (room : 28 * p + 28 ≤ length s) where
  pub slot-length : length (with_slot p x s) ≡ length s
  slot-length = part_length (28 * p) x s (omega arith)

  outside : (m : ℕ) → (m < 28 * p) ⊎ (28 * p + 28 ≤ m) → get_or (with_slot p x s) m 0 ≡ get_or s m 0
  outside m h = part-outside (28 * p) x s (omega arith) m (subst (λ (k : ℕ). (m < 28 * p) ⊎ (28 * p + k ≤ m)) (sym sized) h)

  pub slot_kept : (j : ℕ) → (j ≡ p → ⊥) → slot_vote (with_slot p x s) j ≡ slot_vote s j
  unfolding slot_vote
  slot_kept j o = λ i. record {
    group = record {
      number = number_ext (with_slot p x s) s (28 * j) 4 (λ m h. outside (28 * j + m) (side m (omega arith))) i;
      set = number_ext (with_slot p x s) s (28 * j + 4) 8 (λ m h. shift 4 m (omega arith)) i;
      base = number_ext (with_slot p x s) s (28 * j + 12) 8 (λ m h. shift 12 m (omega arith)) i;
    };
    view = number_ext (with_slot p x s) s (28 * j + 20) 8 (λ m h. shift 20 m (omega arith)) i;
  }
    where
      side : (m : ℕ) → m < 28 → (28 * j + m < 28 * p) ⊎ (28 * p + 28 ≤ 28 * j + m)
      side m h = go (bool (ltb j p))
        where
          go : (ltb j p ≡ true) ⊎ (ltb j p ≡ false) → (28 * j + m < 28 * p) ⊎ (28 * p + 28 ≤ 28 * j + m)
          go (inl l) = let k : j < p = ltb-lt l in inl (omega arith)
          go (inr l) = let k : p ≤ j = ltb-le l in inr (omega arith)

      shift : (k m : ℕ) → k + m < 28 → get_or (with_slot p x s) (28 * j + k + m) 0 ≡ get_or s (28 * j + k + m) 0
      shift k m h =
          let e : 28 * j + k + m ≡ 28 * j + (k + m) = omega arith in
          ap (λ (i : ℕ). get_or (with_slot p x s) i 0) e ∙ outside (28 * j + (k + m)) (side (k + m) h) ∙ ap (λ (i : ℕ). get_or s i 0) (sym e)
