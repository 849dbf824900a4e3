-- The votes of the buffer, and the arrays that they are read into. Assumes nothing.
use mathlib.Core.Path.{◌≡◌, refl, sym, ap, ap₂, ◌∙◌}
use mathlib.Core.Logic.{◌⊎◌, inl, inr}
use mathlib.Core.Bool.{Bool, true, false, not, ◌&&◌, cond, and-true, and-false}
use mathlib.Core.List.{List}
use mathlib.Core.Option.{Option, none, some}
use Prim.Native.Nat.{ℕ, ◌+◌, ◌<◌}
use native.Mathlib.Omega.{arith}
use lib.Dec.{eqb, ltb}
use lib.ListN.{length, set}
use lib.Seq.{get_or-set_same, get_or-set_other}
use borrow.Author.Tests.{eqb-true, eqb-false}
use Rattle.sets.specs.Sets.{has}
use Rattle.sets.proofs.Booleans.{bool, and_l, and_r}
use Rattle.sets.proofs.Nodes.{has-those, those_in, of_those}
use Rattle.rules.specs.declared.Vote.{Vote}
use Rattle.rules.specs.OneCycle.{same_vote, is, without}
use Rattle.rules.specs.Ballots.{vote_at, ballots_of}
use Rattle.rules.proofs.States.{none-some}
use Rattle.frames.specs.Written.{formed_vote}
use Rattle.entry_slots.specs.Slots.{slot_vote, vote_if, counted_vote, arrived_in, buffer_ballots}

-- whether the vote v of p counts as arrived at q
abbrev pub counts : ℕ → ℕ → ℕ → ℕ → Vote → Bool
counts n q arrived p v = not (eqb p q) && has p arrived && formed_vote n p v

-- arrays that hold the votes f up to p, and one vote more
module _ (numbers sets bases views : List ℕ) (p : ℕ) where
  -- the vote in slot i once v is stored in slot p
  abbrev after : Vote → ℕ → Vote
  after v = vote_at (set numbers p v.group.number) (set sets p v.group.set) (set bases p v.group.base) (set views p v.view)

  pub filled : (f : ℕ → Vote) (v : Vote) → p < 64 → length numbers ≡ 64 → length sets ≡ 64 → length bases ≡ 64 → length views ≡ 64 → v ≡ f p
      → ((i : ℕ) → i < p → vote_at numbers sets bases views i ≡ f i)
      → (i : ℕ) → i < p + 1 → after v i ≡ f i
  filled f v l lG lM lB lV e h i k = go (bool (eqb i p))
    where
      room : (a : List ℕ) → length a ≡ 64 → p < length a
      room a s = omega arith

      here : after v p ≡ v
      here = λ j. record {
        group = record {
          number = get_or-set_same numbers p v.group.number 0 (room numbers lG) j;
          set = get_or-set_same sets p v.group.set 0 (room sets lM) j;
          base = get_or-set_same bases p v.group.base 0 (room bases lB) j;
        };
        view = get_or-set_same views p v.view 0 (room views lV) j;
      }

      there : (i ≡ p → ⊥) → after v i ≡ vote_at numbers sets bases views i
      there o = λ j. record {
        group = record {
          number = get_or-set_other numbers p i v.group.number 0 o j;
          set = get_or-set_other sets p i v.group.set 0 o j;
          base = get_or-set_other bases p i v.group.base 0 o j;
        };
        view = get_or-set_other views p i v.view 0 o j;
      }

      go : (eqb i p ≡ true) ⊎ (eqb i p ≡ false) → after v i ≡ f i
      go (inl s) = let same : i ≡ p = eqb-true i p s in ap (after v) same ∙ here ∙ e ∙ ap f (sym same)
      go (inr s) =
          let other : i ≡ p → ⊥ = eqb-false i p s in
          let less : i < p = omega arith in
          there other ∙ h i less

-- the ballots that the rules read in the arrays are those of the buffer
module _ (n q : ℕ) (votes : List ℕ) (arrived : ℕ) where
  pub same-ballots : (numbers sets bases views : List ℕ) (present : ℕ) → present ≡ arrived_in n q votes arrived
      → ((p : ℕ) → p < n → vote_at numbers sets bases views p ≡ counted_vote n q votes arrived p)
      → ballots_of numbers sets bases views present ≡ buffer_ballots n q votes arrived
  unfolding ballots_of buffer_ballots arrived_in counted_vote
  same-ballots numbers sets bases views present e slot = λ i p. each p i
    where
      go : (p : ℕ) (b : Bool) → has p (arrived_in n q votes arrived) ≡ b
          → ◌≡◌ {A = Option Vote} (cond b (some (vote_at numbers sets bases views p)) none) (cond b (some (slot_vote votes p)) none)
      go p true k =
          let w = of_those p n (λ x. counts n q arrived x (slot_vote votes x)) k in
          ap some (slot p w.0 ∙ ap (λ (b : Bool). vote_if b (slot_vote votes p)) w.1)
      go p false k = refl

      each : (p : ℕ)
          → ◌≡◌ {A = Option Vote} (cond (has p present) (some (vote_at numbers sets bases views p)) none)
          (cond (has p (arrived_in n q votes arrived)) (some (slot_vote votes p)) none)
      each p = ap (λ (m : ℕ). cond (has p m) (some (vote_at numbers sets bases views p)) none) e ∙ go p (has p (arrived_in n q votes arrived)) refl

  -- what is read of slot p
  pub counted-vote : (p : ℕ) (v w : Vote) (b : Bool) → w ≡ slot_vote votes p → b ≡ counts n q arrived p w → v ≡ vote_if b w → v ≡ counted_vote n q votes arrived p
  unfolding counted_vote
  counted-vote p v w b ew eb ev = ev ∙ ap₂ vote_if (eb ∙ ap (counts n q arrived p) ew) ew

  -- a slot whose bit is not set holds no vote
  pub slot-unset : (p : ℕ) (v : Vote) → has p arrived ≡ false → is v (buffer_ballots n q votes arrived p) ≡ false
  unfolding buffer_ballots arrived_in
  slot-unset p v f = ap (λ (x : Bool). is v (cond x (some (slot_vote votes p)) none))
      (has-those p n (λ x. counts n q arrived x (slot_vote votes x))
      ∙ ap (λ (x : Bool). ltb p n && (not (eqb p q) && x && formed_vote n p (slot_vote votes p))) f
      ∙ ap (λ (x : Bool). ltb p n && (x && formed_vote n p (slot_vote votes p))) (and-false (not (eqb p q)))
      ∙ and-false (ltb p n))

  -- whether the vote w of slot p is v, and counts
  pub slot_is : (p : ℕ) (v w : Vote) (same there : Bool) → p < n → w ≡ slot_vote votes p → same ≡ same_vote v w → there ≡ counts n q arrived p w
      → is v (buffer_ballots n q votes arrived p) ≡ (same && there)
  unfolding buffer_ballots arrived_in
  slot_is p v w same there l ew es et =
      ap (λ (x : Bool). is v (cond x (some (slot_vote votes p)) none)) (those_in p n (λ x. counts n q arrived x (slot_vote votes x)) l ∙ ap (counts n q arrived p) (sym ew) ∙ sym et) ∙ go there
    where
      go : (b : Bool) → is v (cond b (some (slot_vote votes p)) none) ≡ (same && b)
      go true = ap (same_vote v) (sym ew) ∙ sym es ∙ sym (and-true same)
      go false = sym (and-false same)

  -- a vote that counts came with its bit, and the own slot holds none
  pub slot-came : (p : ℕ) (v : Vote) → buffer_ballots n q votes arrived p ≡ some v → has p arrived ≡ true
  unfolding buffer_ballots arrived_in
  slot-came p v = go (has p (arrived_in n q votes arrived)) refl
    where
      go : (b : Bool) → has p (arrived_in n q votes arrived) ≡ b → ◌≡◌ {A = Option Vote} (cond b (some (slot_vote votes p)) none) (some v) → has p arrived ≡ true
      go true h e =
          let w = (of_those p n (λ x. counts n q arrived x (slot_vote votes x)) h).1 in
          and_r (not (eqb p q)) (has p arrived) (and_l (not (eqb p q) && has p arrived) (formed_vote n p (slot_vote votes p)) w)
      go false h e = absurd (none-some e)

  pub own-empty : without q (buffer_ballots n q votes arrived) ≡ buffer_ballots n q votes arrived
  unfolding buffer_ballots arrived_in
  own-empty = λ i p. each p (eqb p q) refl i
    where
      each : (p : ℕ) (e : Bool) → eqb p q ≡ e → cond e none (buffer_ballots n q votes arrived p) ≡ buffer_ballots n q votes arrived p
      each p true e =
          sym (ap (λ (x : Bool). cond x (some (slot_vote votes p)) none)
          (has-those p n (λ x. counts n q arrived x (slot_vote votes x)) ∙ ap (λ (x : Bool). ltb p n && (not x && has p arrived && formed_vote n p (slot_vote votes p))) e ∙ and-false (ltb p n)))
      each p false e = refl
