-- A test of the votes that arrived, where one slot answers for all with its vote. Assumes nothing.
use mathlib.Core.Path.{◌≡◌, refl, sym, ap, ap₂, ◌∙◌}
use mathlib.Core.Bool.{Bool, true, false, not, ◌&&◌, ◌||◌, cond}
use mathlib.Core.List.{List}
use mathlib.Core.Option.{Option, none, some}
use Prim.Native.Nat.{ℕ, ◌<◌}
use lib.Dec.{ltb}
use Rattle.sets.specs.Sets.{has, ◌∪◌, ◌∩◌, ◌∖◌, those, below}
use Rattle.sets.proofs.Booleans.{and_l, and_r, ltb-true, ltb-lt}
use Rattle.sets.proofs.Membership.{has_inter, has_union, has_diff, has-none, set_ext}
use Rattle.sets.proofs.Dropping.{drop_less}
use Rattle.sets.proofs.Nodes.{has-those, has-below, in_those}
use Rattle.rules.specs.declared.Vote.{Vote}
use Rattle.rules.specs.OneCycle.{is}
use Rattle.rules.specs.Ballots.{vote_at, ballots_of}
use Rattle.rules.proofs.Votes.{is_self}
use Rattle.rules.proofs.Slots.{slot-full, slot-empty}
use Rattle.cluster_tallies.specs.Grouped.{Grouped, Within, spread_at}
use Rattle.cluster_tallies.proofs.Tallies.{cast-it}

module _ (numbers sets bases views : List ℕ) (n present : ℕ) (holds : Option Vote → Bool) where
  abbrev pub answers : ℕ → Bool
  answers j = holds (ballots_of numbers sets bases views present j)

  -- m has the slots that hold, of all but those still to be looked at
  pub record Looked (left m : ℕ) : Type 0 where
    pub within : (j : ℕ) → has j left ≡ true → (j < n) × (has j present ≡ true)
    pub found : m ≡ those n (λ j. not (has j left) && answers j)

  pub looked-none : (left : ℕ) → left ≡ below n present → holds none ≡ false → Looked left 0
  looked-none left e empty =
      record {
        within = λ j h. let w = sym (at j) ∙ h in (ltb-lt (and_l (ltb j n) (has j present) w), and_r (ltb j n) (has j present) w);
        found = set_ext (λ x. has-none x ∙ sym (has-those x n (λ j. not (has j left) && answers j) ∙ ap (λ (y : Bool). ltb x n && (not y && answers x)) (at x) ∙ go x (ltb x n) (has x present) refl));
      }
    where
      at : (j : ℕ) → has j left ≡ (ltb j n && has j present)
      at j = ap (has j) e ∙ has-below j n present

      go : (x : ℕ) (a c : Bool) → has x present ≡ c → (a && (not (a && c) && answers x)) ≡ false
      go x true true h = refl
      go x true false h = ap holds (slot-empty numbers sets bases views present x h) ∙ empty
      go x false c h = refl

  pub looked-end : (left m : ℕ) → Looked left m → left ≡ 0 → m ≡ those n answers
  looked-end left m s z =
      s.found
      ∙ set_ext (λ x.
      has-those x n (λ j. not (has j left) && answers j) ∙ ap (λ (y : Bool). ltb x n && (not y && answers x)) (ap (has x) z ∙ has-none x)
      ∙ sym (has-those x n answers))

-- ---- the next slot p, and all with its vote

module _ (numbers sets bases views : List ℕ) (n voting present : ℕ) (inside : Within present voting) (lead : ℕ) (same : List ℕ) (grouped : Grouped numbers sets bases views n voting lead same) where
  module _ (p votes : ℕ) (l : p < n) (h : has p present ≡ true) (o : votes ≡ spread_at lead same p) where
    votes-own : has p votes ≡ true
    votes-own =
        ap (has p) (o ∙ grouped p l (inside p h))
        ∙ in_those p n (λ x. is (vote_at numbers sets bases views p) (ballots_of numbers sets bases views voting x)) l (is_self (vote_at numbers sets bases views p) (ballots_of numbers sets bases views voting p) (slot-full numbers sets bases views voting p (inside p h)))

    -- whoever is among those with the vote of p cast what p did
    alike-slots : (j : ℕ) → has j votes ≡ true → has j present ≡ true → ballots_of numbers sets bases views present j ≡ ballots_of numbers sets bases views present p
    alike-slots j i k =
        slot-full numbers sets bases views present j k ∙ ap {B = Option Vote} some (cast-it numbers sets bases views n voting lead same grouped p j l (inside p h) (ap (has j) (sym o) ∙ i)).1
        ∙ sym (slot-full numbers sets bases views present p h)

  module _ (holds : Option Vote → Bool) (left p votes m : ℕ) (s : Looked numbers sets bases views n present holds left m) (l : p < n) (h : has p left ≡ true) (o : votes ≡ spread_at lead same p) (L : ℕ) (k : L ≡ left ∖ votes) where
    pub looked-less : L < left
    looked-less = drop_less p left votes L h (votes-own p votes l (s.within p h).1 o) k

    pub looked-next : (M : ℕ) (r : Bool) → r ≡ answers numbers sets bases views n present holds p → M ≡ m ∪ cond r (left ∩ votes) 0 → Looked numbers sets bases views n present holds L M
    looked-next M r e f =
        record {
          within = λ j i. s.within j (and_l (has j left) (not (has j votes)) (sym (rest j) ∙ i));
          found = set_ext (λ x.
              ap (has x) f ∙ has_union x m (cond r (left ∩ votes) 0) ∙ ap₂ (λ (y z : Bool). y || z) (ap (has x) s.found ∙ has-those x n (λ j. not (has j left) && yes j)) (taken x r)
              ∙ go x (has x left) (has x votes) refl refl
              ∙ sym (has-those x n (λ j. not (has j L) && yes j) ∙ ap (λ (y : Bool). ltb x n && (not y && yes x)) (rest x)));
        }
      where
        yes : ℕ → Bool
        yes j = holds (ballots_of numbers sets bases views present j)

        rest : (j : ℕ) → has j L ≡ (has j left && not (has j votes))
        rest j = ap (has j) k ∙ has_diff j left votes

        taken : (x : ℕ) (b : Bool) → has x (cond b (left ∩ votes) 0) ≡ (b && (has x left && has x votes))
        taken x true = has_inter x left votes
        taken x false = has-none x

        nothing : (b : Bool) → (b && false) ≡ false
        nothing true = refl
        nothing false = refl

        or_nothing : (y b : Bool) → (y || (b && false)) ≡ y
        or_nothing true b = refl
        or_nothing false b = nothing b

        and_yes : (b : Bool) → (b && true) ≡ b
        and_yes true = refl
        and_yes false = refl

        go : (x : ℕ) (a c : Bool) → has x left ≡ a → has x votes ≡ c → ((ltb x n && (not a && yes x)) || (r && (a && c))) ≡ (ltb x n && (not (a && not c) && yes x))
        go x false c i j = or_nothing (ltb x n && yes x) r
        go x true false i j = or_nothing (ltb x n && false) r
        go x true true i j =
            ap (λ (y : Bool). y || (r && true)) (nothing (ltb x n)) ∙ and_yes r ∙ e ∙ sym (ap holds (alike-slots p votes l (s.within p h).1 o x j (s.within x i).1))
            ∙ ap (λ (y : Bool). y && yes x) (sym (ltb-true (s.within x i).0))
