-- The loop over the senders: a mask and arrays that hold the votes received of the first p nodes. Assumes nothing.
use mathlib.Core.Path.{◌≡◌, refl, sym, ap, ◌∙◌}
use mathlib.Core.Bool.{Bool, true, false, ◌&&◌, cond}
use mathlib.Core.List.{List}
use mathlib.Core.Option.{Option, none, some}
use Prim.Native.Nat.{ℕ, ◌+◌, ◌<◌}
use native.Mathlib.Omega.{arith}
use borrow.Author.Count.{below_none, below_more}
use lib.Dec.{ltb}
use lib.ListN.{length, get_or, set, length-set}
use Rattle.std.specs.Prelude as std
use Rattle.std.specs.Prelude.{Some, None, is_some}
use Rattle.sets.specs.Sets.{has, single, ◌∪◌, those}
use Rattle.sets.proofs.Booleans.{ltb-lt}
use Rattle.sets.proofs.Nodes.{has-those, those-none, those-next}
use Rattle.rules.specs.declared.Vote.{Vote}
use Rattle.rules.specs.Ballots.{vote_at, with_group, ballots_of}
use Rattle.rules.proofs.Arrays.{stored}
use Rattle.bus_units.specs.Units.{received}
use Rattle.bus_channels.specs.Channels.{vote_read, ballots_read}
use Rattle.bus_votes.specs.declared.Arrived.{Arrived}

-- y is a part of the vote that was received, if one was
abbrev pub Holds : (ℕ → std.Option Vote) → (Vote → ℕ) → ℕ → ℕ → Type 0
Holds R part j y = (v : Vote) → R j ≡ Some v → y ≡ part v

pub record Filled (R : ℕ → std.Option Vote) (p : ℕ) (a : Arrived) : Type 0 where
  pub counted : a.present ≡ those p (λ j. is_some (R j))
  pub long_numbers : length a.groups.numbers ≡ 64
  pub long_sets : length a.groups.sets ≡ 64
  pub long_bases : length a.groups.bases ≡ 64
  pub long_views : length a.views ≡ 64
  pub number : (j : ℕ) → j < p → Holds R (λ v. v.group.number) j (get_or a.groups.numbers j 0)
  pub set : (j : ℕ) → j < p → Holds R (λ v. v.group.set) j (get_or a.groups.sets j 0)
  pub base : (j : ℕ) → j < p → Holds R (λ v. v.group.base) j (get_or a.groups.bases j 0)
  pub view : (j : ℕ) → j < p → Holds R (λ v. v.view) j (get_or a.views j 0)

module _ (R : ℕ → std.Option Vote) (a : Arrived) where
  pub filled_none : a.present ≡ 0 → length a.groups.numbers ≡ 64 → length a.groups.sets ≡ 64 → length a.groups.bases ≡ 64 → length a.views ≡ 64 → Filled R 0 a
  filled_none e n s b v =
      record {
        counted = e ∙ those-none (λ j. is_some (R j));
        long_numbers = n;
        long_sets = s;
        long_bases = b;
        long_views = v;
        number = below_none _;
        set = below_none _;
        base = below_none _;
        view = below_none _;
      }

  module _ (p : ℕ) (h : Filled R p a) where
    -- no vote came of node p
    pub filled_skip : R p ≡ None → Filled R (p + 1) a
    filled_skip e =
        record {
          counted = those-next p (λ j. is_some (R j)) a.present a.present false h.counted (sym (ap is_some e)) refl;
          long_numbers = h.long_numbers;
          long_sets = h.long_sets;
          long_bases = h.long_bases;
          long_views = h.long_views;
          number = below_more _ p h.number (missed (λ v. v.group.number) _);
          set = below_more _ p h.set (missed (λ v. v.group.set) _);
          base = below_more _ p h.base (missed (λ v. v.group.base) _);
          view = below_more _ p h.view (missed (λ v. v.view) _);
        }
      where
        missed : (part : Vote → ℕ) (y : ℕ) → Holds R part p y
        missed part y v f = let z : None ≡ Some v = sym e ∙ f in cc

    -- the vote v came of it
    pub filled_next : (v : Vote) → p < 64 → R p ≡ Some v → Filled R (p + 1) (record { present = single p ∪ a.present; groups = with_group a.groups p v.group; views = set a.views p v.view })
    filled_next v l e =
        record {
          counted = those-next p (λ j. is_some (R j)) a.present _ true h.counted (sym (ap is_some e)) refl;
          long_numbers = simp length-set h.long_numbers;
          long_sets = simp length-set h.long_sets;
          long_bases = simp length-set h.long_bases;
          long_views = simp length-set h.long_views;
          number = stored (Holds R (λ v. v.group.number)) a.groups.numbers p v.group.number (let s = h.long_numbers in omega arith) h.number (came (λ v. v.group.number));
          set = stored (Holds R (λ v. v.group.set)) a.groups.sets p v.group.set (let s = h.long_sets in omega arith) h.set (came (λ v. v.group.set));
          base = stored (Holds R (λ v. v.group.base)) a.groups.bases p v.group.base (let s = h.long_bases in omega arith) h.base (came (λ v. v.group.base));
          view = stored (Holds R (λ v. v.view)) a.views p v.view (let s = h.long_views in omega arith) h.view (came (λ v. v.view));
        }
      where
        came : (part : Vote → ℕ) → Holds R part p (part v)
        came part w f = let z : Some v ≡ Some w = sym e ∙ f in let same : v ≡ w = cc in ap part same

-- all slots filled: the ballots that the rules read in the arrays are what was received
pub filled_ballots : (n count reach : ℕ) (a b : List ℕ) (k : ℕ) (t : Arrived)
    → Filled (vote_read n count reach a b) k t → k ≡ n → ballots_of t.groups.numbers t.groups.sets t.groups.bases t.views t.present ≡ ballots_read n count reach a b
unfolding ballots_of ballots_read
filled_ballots n count reach a b k t h z = λ i p. each p i
  where
    R : ℕ → std.Option Vote
    R = vote_read n count reach a b

    held : ℕ → Vote
    held = vote_at t.groups.numbers t.groups.sets t.groups.bases t.views

    vote : (p : ℕ) (v : Vote) → p < n → R p ≡ Some v → held p ≡ v
    vote p v l e =
        let m : p < k = omega arith in
        λ i. record { group = record { number = h.number p m v e i; set = h.set p m v e i; base = h.base p m v e i }; view = h.view p m v e i }

    slot : (p : ℕ) (r : std.Option Vote) → p < n → R p ≡ r → cond (is_some r) (some (held p)) none ≡ received r
    slot p None l e = refl
    slot p (Some v) l e = ap some (vote p v l e)

    go : (p : ℕ) (t : Bool) → ltb p n ≡ t → cond (t && is_some (R p)) (some (held p)) none ≡ cond t (received (R p)) none
    go p true l = slot p (R p) (ltb-lt l) refl
    go p false l = refl

    each : (p : ℕ) → ◌≡◌ {A = Option Vote} (cond (has p t.present) (some (held p)) none) (cond (ltb p n) (received (R p)) none)
    each p =
        ap (λ (x : Bool). cond x (some (held p)) none) (ap (has p) (h.counted ∙ ap (λ (x : ℕ). those x (λ j. is_some (R j))) z) ∙ has-those p n (λ j. is_some (R j)))
        ∙ go p (ltb p n) refl
