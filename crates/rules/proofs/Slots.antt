-- Votes in slots: what each slot holds, and the voters of a vote, of those that cast it. Assumes nothing.
use mathlib.Core.Path.{◌≡◌, refl, sym, ap, ap₂, ◌∙◌}
use mathlib.Core.Bool.{Bool, true, false, not, ◌&&◌, ◌||◌, cond, false≢true}
use mathlib.Core.List.{List}
use mathlib.Core.Option.{Option, none, some}
use Prim.Native.Nat.{ℕ}
use lib.Dec.{eqb, ltb}
use lib.ListN.{get_or}
use Rattle.sets.specs.Sets.{has, single, ◌∪◌, ◌∩◌, ◌∖◌, those}
use Rattle.sets.proofs.Booleans.{and_l, eqb-true}
use Rattle.sets.proofs.Membership.{has-none, has_union, has_inter, has_diff, has-single, set_ext}
use Rattle.sets.proofs.Nodes.{has-those}
use Rattle.state.specs.declared.Group.{Group}
use Rattle.rules.specs.declared.Vote.{Vote}
use Rattle.rules.specs.OneCycle.{Ballots, same_group, same_vote, is, voters, with_own, without}
use Rattle.rules.specs.Ballots.{group_at, vote_at, ballots_of, OneVote}

-- the voters of a vote are those in its set that cast it
pub equal_voters : (n m : ℕ) (b : Ballots) (v : Vote) → m ≡ those n (λ x. is v (b x)) → m ∩ v.group.set ≡ voters n b v
unfolding voters
equal_voters n m b v e = set_ext (λ x.
    has_inter x m M ∙ ap (λ (y : Bool). y && has x M) (ap (has x) e ∙ has-those x n (λ y. is v (b y))) ∙ swap (ltb x n) (is v (b x)) (has x M)
    ∙ sym (has-those x n (λ y. has y M && is v (b y))))
  where
    M : ℕ
    M = v.group.set

    swap : (a c d : Bool) → ((a && c) && d) ≡ (a && (d && c))
    swap true true true = refl
    swap true true false = refl
    swap true false true = refl
    swap true false false = refl
    swap false c d = refl

module _ (numbers sets bases views : List ℕ) where
  pub slot-full : (present p : ℕ) → has p present ≡ true → ballots_of numbers sets bases views present p ≡ some (vote_at numbers sets bases views p)
  unfolding ballots_of
  slot-full present p h = rw h

  pub slot-empty : (present p : ℕ) → has p present ≡ false → ballots_of numbers sets bases views present p ≡ none
  unfolding ballots_of
  slot-empty present p h = rw h

  -- a slot taken out of the mask holds nothing
  pub slots-without : (present q : ℕ) → ballots_of numbers sets bases views (present ∖ single q) ≡ without q (ballots_of numbers sets bases views present)
  unfolding ballots_of
  slots-without present q = λ i p. each p i
    where
      go : (a e : Bool) (v : Vote) → ◌≡◌ {A = Option Vote} (cond (a && not e) (some v) none) (cond e none (cond a (some v) none))
      go true true v = refl
      go true false v = refl
      go false true v = refl
      go false false v = refl

      each : (p : ℕ)
          → ◌≡◌ {A = Option Vote} (cond (has p (present ∖ single q)) (some (vote_at numbers sets bases views p)) none)
          (cond (eqb p q) none (cond (has p present) (some (vote_at numbers sets bases views p)) none))
      each p =
          ap (λ (x : Bool). cond x (some (vote_at numbers sets bases views p)) none) (has_diff p present (single q) ∙ ap (λ (x : Bool). has p present && not x) (has-single p q))
          ∙ go (has p present) (eqb p q) (vote_at numbers sets bases views p)

  -- a slot put into the mask holds its vote
  pub slots_with : (present q : ℕ) → ballots_of numbers sets bases views (present ∪ single q) ≡ with_own q (vote_at numbers sets bases views q) (ballots_of numbers sets bases views present)
  unfolding ballots_of
  slots_with present q = λ i p. each p i
    where
      vote : ℕ → Option Vote
      vote x = some (vote_at numbers sets bases views x)

      go : (p : ℕ) (a e : Bool) → eqb p q ≡ e → cond (a || e) (vote p) none ≡ cond e (vote q) (cond a (vote p) none)
      go p true true k = ap vote (eqb-true k)
      go p true false k = refl
      go p false true k = ap vote (eqb-true k)
      go p false false k = refl

      each : (p : ℕ) → cond (has p (present ∪ single q)) (vote p) none ≡ cond (eqb p q) (vote q) (cond (has p present) (vote p) none)
      each p =
          ap (λ (x : Bool). cond x (vote p) none) (has_union p present (single q) ∙ ap (λ (x : Bool). has p present || x) (has-single p q))
          ∙ go p (has p present) (eqb p q) refl

  -- a vote is equal if its group and its view are
  is-slot : (present p : ℕ) (v : Vote)
      → is v (ballots_of numbers sets bases views present p) ≡ (has p present && (same_group v.group (group_at numbers sets bases p) && eqb v.view (get_or views p 0)))
  unfolding ballots_of same_vote
  is-slot present p v = go (has p present)
    where
      go : (a : Bool) → is v (cond a (some (vote_at numbers sets bases views p)) none) ≡ (a && (same_group v.group (group_at numbers sets bases p) && eqb v.view (get_or views p 0)))
      go true = refl
      go false = refl

  -- the same from the tests r, that the slot holds a vote, and s, that its group h is equal
  pub is-slot-test : (present p : ℕ) (v : Vote) (h : Group) (r s : Bool) → r ≡ has p present → h ≡ group_at numbers sets bases p → s ≡ same_group v.group h
      → is v (ballots_of numbers sets bases views present p) ≡ (r && (s && eqb v.view (get_or views p 0)))
  is-slot-test present p v h r s e k f =
      is-slot present p v ∙ ap₂ (λ (x y : Bool). x && (y && eqb v.view (get_or views p 0))) (sym e) (sym (f ∙ ap (same_group v.group) k))

-- ---- slots that hold one and the same vote

-- no slots at all
pub one_none : (numbers sets bases views : List ℕ) (n present : ℕ) → OneVote numbers sets bases views n present 0
one_none numbers sets bases views n present p x lp lx hp hx h = absurd (false≢true (sym (has-none p) ∙ h))

-- fewer slots
pub one_less : (numbers sets bases views : List ℕ) (n present lead a d : ℕ) → d ≡ present ∖ a → OneVote numbers sets bases views n present lead → OneVote numbers sets bases views n d lead
one_less numbers sets bases views n present lead a d e one p x lp lx hp hx = one p x lp lx (part p hp) (part x hx)
  where
    part : (y : ℕ) → has y d ≡ true → has y present ≡ true
    part y h = and_l (has y present) (not (has y a)) (sym (has_diff y present a) ∙ ap (has y) (sym e) ∙ h)

-- ---- groups and votes compared as the code does, field by field

pub group-derived : (g h : Group) → (eqb g.number h.number && (eqb g.set h.set && eqb g.base h.base)) ≡ same_group g h
unfolding same_group
group-derived g h = go (eqb g.number h.number) (eqb g.set h.set) (eqb g.base h.base)
  where
    go : (a b d : Bool) → (a && (b && d)) ≡ ((a && b) && d)
    go true b d = refl
    go false b d = refl

pub vote-derived : (v w : Vote) (r : Bool) → r ≡ ((eqb v.group.number w.group.number && (eqb v.group.set w.group.set && eqb v.group.base w.group.base)) && eqb v.view w.view) → r ≡ same_vote v w
unfolding same_vote
vote-derived v w r e = e ∙ ap (λ (x : Bool). x && eqb v.view w.view) (group-derived v.group w.group)
