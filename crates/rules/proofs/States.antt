-- All that takes a state apart: who is what, rule 1, who votes, what each makes of the votes that it got. Assumes nothing.
use mathlib.Core.Path.{◌≡◌, refl, sym, ap, ◌∙◌}
use mathlib.Core.Logic.{◌⊎◌, inl, inr}
use mathlib.Core.Bool.{Bool, true, false, not, ◌&&◌, ◌||◌, cond, false≢true}
use mathlib.Core.Option.{Option, none, some}
use Prim.Native.Nat.{ℕ}
use native.Mathlib.Omega.{arith}
use lib.Dec.{eqb}
use Rattle.sets.specs.Sets.{has, ◌∩◌}
use Rattle.sets.proofs.Booleans.{bool, eqb_self, eqb-true, not_f, or_f_l, or_f_r}
use Rattle.sets.proofs.Membership.{has_inter, has-none, set_ext}
use Rattle.state.specs.declared.Group.{Group}
use Rattle.state.specs.declared.State.{State}
use Rattle.state.specs.declared.State.TheVariants.{Out, Joining, Member}
use Rattle.state.specs.State.{group_of, halted}
use Rattle.rules.specs.declared.Vote.{Vote}
use Rattle.rules.specs.declared.Faults.{Faults}
use Rattle.rules.specs.declared.Config.{Config}
use Rattle.rules.specs.OneCycle.{Ballots, start_if, stop_and_start, sends_member, sends_join, asks, called, will_vote, member_decides, silent_decides}
use Rattle.rules.specs.Faults.{Row, heard, own_vote, votes_now, vote_of, decides}

-- ---- options

pub none-some {ℓ} : {A : Type ℓ} {x : A} → ◌≡◌ {A = Option A} none (some x) → ⊥
none-some e = let z : ◌≡◌ {A = ℕ} 0 1 = cc in omega arith

pub some_inj {ℓ} : {A : Type ℓ} {x y : A} → ◌≡◌ {A = Option A} (some x) (some y) → x ≡ y
some_inj p = cc

-- ---- what a node is

abbrev pub idle : State → Bool
idle (Out r) = true
idle Joining = false
idle (Member g a) = false

pub which : (s : State) → (idle s ≡ true) ⊎ ((s ≡ Joining) ⊎ ((g : Group) × (group_of s ≡ some g)))
which (Out r) = inl refl
which Joining = inr (inl refl)
which (Member g a) = inr (inr (g, refl))

pub is_joining : (t : State) → sends_join t ≡ true → t ≡ Joining
is_joining (Out z) e = absurd (false≢true e)
is_joining Joining e = refl
is_joining (Member h a) e = absurd (false≢true e)

pub held-sends : (s : State) (g : Group) → group_of s ≡ some g → sends_member s ≡ true
held-sends (Out r) g e = absurd (none-some e)
held-sends Joining g e = absurd (none-some e)
held-sends (Member h a) g e = refl

pub sends-held : (s : State) → sends_member s ≡ true → (g : Group) × (group_of s ≡ some g)
sends-held (Out r) e = absurd (false≢true e)
sends-held Joining e = absurd (false≢true e)
sends-held (Member g a) e = (g, refl)

pub not-halted : (s : State) (g : Group) → group_of s ≡ some g → halted s ≡ true → ⊥
not-halted (Out r) g e f = none-some e
not-halted Joining g e f = none-some e
not-halted (Member h a) g e f = false≢true f

-- ---- rule 1

-- it leaves a member that is not stopped, and a joining node
pub rule1_member : (stop start : Bool) (s : State) (g : Group) → stop ≡ false → group_of s ≡ some g → stop_and_start stop start s ≡ s
unfolding stop_and_start
rule1_member stop start (Out r) g e f = absurd (none-some f)
rule1_member stop start Joining g e f = absurd (none-some f)
rule1_member stop start (Member h a) g e f = rw e (go start)
  where
    go : (b : Bool) → start_if b (Member h a) ≡ Member h a
    go true = refl
    go false = refl

pub rule1_joining : (stop start : Bool) → stop ≡ false → stop_and_start stop start Joining ≡ Joining
unfolding stop_and_start
rule1_joining stop start e = rw e (go start)
  where
    go : (b : Bool) → start_if b Joining ≡ Joining
    go true = refl
    go false = refl

-- a member after rule 1 was the same before
pub rule1_back : (stop start : Bool) (s : State) (g : Group) → group_of (stop_and_start stop start s) ≡ some g → stop_and_start stop start s ≡ s
unfolding stop_and_start
rule1_back true true s g e = absurd (none-some e)
rule1_back true false s g e = absurd (none-some e)
rule1_back false true (Out r) g e = absurd (none-some e)
rule1_back false true Joining g e = absurd (none-some e)
rule1_back false true (Member k a) g e = refl
rule1_back false false s g e = refl

-- ---- who votes, and what each makes of the votes that it got

pub own_group : (N : ℕ) (c : Faults) (r : Row) (q : ℕ) (g : Group) → g ≡ (own_vote N c r q g).group
unfolding own_vote
own_group N c r q g = refl

pub vote-group : (C : Config) (c : Faults) (r : Row) (p : ℕ) (s : State) (v : Vote) → vote_of C c r p s ≡ some v → group_of s ≡ some v.group
vote-group C c r p (Out k) v f = absurd (none-some f)
vote-group C c r p Joining v f = absurd (none-some f)
vote-group C c r p (Member g a) v f = go (votes_now C c r p g a) f
  where
    go : (b : Bool) → cond b (some (own_vote C.nodes c r p g)) none ≡ some v → ◌≡◌ {A = Option Group} (some g) (some v.group)
    go true f = ap {B = Option Group} some (own_group C.nodes c r p g ∙ ap (λ (x : Vote). x.group) (some_inj f))
    go false f = absurd (none-some f)

pub vote-decides : (C : Config) (c : Faults) (r : Row) (p : ℕ) (s : State) (v : Vote) (b : Ballots) → vote_of C c r p s ≡ some v → decides C c r p s b ≡ member_decides C p v b
vote-decides C c r p (Out k) v b f = absurd (none-some f)
vote-decides C c r p Joining v b f = absurd (none-some f)
vote-decides C c r p (Member g a) v b f = go (votes_now C c r p g a) f
  where
    go : (y : Bool) → cond y (some (own_vote C.nodes c r p g)) none ≡ some v
        → cond y (member_decides C p (own_vote C.nodes c r p g) b) (silent_decides C p g b) ≡ member_decides C p v b
    go true f = ap (λ (x : Vote). member_decides C p x b) (some_inj f)
    go false f = absurd (none-some f)

-- a member votes or is silent
pub member-votes : (C : Config) (c : Faults) (r : Row) (p : ℕ) (s : State) (g : Group) → group_of s ≡ some g
    → vote_of C c r p s ≡ cond (votes_now C c r p g (asks s)) (some (own_vote C.nodes c r p g)) none
member-votes C c r p (Out k) g e = absurd (none-some e)
member-votes C c r p Joining g e = absurd (none-some e)
member-votes C c r p (Member h a) g e = ap (λ (x : Group). cond (votes_now C c r p x a) (some (own_vote C.nodes c r p x)) none) (some_inj e)

pub silent_decides_lem : (C : Config) (c : Faults) (r : Row) (p : ℕ) (s : State) (g : Group) (b : Ballots) → group_of s ≡ some g → votes_now C c r p g (asks s) ≡ false
    → decides C c r p s b ≡ silent_decides C p g b
silent_decides_lem C c r p (Out k) g b e f = absurd (none-some e)
silent_decides_lem C c r p Joining g b e f = absurd (none-some e)
silent_decides_lem C c r p (Member h a) g b e f =
    ap (λ (x : Group). decides C c r p (Member x a) b) (some_inj e) ∙ ap (λ (y : Bool). cond y (member_decides C p (own_vote C.nodes c r p g) b) (silent_decides C p g b)) f

-- in a press that votes in every cycle every member votes
pub always_votes : (C : Config) (c : Faults) (r : Row) (p : ℕ) (g : Group) (a : Bool) → C.quiet ≡ false → votes_now C c r p g a ≡ true
unfolding votes_now will_vote
always_votes C c r p g a e = rw e

pub idle_decides : (C : Config) (c : Faults) (r : Row) (p : ℕ) (s : State) (b : Ballots) → idle s ≡ true → group_of (decides C c r p s b) ≡ none
idle_decides C c r p (Out k) b e = refl
idle_decides C c r p Joining b e = absurd (false≢true e)
idle_decides C c r p (Member g a) b e = absurd (false≢true e)

-- a member is silent exactly if the press is quiet, it sees its set, and neither it nor a node of its set that it hears requests
pub record Silent (C : Config) (c : Faults) (r : Row) (q : ℕ) (g : Group) (a : Bool) : Type 0 where
  pub quiet : C.quiet ≡ true
  pub view : (own_vote C.nodes c r q g).view ≡ g.set
  pub own : a ≡ false
  pub others : (x : ℕ) → has x g.set ≡ true → has x (heard C.nodes c r asks q) ≡ false

pub silent_because : (C : Config) (c : Faults) (r : Row) (q : ℕ) (g : Group) (a : Bool) → votes_now C c r q g a ≡ false → Silent C c r q g a
unfolding votes_now will_vote called
silent_because C c r q g a e =
    let A = g.set ∩ heard C.nodes c r asks q in
    let same = eqb (own_vote C.nodes c r q g).view g.set in
    let e2 : (not same || (a || not (eqb A 0))) ≡ false = or_f_r (not C.quiet) (not same || (a || not (eqb A 0))) e in
    let e3 : (a || not (eqb A 0)) ≡ false = or_f_r (not same) (a || not (eqb A 0)) e2 in
    let none_of : A ≡ 0 = eqb-true (not_f (eqb A 0) (or_f_r a (not (eqb A 0)) e3)) in
    record {
      quiet = not_f C.quiet (or_f_l (not C.quiet) (not same || (a || not (eqb A 0))) e);
      view = eqb-true (not_f same (or_f_l (not same) (a || not (eqb A 0)) e2));
      own = or_f_l a (not (eqb A 0)) e3;
      others = λ x m.
          sym (ap (λ (b : Bool). b && has x (heard C.nodes c r asks q)) m)
          ∙ sym (has_inter x g.set (heard C.nodes c r asks q)) ∙ ap (has x) none_of ∙ has-none x;
    }

pub silent_if : (C : Config) (c : Faults) (r : Row) (q : ℕ) (g : Group) (a : Bool) → Silent C c r q g a → votes_now C c r q g a ≡ false
unfolding votes_now will_vote called
silent_if C c r q g a s =
    let R = heard C.nodes c r asks q in
    let none_of : g.set ∩ R ≡ 0 = set_ext (λ x. has_inter x g.set R ∙ go x (bool (has x g.set)) ∙ sym (has-none x)) in
    rw (s.quiet, s.view, eqb_self g.set, s.own, none_of)
  where
    go : (x : ℕ) → (has x g.set ≡ true) ⊎ (has x g.set ≡ false) → (has x g.set && has x (heard C.nodes c r asks q)) ≡ false
    go x (inl m) = rw (m, s.others x m)
    go x (inr m) = rw m
