-- Votes: when they are equal, who voted for one, what is in a view, and what a new group is made of. Assumes nothing.
use mathlib.Core.Path.{◌≡◌, refl, sym, ap, ap₂, ◌∙◌}
use mathlib.Core.Logic.{◌⊎◌, inl, inr, ◌≢◌}
use mathlib.Core.Bool.{Bool, true, false, not, ◌&&◌, ◌||◌, cond, false≢true}
use mathlib.Core.Option.{Option, none, some}
use Prim.Native.Nat.{ℕ, ◌≤◌, ◌<◌}
use native.Mathlib.Omega.{arith}
use lib.Dec.{eqb, ltb}
use Rattle.sets.specs.Sets.{has, single, ◌∪◌, ◌∩◌, ◌∖◌, below}
use Rattle.sets.proofs.Booleans.{bool, both, and_l, and_r, and_i, or-e, or_l, or_r, or_f_r, not-e, not-i, not_f, eqb_self, eqb-true, ltb-lt, ltb-le}
use Rattle.sets.proofs.Membership.{◌⊆◌, has_union, has_inter, has_diff, has-single, set_ext}
use Rattle.sets.proofs.Nodes.{has-below, in_those, of_those, those_ext}
use Rattle.state.specs.declared.Group.{Group}
use Rattle.state.specs.State.{next_number}
use Rattle.rules.specs.declared.Vote.{Vote}
use Rattle.rules.specs.declared.Config.{Config}
use Rattle.rules.specs.OneCycle.{Ballots, view_of, same_group, same_vote, is, voters, wins, new_set, group_with, new_group, request_with, request_after, member_on, rests, enters_with}

-- ---- equal groups and votes

pub group-eq : (g h : Group) → same_group g h ≡ true → g ≡ h
unfolding same_group
group-eq g h e =
    let l : (eqb g.number h.number && eqb g.set h.set) ≡ true = and_l (eqb g.number h.number && eqb g.set h.set) (eqb g.base h.base) e in
    let p : g.number ≡ h.number = eqb-true (and_l (eqb g.number h.number) (eqb g.set h.set) l) in
    let q : g.set ≡ h.set = eqb-true (and_r (eqb g.number h.number) (eqb g.set h.set) l) in
    let r : g.base ≡ h.base = eqb-true (and_r (eqb g.number h.number && eqb g.set h.set) (eqb g.base h.base) e) in
    λ i. record { number = p i; set = q i; base = r i }

pub group_self : (g : Group) → same_group g g ≡ true
unfolding same_group
group_self g = rw (eqb_self g.number, eqb_self g.set, eqb_self g.base)

pub group_same : (g h : Group) → (g ≡ h) ⊎ (g ≢ h)
group_same g h = go (bool (same_group g h))
  where
    go : (same_group g h ≡ true) ⊎ (same_group g h ≡ false) → (g ≡ h) ⊎ (g ≢ h)
    go (inl e) = inl (group-eq g h e)
    go (inr e) = inr (λ k. false≢true (sym e ∙ ap (λ (x : Group). same_group x h) k ∙ group_self h))

pub vote-eq : (v w : Vote) → same_vote v w ≡ true → v ≡ w
unfolding same_vote
vote-eq v w e =
    let p : v.group ≡ w.group = group-eq v.group w.group (and_l (same_group v.group w.group) (eqb v.view w.view) e) in
    let q : v.view ≡ w.view = eqb-true (and_r (same_group v.group w.group) (eqb v.view w.view) e) in
    λ i. record { group = p i; view = q i }

pub vote_self : (v : Vote) → same_vote v v ≡ true
unfolding same_vote
vote_self v = rw (group_self v.group, eqb_self v.view)

pub is_eq : (v : Vote) (o : Option Vote) → is v o ≡ true → o ≡ some v
is_eq v none e = absurd (false≢true e)
is_eq v (some w) e = ap {B = Option Vote} some (sym (vote-eq v w e))

pub is_self : (v : Vote) (o : Option Vote) → o ≡ some v → is v o ≡ true
is_self v o e = ap (is v) e ∙ vote_self v

-- ---- what is in a view

pub has_view : (x N q M h0 h1 : ℕ)
    → has x (view_of N q M h0 h1) ≡ (eqb x q || (has x M && (ltb x N && has x h0)) || ((ltb x N && has x h1) && not (has x M)))
unfolding view_of
has_view x N q M h0 h1 =
    has_union x (single q ∪ (M ∩ below N h0)) (below N h1 ∖ M)
    ∙ ap₂ (λ (a b : Bool). a || b)
    (has_union x (single q) (M ∩ below N h0)
    ∙ ap₂ (λ (a b : Bool). a || b) (has-single x q) (has_inter x M (below N h0) ∙ ap (λ (a : Bool). has x M && a) (has-below x N h0)))
    (has_diff x (below N h1) M ∙ ap (λ (a : Bool). a && not (has x M)) (has-below x N h1))

-- it holds its node
pub view_own : (n q M h0 h1 : ℕ) → has q (view_of n q M h0 h1) ≡ true
view_own n q M h0 h1 = has_view q n q M h0 h1 ∙ rw (eqb_self q)

-- and nothing at n or above
pub view_below : (n q M h0 h1 : ℕ) → q < n → below n (view_of n q M h0 h1) ≡ view_of n q M h0 h1
view_below n q M h0 h1 l = set_ext (λ x. has-below x n (view_of n q M h0 h1) ∙ go x (bool (ltb x n)))
  where
    none-there : (e : Bool) (m a b : Bool) → e ≡ false → (e || (m && (false && a)) || ((false && b) && not m)) ≡ false
    none-there e true a b k = rw k
    none-there e false a b k = rw k

    other : (x : ℕ) → n ≤ x → eqb x q ≡ false
    other x k = go (bool (eqb x q))
      where
        go : (eqb x q ≡ true) ⊎ (eqb x q ≡ false) → eqb x q ≡ false
        go (inl e) = absurd (let z : x ≡ q = eqb-true e in omega arith)
        go (inr e) = e

    go : (x : ℕ) → (ltb x n ≡ true) ⊎ (ltb x n ≡ false) → (ltb x n && has x (view_of n q M h0 h1)) ≡ has x (view_of n q M h0 h1)
    go x (inl e) = rw e
    go x (inr e) =
        ap (λ (b : Bool). b && has x (view_of n q M h0 h1)) e
        ∙ sym (has_view x n q M h0 h1 ∙ ap (λ (b : Bool). eqb x q || (has x M && (b && has x h0)) || ((b && has x h1) && not (has x M))) e ∙ none-there (eqb x q) (has x M) (has x h0) (has x h1) (other x (ltb-le e)))

-- it looks at no heard bit of its own node, and at none at n or above
pub view_others : (n q M h0 h1 k0 k1 : ℕ) → ((x : ℕ) → x < n → eqb x q ≡ false → has x h0 ≡ has x k0) → ((x : ℕ) → x < n → eqb x q ≡ false → has x h1 ≡ has x k1)
    → view_of n q M h0 h1 ≡ view_of n q M k0 k1
view_others n q M h0 h1 k0 k1 e f = set_ext (λ x. has_view x n q M h0 h1 ∙ go x (eqb x q) (ltb x n) refl refl ∙ sym (has_view x n q M k0 k1))
  where
    go : (x : ℕ) (own low : Bool) → eqb x q ≡ own → ltb x n ≡ low
        → (own || (has x M && (low && has x h0)) || ((low && has x h1) && not (has x M))) ≡ (own || (has x M && (low && has x k0)) || ((low && has x k1) && not (has x M)))
    go x true low a b = refl
    go x false true a b = ap₂ (λ (u v : Bool). (has x M && u) || (v && not (has x M))) (e x (ltb-lt b) a) (f x (ltb-lt b) a)
    go x false false a b = refl

-- ---- who voted for a vote

pub voters-sub : (N : ℕ) (b : Ballots) (v : Vote) → ◌⊆◌ (voters N b v) v.group.set
unfolding voters
voters-sub N b v q h =
    let k = of_those q N (λ p. has p v.group.set && is v (b p)) h in
    and_l (has q v.group.set) (is v (b q)) k.1

pub voters-is : (N : ℕ) (b : Ballots) (v : Vote) (q : ℕ) → has q (voters N b v) ≡ true → (q < N) × (b q ≡ some v)
unfolding voters
voters-is N b v q h =
    let k = of_those q N (λ p. has p v.group.set && is v (b p)) h in
    (k.0, is_eq v (b q) (and_r (has q v.group.set) (is v (b q)) k.1))

pub in_voters : (N : ℕ) (b : Ballots) (v : Vote) (q : ℕ) → q < N → has q v.group.set ≡ true → b q ≡ some v → has q (voters N b v) ≡ true
unfolding voters
in_voters N b v q h m e = in_those q N (λ p. has p v.group.set && is v (b p)) h (and_i (has q v.group.set) (is v (b q)) m (is_self v (b q) e))

-- ---- the new group of a vote

pub in_new : (N : ℕ) (b : Ballots) (v : Vote) (x : ℕ) → has x (new_group N b v).set ≡ true
    → (has x (voters N b v) ≡ true) ⊎ ((has x v.view ≡ true) × (has x v.group.set ≡ false))
unfolding new_group new_set group_with
in_new N b v x h = go (or-e (has x (voters N b v)) (has x (v.view ∖ v.group.set)) (sym (has_union x (voters N b v) (v.view ∖ v.group.set)) ∙ h))
  where
    go : (has x (voters N b v) ≡ true) ⊎ (has x (v.view ∖ v.group.set) ≡ true) → (has x (voters N b v) ≡ true) ⊎ ((has x v.view ≡ true) × (has x v.group.set ≡ false))
    go (inl k) = inl k
    go (inr k) =
        let l : (has x v.view && not (has x v.group.set)) ≡ true = sym (has_diff x v.view v.group.set) ∙ k in
        inr (and_l (has x v.view) (not (has x v.group.set)) l, not-e (has x v.group.set) (and_r (has x v.view) (not (has x v.group.set)) l))

-- the base does not depend on the box
pub base_is : (N : ℕ) (b : Ballots) (v : Vote) → (new_group N b v).base ≡ v.view ∪ v.group.set
unfolding new_group new_set group_with
base_is N b v = set_ext (λ x.
    has_union x (voters N b v ∪ (v.view ∖ v.group.set)) v.group.set
    ∙ ap (λ (a : Bool). a || has x v.group.set) (has_union x (voters N b v) (v.view ∖ v.group.set) ∙ ap (λ (a : Bool). has x (voters N b v) || a) (has_diff x v.view v.group.set))
    ∙ go (has x (voters N b v)) (has x v.view) (has x v.group.set) (voters-sub N b v x)
    ∙ sym (has_union x v.view v.group.set))
  where
    go : (s w m : Bool) → (s ≡ true → m ≡ true) → (s || (w && not m) || m) ≡ (w || m)
    go true true m k = refl
    go true false m k = sym (k refl)
    go false true true k = refl
    go false true false k = refl
    go false false true k = refl
    go false false false k = refl

pub new_inside : (N : ℕ) (b : Ballots) (v : Vote) → ◌⊆◌ (new_group N b v).set (new_group N b v).base
unfolding new_group new_set group_with
new_inside N b v x h = has_union x (new_set N b v) v.group.set ∙ or_l (has x (new_set N b v)) (has x v.group.set) h

pub new_in : (N : ℕ) (b : Ballots) (v : Vote) (x : ℕ) → has x v.view ≡ true → has x v.group.set ≡ false → has x (new_group N b v).set ≡ true
unfolding new_group new_set group_with
new_in N b v x s m =
    has_union x (voters N b v) (v.view ∖ v.group.set)
    ∙ or_r (has x (voters N b v)) (has x (v.view ∖ v.group.set)) (has_diff x v.view v.group.set ∙ and_i (has x v.view) (not (has x v.group.set)) s (not-i (has x v.group.set) m))

pub voters_in : (N : ℕ) (b : Ballots) (v : Vote) → ◌⊆◌ (voters N b v) (new_group N b v).set
unfolding new_group new_set group_with
voters_in N b v x h = has_union x (voters N b v) (v.view ∖ v.group.set) ∙ or_l (has x (voters N b v)) (has x (v.view ∖ v.group.set)) h

-- a view that differs from the set changes it: "whoever is not in a V cannot vote for it"
pub view_changes_set : (N : ℕ) (b : Ballots) (v : Vote) → ◌⊆◌ (voters N b v) v.view → new_set N b v ≡ v.group.set → v.view ≡ v.group.set
unfolding new_group group_with
view_changes_set N b v seen e = set_ext (λ x. both (has x v.view) (has x v.group.set) (λ s. stays x s (bool (has x v.group.set))) (λ m. shown x (in_new N b v x (ap (has x) e ∙ m))))
  where
    stays : (x : ℕ) → has x v.view ≡ true → (has x v.group.set ≡ true) ⊎ (has x v.group.set ≡ false) → has x v.group.set ≡ true
    stays x s (inl m) = m
    stays x s (inr m) = sym (ap (has x) e) ∙ new_in N b v x s m

    shown : (x : ℕ) → (has x (voters N b v) ≡ true) ⊎ ((has x v.view ≡ true) × (has x v.group.set ≡ false)) → has x v.view ≡ true
    shown x (inl h) = seen x h
    shown x (inr h) = h.0

-- a vote that keeps the set leaves the group at rest
same_set_rests : (v : Vote) → group_with v v.group.set ≡ rests v.group
unfolding group_with
same_set_rests v = λ i. record { number = number i; set = v.group.set; base = base i }
  where
    number : cond (eqb v.group.set v.group.set) v.group.number (next_number v.group.number) ≡ v.group.number
    number = rw (eqb_self v.group.set)

    twice : (m : Bool) → (m || m) ≡ m
    twice true = refl
    twice false = refl

    base : v.group.set ∪ v.group.set ≡ v.group.set
    base = set_ext (λ x. has_union x v.group.set v.group.set ∙ twice (has x v.group.set))

-- in a quiet press whoever stays and does not request kept its set
pub no_request_rests : (C : Config) (b : Ballots) (v : Vote) → C.quiet ≡ true → request_after C b v ≡ false → new_group C.nodes b v ≡ rests v.group
unfolding request_after request_with new_group
no_request_rests C b v y e =
    let differs = not (eqb v.view v.group.set) in
    let same = eqb (new_set C.nodes b v) v.group.set in
    let kept : same ≡ true = not_f same (or_f_r differs (not same) (ap (λ (x : Bool). x && (differs || not same)) (sym y) ∙ e)) in
    ap (group_with v) (eqb-true kept) ∙ same_set_rests v

-- ---- equal ballots give equal groups

pub voters_ext : (N : ℕ) (a b : Ballots) (v : Vote) → ((p : ℕ) → p < N → a p ≡ b p) → voters N a v ≡ voters N b v
unfolding voters
voters_ext N a b v e = those_ext N (λ p. has p v.group.set && is v (a p)) (λ p. has p v.group.set && is v (b p)) (λ p h. ap (λ (o : Option Vote). has p v.group.set && is v o) (e p h))

pub wins_ext : (N : ℕ) (a b : Ballots) (v : Vote) → ((p : ℕ) → p < N → a p ≡ b p) → wins N a v ≡ wins N b v
unfolding wins
wins_ext N a b v e = rw (voters_ext N a b v e)

pub group_ext : (N : ℕ) (a b : Ballots) (v : Vote) → ((p : ℕ) → p < N → a p ≡ b p) → new_group N a v ≡ new_group N b v
unfolding new_group new_set
group_ext N a b v e = rw (voters_ext N a b v e)

-- so does who stays or enters with it
pub member_ext : (C : Config) (a b : Ballots) (v : Vote) → ((p : ℕ) → p < C.nodes → a p ≡ b p) → member_on C a v ≡ member_on C b v
unfolding new_group new_set request_after
member_ext C a b v e = rw (voters_ext C.nodes a b v e)

pub enters_ext : (C : Config) (a b : Ballots) (v : Vote) → ((p : ℕ) → p < C.nodes → a p ≡ b p) → enters_with C a v ≡ enters_with C b v
unfolding new_group new_set
enters_ext C a b v e = rw (voters_ext C.nodes a b v e)
