-- Every state that the rules give is well formed, in both modes, whether the premise is met or not. Assumes nothing.
use mathlib.Core.Path.{◌≡◌, refl, sym, ap, ◌∙◌, subst}
use mathlib.Core.Logic.{◌⊎◌, inl, inr}
use mathlib.Core.Bool.{Bool, true, false, not, ◌&&◌, ◌||◌, cond, true≢false}
use mathlib.Core.List.{List, [], ◌∷◌}
use mathlib.Core.Option.{Option, none, some}
use Prim.Native.Nat.{ℕ, zero, suc, ◌+◌, ◌^◌, ◌<◌}
use native.Mathlib.Omega.{arith}
use native.Mathlib.Nat.{mod-lt}
use lib.Dec.{eqb, ltb}
use lib.ListN.{get_or, length}
use lib.Pow.{pow_pos}
use Rattle.sets.specs.Sets.{has, ◌∖◌, subset, below, lowest, any, every}
use Rattle.sets.proofs.Booleans.{and_l, and_r, and_i, or-e, or_l, not-e, eqb_self, eqb-true, ltb-true, ltb-lt}
use Rattle.sets.proofs.Membership.{◌⊆◌, has_union, set_ext, subset_in, subset_of}
use Rattle.sets.proofs.Nodes.{has-below}
use Rattle.state.specs.declared.Reason.TheVariants.{Stopped, NoQuorum, Outvoted}
use Rattle.state.specs.declared.Group.{Group}
use Rattle.state.specs.declared.State.{State}
use Rattle.state.specs.declared.State.TheVariants.{Out, Joining, Member}
use Rattle.state.specs.State.{group_of, formed_sets, formed_state, founding_group, initial, next_number}
use Rattle.rules.specs.declared.Vote.{Vote}
use Rattle.rules.specs.declared.Faults.{Faults}
use Rattle.rules.specs.declared.Config.{Config}
use Rattle.rules.specs.OneCycle.{Ballots, stopped, stop_and_start, sends_member, sends_join, asks, view_of, is, voters, wins, new_set, group_with, new_group, request_with, request_after, member_on, with_own, without, rival, member_decides, rests, silent_decides, fits, enters_with, enter_on, joiner_decides}
use Rattle.rules.specs.Faults.{Row, at, tabulate, founding, vote_reaches, heard, own_vote, votes_now, vote_of, votes, arrive_if, arrived_at, decides, decisions, rule_one, cycle}
use Rattle.rules.specs.Reference.{Cluster, step, after}
use Rattle.rules.proofs.Rows.{get-tabulate, length-tabulate}
use Rattle.rules.proofs.Votes.{has_view, in_voters, base_is, new_inside, new_in}
use Rattle.rules.proofs.States.{none-some, some_inj}
pub use Rattle.theorem_formed.proofs.Rows.{FormedRow}

-- ---- the test of a state, as laws of the group that it holds

-- no node of m is n or above
abbrev pub Bound : ℕ → ℕ → Type 0
Bound n m = (x : ℕ) → has x m ≡ true → x < n

pub bound_of : (n m : ℕ) → below n m ≡ m → Bound n m
bound_of n m e x h = ltb-lt (and_l (ltb x n) (has x m) (sym (has-below x n m) ∙ ap (has x) e ∙ h))

below_of : (n m : ℕ) → Bound n m → below n m ≡ m
below_of n m b = set_ext (λ x. has-below x n m ∙ go x (has x m) refl)
  where
    and_no : (t : Bool) → (t && false) ≡ false
    and_no true = refl
    and_no false = refl

    go : (x : ℕ) (t : Bool) → has x m ≡ t → (ltb x n && t) ≡ t
    go x true h = and_i (ltb x n) true (ltb-true (b x h)) refl
    go x false h = and_no (ltb x n)

record Sound (n q : ℕ) (g : Group) : Type 0 where
  number : g.number < 2 ^ 32
  self : has q g.set ≡ true
  inside : ◌⊆◌ g.set g.base
  bound : Bound n g.base

abbrev SoundState : ℕ → ℕ → State → Type 0
SoundState n q s = (g : Group) → group_of s ≡ some g → Sound n q g

-- it requests in a quiet press alone
abbrev Allowed : Bool → State → Type 0
Allowed quiet s = (quiet || not (asks s)) ≡ true

allowed_none : (quiet : Bool) → (quiet || not false) ≡ true
allowed_none true = refl
allowed_none false = refl

-- no member of a well-formed state requests in a press that votes in every cycle
pub none_requests : (n q : ℕ) (s : State) → formed_state false q n s ≡ true → asks s ≡ false
none_requests n q (Out r) f = refl
none_requests n q Joining f = refl
none_requests n q (Member g a) f = not-e a (and_l (not a) (ltb g.number (2 ^ 32) && formed_sets q n g.set g.base) f)

sound_group : (quiet : Bool) (n q : ℕ) (g : Group) (a : Bool) → formed_state quiet q n (Member g a) ≡ true → Sound n q g
unfolding formed_sets
sound_group quiet n q g a f =
    let e = and_r (quiet || not a) (ltb g.number (2 ^ 32) && formed_sets q n g.set g.base) f in
    let sets = and_r (ltb g.number (2 ^ 32)) (formed_sets q n g.set g.base) e in
    let both = and_l (has q g.set && subset g.set g.base) (eqb (below n g.base) g.base) sets in
    record {
      number = ltb-lt (and_l (ltb g.number (2 ^ 32)) (formed_sets q n g.set g.base) e);
      self = and_l (has q g.set) (subset g.set g.base) both;
      inside = subset_in g.set g.base (and_r (has q g.set) (subset g.set g.base) both);
      bound = bound_of n g.base (eqb-true (and_r (has q g.set && subset g.set g.base) (eqb (below n g.base) g.base) sets));
    }

-- a member's set has no node at n or above
pub set_bound : (quiet : Bool) (n q : ℕ) (g : Group) (a : Bool) → formed_state quiet q n (Member g a) ≡ true → Bound n g.set
set_bound quiet n q g a f x h = let s = sound_group quiet n q g a f in s.bound x (s.inside x h)

formed-group : (quiet : Bool) (n q : ℕ) (g : Group) (a : Bool) → Sound n q g → Allowed quiet (Member g a) → formed_state quiet q n (Member g a) ≡ true
unfolding formed_sets
formed-group quiet n q g a s w =
    and_i (quiet || not a) (ltb g.number (2 ^ 32) && formed_sets q n g.set g.base) w
    (and_i (ltb g.number (2 ^ 32)) (formed_sets q n g.set g.base) (ltb-true s.number)
    (and_i (has q g.set && subset g.set g.base) (eqb (below n g.base) g.base)
    (and_i (has q g.set) (subset g.set g.base) s.self (subset_of g.set g.base s.inside))
    (ap (λ (x : ℕ). eqb x g.base) (below_of n g.base s.bound) ∙ eqb_self g.base)))

formed_state_lem : (quiet : Bool) (n q : ℕ) (s : State) → SoundState n q s → Allowed quiet s → formed_state quiet q n s ≡ true
formed_state_lem quiet n q (Out r) f w = refl
formed_state_lem quiet n q Joining f w = refl
formed_state_lem quiet n q (Member g a) f w = formed-group quiet n q g a (f g refl) w

-- ---- the beginning

pub founding-formed : (C : Config) (G F : ℕ) → G < 2 ^ 32 → below C.nodes F ≡ F → FormedRow C (founding C.nodes G F)
unfolding founding
founding-formed C G F l b q k = ap (formed_state C.quiet q n) (get-tabulate n q (initial G F) stopped k) ∙ go (has q F) refl
  where
    n : ℕ
    n = C.nodes

    go : (t : Bool) → has q F ≡ t → formed_state C.quiet q n (cond t (Member (founding_group G F) false) (Out Stopped)) ≡ true
    go true h =
        formed-group C.quiet n q (founding_group G F) false (record { number = l; self = h; inside = λ x e. e; bound = bound_of n F b }) (allowed_none C.quiet)
    go false h = refl

-- ---- the group that a vote gives

-- a vote of nodes that there are
pub record Fair (n : ℕ) (v : Vote) : Type 0 where
  pub set : Bound n v.group.set
  pub view : Bound n v.view

view_bound : (n q M h0 h1 : ℕ) → q < n → Bound n M → Bound n (view_of n q M h0 h1)
view_bound n q M h0 h1 l b x h =
    go (or-e (eqb x q || (has x M && (ltb x n && has x h0))) ((ltb x n && has x h1) && not (has x M)) (sym (has_view x n q M h0 h1) ∙ h))
  where
    first : (eqb x q ≡ true) ⊎ ((has x M && (ltb x n && has x h0)) ≡ true) → x < n
    first (inl e) = subst (λ (y : ℕ). y < n) (sym (eqb-true e)) l
    first (inr e) = b x (and_l (has x M) (ltb x n && has x h0) e)

    go : ((eqb x q || (has x M && (ltb x n && has x h0))) ≡ true) ⊎ (((ltb x n && has x h1) && not (has x M)) ≡ true) → x < n
    go (inl e) = first (or-e (eqb x q) (has x M && (ltb x n && has x h0)) e)
    go (inr e) = ltb-lt (and_l (ltb x n) (has x h1) (and_l (ltb x n && has x h1) (not (has x M)) e))

own_fair : (n q h0 h1 : ℕ) (g : Group) → q < n → Sound n q g → Fair n (record { group = g; view = view_of n q g.set h0 h1 })
own_fair n q h0 h1 g l s =
    let bound : Bound n g.set = λ x h. s.bound x (s.inside x h) in
    record { set = bound; view = view_bound n q g.set h0 h1 l bound }

next-lt : (G : ℕ) → next_number G < 2 ^ 32
unfolding next_number
next-lt G = mod-lt (G + 1) (pow_pos 32)

number_lt : (b : Bool) (G : ℕ) → G < 2 ^ 32 → cond b G (next_number G) < 2 ^ 32
number_lt true G l = l
number_lt false G l = next-lt G

voter_in : (n : ℕ) (b : Ballots) (v : Vote) (q : ℕ) → has q (voters n b v) ≡ true → has q (new_group n b v).set ≡ true
unfolding new_group new_set group_with
voter_in n b v q h =
    has_union q (voters n b v) (v.view ∖ v.group.set) ∙ or_l (has q (voters n b v)) (has q (v.view ∖ v.group.set)) h

new_number : (n : ℕ) (b : Ballots) (v : Vote) → v.group.number < 2 ^ 32 → (new_group n b v).number < 2 ^ 32
unfolding new_group group_with
new_number n b v l = number_lt (eqb (new_set n b v) v.group.set) v.group.number l

-- of any vote, where a node is new in the set
entered_number : (n q : ℕ) (b : Ballots) (v : Vote) → has q (new_group n b v).set ≡ true → has q v.group.set ≡ false → (new_group n b v).number < 2 ^ 32
unfolding new_group group_with
entered_number n q b v h o = go (eqb (new_set n b v) v.group.set) refl
  where
    go : (t : Bool) → eqb (new_set n b v) v.group.set ≡ t → cond t v.group.number (next_number v.group.number) < 2 ^ 32
    go true e = let z : true ≡ false = sym h ∙ ap (has q) (eqb-true e) ∙ o in absurd (true≢false z)
    go false e = next-lt v.group.number

new_bound : (n : ℕ) (b : Ballots) (v : Vote) → Fair n v → Bound n (new_group n b v).base
new_bound n b v f x h =
    go (or-e (has x v.view) (has x v.group.set) (sym (ap (has x) (base_is n b v) ∙ has_union x v.view v.group.set) ∙ h))
  where
    go : (has x v.view ≡ true) ⊎ (has x v.group.set ≡ true) → x < n
    go (inl e) = f.view x e
    go (inr e) = f.set x e

new_sound : (n q : ℕ) (b : Ballots) (v : Vote) → Fair n v → (new_group n b v).number < 2 ^ 32 → has q (new_group n b v).set ≡ true → Sound n q (new_group n b v)
new_sound n q b v f l h = record { number = l; self = h; inside = new_inside n b v; bound = new_bound n b v f }

-- ---- rules 5 and 6

member_sound : (C : Config) (q : ℕ) (own : Vote) (arrived : Ballots) → q < C.nodes → Sound C.nodes q own.group → Fair C.nodes own
    → SoundState C.nodes q (member_decides C q own arrived)
unfolding member_decides
member_sound C q own arrived l w f g e = go (wins n b own) (any n (λ p. rival n b own.group (b p))) e
  where
    n : ℕ
    n = C.nodes

    b : Ballots
    b = with_own q own arrived

    mine : b q ≡ some own
    mine = ap (λ (x : Bool). cond x (some own) (arrived q)) (eqb_self q)

    go : (won beaten : Bool) → group_of (cond won (member_on C b own) (cond beaten (Out Outvoted) (Out NoQuorum))) ≡ some g → Sound n q g
    go true beaten e =
        subst (λ (x : Group). Sound n q x) (some_inj e)
        (new_sound n q b own f (new_number n b own w.number) (voter_in n b own q (in_voters n b own q l w.self mine)))
    go false true e = absurd (none-some e)
    go false false e = absurd (none-some e)

rests_sound : (n q : ℕ) (g : Group) → Sound n q g → Sound n q (rests g)
rests_sound n q g s = record { number = s.number; self = s.self; inside = λ x h. h; bound = λ x h. s.bound x (s.inside x h) }

silent_sound : (C : Config) (q : ℕ) (g : Group) (arrived : Ballots) → Sound C.nodes q g → SoundState C.nodes q (silent_decides C q g arrived)
unfolding silent_decides
silent_sound C q g arrived s h e = go (any C.nodes (λ p. rival C.nodes (without q arrived) g (without q arrived p))) e
  where
    go : (beaten : Bool) → group_of (cond beaten (Out Outvoted) (Member (rests g) false)) ≡ some h → Sound C.nodes q h
    go true e = absurd (none-some e)
    go false e = subst (λ (x : Group). Sound C.nodes q x) (some_inj e) (rests_sound C.nodes q g s)

joiner_sound : (C : Config) (q : ℕ) (b : Ballots) → ((p : ℕ) (v : Vote) → b p ≡ some v → Fair C.nodes v) → SoundState C.nodes q (joiner_decides C q b)
unfolding joiner_decides
joiner_sound C q b fair g e = go (lowest n (λ p. fits n q b (b p))) (b (lowest n (λ p. fits n q b (b p)))) refl e
  where
    n : ℕ
    n = C.nodes

    go : (p : ℕ) (o : Option Vote) → b p ≡ o → group_of (enter_on C q b o) ≡ some g → Sound n q g
    go p none k e = absurd (none-some e)
    go p (some v) k e = turn (fits n q b (some v) && every n (λ x. not (fits n q b (b x)) || is v (b x))) refl e
      where
        turn : (t : Bool) → (fits n q b (some v) && every n (λ x. not (fits n q b (b x)) || is v (b x))) ≡ t
            → group_of (cond t (enters_with C b v) Joining) ≡ some g → Sound n q g
        turn true f e =
            let fit = and_l (fits n q b (some v)) (every n (λ x. not (fits n q b (b x)) || is v (b x))) f in
            let new = and_l (has q v.view && not (has q v.group.set)) (wins n b v) fit in
            let outside = not-e (has q v.group.set) (and_r (has q v.view) (not (has q v.group.set)) new) in
            let enters = new_in n b v q (and_l (has q v.view) (not (has q v.group.set)) new) outside in
            subst (λ (x : Group). Sound n q x) (some_inj e) (new_sound n q b v (fair p v k) (entered_number n q b v enters outside) enters)
        turn false f e = absurd (none-some e)

-- ---- who requests: whatever arrived, nobody in a press that votes in every cycle

member_allowed : (C : Config) (q : ℕ) (own : Vote) (arrived : Ballots) → Allowed C.quiet (member_decides C q own arrived)
unfolding member_decides request_after request_with
member_allowed C q own arrived = go (wins n b own) (any n (λ p. rival n b own.group (b p)))
  where
    n : ℕ
    n = C.nodes

    b : Ballots
    b = with_own q own arrived

    if-quiet : (quiet x : Bool) → (quiet || not (quiet && x)) ≡ true
    if-quiet true x = refl
    if-quiet false x = refl

    go : (won beaten : Bool) → Allowed C.quiet (cond won (member_on C b own) (cond beaten (Out Outvoted) (Out NoQuorum)))
    go true beaten = if-quiet C.quiet (not (eqb own.view own.group.set) || not (eqb (new_set n b own) own.group.set))
    go false true = allowed_none C.quiet
    go false false = allowed_none C.quiet

silent_allowed : (C : Config) (q : ℕ) (g : Group) (arrived : Ballots) → Allowed C.quiet (silent_decides C q g arrived)
unfolding silent_decides
silent_allowed C q g arrived = go (any C.nodes (λ p. rival C.nodes (without q arrived) g (without q arrived p)))
  where
    go : (beaten : Bool) → Allowed C.quiet (cond beaten (Out Outvoted) (Member (rests g) false))
    go true = allowed_none C.quiet
    go false = allowed_none C.quiet

joiner_allowed : (C : Config) (q : ℕ) (b : Ballots) → Allowed C.quiet (joiner_decides C q b)
unfolding joiner_decides
joiner_allowed C q b = go (b (lowest n (λ p. fits n q b (b p))))
  where
    n : ℕ
    n = C.nodes

    if-quiet : (quiet : Bool) → (quiet || not quiet) ≡ true
    if-quiet true = refl
    if-quiet false = refl

    go : (o : Option Vote) → Allowed C.quiet (enter_on C q b o)
    go none = allowed_none C.quiet
    go (some v) = turn (fits n q b (some v) && every n (λ x. not (fits n q b (b x)) || is v (b x)))
      where
        turn : (t : Bool) → Allowed C.quiet (cond t (enters_with C b v) Joining)
        turn true = if-quiet C.quiet
        turn false = allowed_none C.quiet

-- ---- one node alone, from whatever votes of nodes that there are arrived

pub member-formed : (C : Config) (q h0 h1 : ℕ) (g : Group) (a : Bool) (arrived : Ballots) → q < C.nodes → formed_state C.quiet q C.nodes (Member g a) ≡ true
    → formed_state C.quiet q C.nodes (member_decides C q (record { group = g; view = view_of C.nodes q g.set h0 h1 }) arrived) ≡ true
member-formed C q h0 h1 g a arrived l f =
    let own : Vote = record { group = g; view = view_of C.nodes q g.set h0 h1 } in
    let s = sound_group C.quiet C.nodes q g a f in
    formed_state_lem C.quiet C.nodes q (member_decides C q own arrived) (member_sound C q own arrived l s (own_fair C.nodes q h0 h1 g l s)) (member_allowed C q own arrived)

pub silent_formed : (C : Config) (q : ℕ) (g : Group) (a : Bool) (arrived : Ballots) → formed_state C.quiet q C.nodes (Member g a) ≡ true
    → formed_state C.quiet q C.nodes (silent_decides C q g arrived) ≡ true
silent_formed C q g a arrived f =
    formed_state_lem C.quiet C.nodes q (silent_decides C q g arrived) (silent_sound C q g arrived (sound_group C.quiet C.nodes q g a f)) (silent_allowed C q g arrived)

pub joiner_formed : (C : Config) (q : ℕ) (b : Ballots) → ((p : ℕ) (v : Vote) → b p ≡ some v → Fair C.nodes v)
    → formed_state C.quiet q C.nodes (joiner_decides C q b) ≡ true
joiner_formed C q b fair = formed_state_lem C.quiet C.nodes q (joiner_decides C q b) (joiner_sound C q b fair) (joiner_allowed C q b)

-- ---- the whole cycle

-- what holds of every entry and of what stands past the last holds of what is read
read-tabulate {ℓ} : {A : Type ℓ} (P : A → Type 0) (n q : ℕ) (f : ℕ → A) (d : A) → P d → ((x : ℕ) → x < n → P (f x)) → P (get_or (tabulate n f) q d)
unfolding tabulate
read-tabulate P zero q f d o i = o
read-tabulate P (suc n) zero f d o i = i 0 (omega arith)
read-tabulate P (suc n) (suc q) f d o i = read-tabulate P n q (λ x. f (suc x)) d o (λ x l. i (suc x) (omega arith))

module _ (C : Config) (c : Faults) (r : Row) (w : FormedRow C r) where
  abbrev n : ℕ
  n = C.nodes

  abbrev got : ℕ → Ballots
  got q = arrived_at c (votes C c r) q

  abbrev FairVote : Option Vote → Type 0
  FairVote o = (v : Vote) → o ≡ some v → Fair n v

  vote_fair : (p : ℕ) → p < n → FairVote (vote_of C c r p (at r p))
  unfolding own_vote
  vote_fair p l v e = go (at r p) (w p l) e
    where
      go : (s : State) → formed_state C.quiet p n s ≡ true → vote_of C c r p s ≡ some v → Fair n v
      go (Out z) f e = absurd (none-some e)
      go Joining f e = absurd (none-some e)
      go (Member g a) f e = turn (votes_now C c r p g a) e
        where
          turn : (t : Bool) → cond t (some (own_vote n c r p g)) none ≡ some v → Fair n v
          turn true e = subst (Fair n) (some_inj e) (own_fair n p (heard n c r sends_member p) (heard n c r sends_join p) g l (sound_group C.quiet n p g a f))
          turn false e = absurd (none-some e)

  arrived-fair : (q p : ℕ) → FairVote (got q p)
  unfolding votes
  arrived-fair q p =
      go (vote_reaches c p q) (get_or (votes C c r) p none)
      (read-tabulate FairVote n p (λ x. vote_of C c r x (at r x)) none (λ v e. absurd (none-some e)) vote_fair)
    where
      go : (b : Bool) (o : Option Vote) → FairVote o → FairVote (arrive_if b o)
      go true o f = f
      go false o f = λ v e. absurd (none-some e)

  decides-formed : (q : ℕ) → q < n → formed_state C.quiet q n (decides C c r q (at r q) (got q)) ≡ true
  unfolding own_vote
  decides-formed q l = go (at r q) (w q l)
    where
      go : (s : State) → formed_state C.quiet q n s ≡ true → formed_state C.quiet q n (decides C c r q s (got q)) ≡ true
      go (Out z) f = refl
      go Joining f = joiner_formed C q (got q) (arrived-fair q)
      go (Member g a) f = turn (votes_now C c r q g a)
        where
          turn : (t : Bool) → formed_state C.quiet q n (cond t (member_decides C q (own_vote n c r q g) (got q)) (silent_decides C q g (got q))) ≡ true
          turn true = member-formed C q (heard n c r sends_member q) (heard n c r sends_join q) g a (got q) l f
          turn false = silent_formed C q g a (got q) f

  decisions-formed : FormedRow C (decisions C c r (votes C c r))
  unfolding decisions
  decisions-formed q l = ap (formed_state C.quiet q n) (get-tabulate n q (λ x. decides C c r x (at r x) (got x)) stopped l) ∙ decides-formed q l

-- rule 1 keeps what is well formed
pub stop_start_formed : (stop start quiet : Bool) (n q : ℕ) (s : State) → formed_state quiet q n s ≡ true → formed_state quiet q n (stop_and_start stop start s) ≡ true
unfolding stop_and_start
stop_start_formed true true quiet n q s e = refl
stop_start_formed true false quiet n q s e = refl
stop_start_formed false true quiet n q (Out r) e = refl
stop_start_formed false true quiet n q Joining e = refl
stop_start_formed false true quiet n q (Member g a) e = e
stop_start_formed false false quiet n q s e = e

pub rule_one_formed : (C : Config) (c : Faults) (row : Row) → FormedRow C row → FormedRow C (rule_one C.nodes c row)
unfolding rule_one
rule_one_formed C c row w q l =
    ap (formed_state C.quiet q C.nodes) (get-tabulate C.nodes q (λ x. stop_and_start (has x c.stop) (has x c.start) (at row x)) stopped l)
    ∙ stop_start_formed (has q c.stop) (has q c.start) C.quiet C.nodes q (at row q) (w q l)

-- ---- every row of a history

pub cycle-formed : (C : Config) (c : Faults) (row : Row) → FormedRow C row → FormedRow C (cycle C c row)
unfolding cycle
cycle-formed C c row w = decisions-formed C c (rule_one C.nodes c row) (rule_one_formed C c row w)

pub after-formed : (C : Config) (k : Cluster) (cs : List Faults) → FormedRow C k.row → FormedRow C (after C k cs).row
unfolding after step
after-formed C k [] w = w
after-formed C k (c ∷ cs) w = after-formed C (step C k c) cs (cycle-formed C c k.row w)

-- ---- and has an entry for each node

pub length-founding : (n G F : ℕ) → length (founding n G F) ≡ n
unfolding founding
length-founding n G F = length-tabulate n (initial G F)

pub length-cycle : (C : Config) (c : Faults) (row : Row) → length (cycle C c row) ≡ C.nodes
unfolding cycle decisions
length-cycle C c row =
    let r = rule_one C.nodes c row in
    length-tabulate C.nodes (λ q. decides C c r q (at r q) (arrived_at c (votes C c r) q))

pub length-after : (C : Config) (k : Cluster) (cs : List Faults) → length k.row ≡ C.nodes → length (after C k cs).row ≡ C.nodes
unfolding after step
length-after C k [] e = e
length-after C k (c ∷ cs) e = length-after C (step C k c) cs (length-cycle C c k.row)
