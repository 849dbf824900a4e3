-- What the modes come to: with quiet false the rules are those of paper 01; and in a quiet press a view that differs changes the set, and the request of a node that
-- was not heard adds nothing. Assumes nothing.
use mathlib.Core.Path.{◌≡◌, refl, sym, ap, ◌∙◌}
use mathlib.Core.Bool.{Bool, true, false, ◌&&◌, ◌||◌, cond, not, and-false, or-false, false≢true}
use mathlib.Core.List.{List}
use mathlib.Core.Option.{Option, none, some}
use Prim.Native.Nat.{ℕ, ◌<◌}
use lib.Dec.{eqb, ltb}
use Rattle.sets.specs.Sets.{has, single, ◌∩◌, ◌∖◌}
use Rattle.sets.proofs.Booleans.{eqb-true}
use Rattle.sets.proofs.Membership.{has_inter, has_diff, has-single, set_ext}
use Rattle.state.specs.declared.Group.{Group}
use Rattle.state.specs.declared.State.{State}
use Rattle.state.specs.declared.State.TheVariants.{Out, Joining, Member}
use Rattle.rules.specs.declared.Vote.{Vote}
use Rattle.rules.specs.declared.Faults.{Faults}
use Rattle.rules.specs.declared.Config.{Config}
use Rattle.rules.specs.OneCycle.{Ballots, of_nodes, view_of, called, will_vote, new_set, with_own, member_decides, silent_decides}
use Rattle.rules.specs.Faults.{Row, at, tabulate, rule_one, vote_reaches, own_vote, votes_now, vote_of, votes, arrive_if, arrived_at, decides, decisions, cycle}
use Rattle.rules.specs.Always.{always_vote, always_decides, always_cycle}
use Rattle.rules.proofs.Rows.{get-tabulate, tabulate-ext}
use Rattle.rules.proofs.Votes.{has_view, view_own, voters-is, view_changes_set}
use Rattle.rules.proofs.States.{none-some, some_inj, always_votes, own_group}

-- ---- a press that votes in every cycle: its cycles are those of paper 01

sends_always : (N : ℕ) (c : Faults) (r : Row) (q : ℕ) (s : State) → vote_of (of_nodes N) c r q s ≡ always_vote N c r q s
sends_always N c r q (Out k) = refl
sends_always N c r q Joining = refl
sends_always N c r q (Member g a) = ap (λ (b : Bool). cond b (some (own_vote N c r q g)) none) (always_votes (of_nodes N) c r q g a refl)

decides_always : (N : ℕ) (c : Faults) (r : Row) (q : ℕ) (s : State) (b : Ballots) → decides (of_nodes N) c r q s b ≡ always_decides N c r q s b
decides_always N c r q (Out k) b = refl
decides_always N c r q Joining b = refl
decides_always N c r q (Member g a) b = ap (λ (y : Bool). cond y (member_decides (of_nodes N) q (own_vote N c r q g) b) (silent_decides (of_nodes N) q g b)) (always_votes (of_nodes N) c r q g a refl)

pub always_cycle_lem : (N : ℕ) (c : Faults) (row : Row) → cycle (of_nodes N) c row ≡ always_cycle N c row
unfolding cycle decisions votes always_cycle
always_cycle_lem N c row =
    tabulate-ext N (λ q. decides (of_nodes N) c r q (at r q) (arrived_at c sent q)) (λ q. always_decides N c r q (at r q) (arrived_at c sent q)) (λ q l. decides_always N c r q (at r q) (arrived_at c sent q))
    ∙ ap (λ (x : List (Option Vote)). tabulate N (λ q. always_decides N c r q (at r q) (arrived_at c x q))) same
  where
    r : Row
    r = rule_one N c row

    sent : List (Option Vote)
    sent = tabulate N (λ q. vote_of (of_nodes N) c r q (at r q))

    same : sent ≡ tabulate N (λ q. always_vote N c r q (at r q))
    same = tabulate-ext N (λ q. vote_of (of_nodes N) c r q (at r q)) (λ q. always_vote N c r q (at r q)) (λ q l. sends_always N c r q (at r q))

-- ---- "since whoever is not in a V cannot vote for it": every vote that is sent holds its sender

pub vote_holds_sender : (C : Config) (c : Faults) (r : Row) (p : ℕ) (s : State) (v : Vote) → vote_of C c r p s ≡ some v → has p v.view ≡ true
unfolding own_vote
vote_holds_sender C c r p (Out k) v f = absurd (none-some f)
vote_holds_sender C c r p Joining v f = absurd (none-some f)
vote_holds_sender C c r p (Member g a) v f = go (votes_now C c r p g a) f
  where
    go : (y : Bool) → cond y (some (own_vote C.nodes c r p g)) none ≡ some v → has p v.view ≡ true
    go true f = ap (λ (x : Vote). has p x.view) (sym (some_inj f)) ∙ view_own C.nodes p g.set _ _
    go false f = absurd (none-some f)

-- so who keeps its set in a cycle in which it votes saw it
module _ (C : Config) (c : Faults) (r : Row) (q : ℕ) (g : Group) where
  abbrev own : Vote
  own = own_vote C.nodes c r q g

  abbrev came : Ballots
  came = with_own q own (arrived_at c (votes C c r) q)

  sent : (p : ℕ) → p < C.nodes → arrived_at c (votes C c r) q p ≡ some own → vote_of C c r p (at r p) ≡ some own
  unfolding votes
  sent p l e = go (vote_reaches c p q) (ap (arrive_if (vote_reaches c p q)) (sym (get-tabulate C.nodes p (λ x. vote_of C c r x (at r x)) none l)) ∙ e)
    where
      go : (b : Bool) → arrive_if b (vote_of C c r p (at r p)) ≡ some own → vote_of C c r p (at r p) ≡ some own
      go true e = e
      go false e = absurd (none-some e)

  holds-sender : (p : ℕ) → p < C.nodes → came p ≡ some own → has p own.view ≡ true
  unfolding own_vote
  holds-sender p l e = go (eqb p q) refl e
    where
      go : (b : Bool) → eqb p q ≡ b → cond b (some own) (arrived_at c (votes C c r) q p) ≡ some own → has p own.view ≡ true
      go true k f = ap (λ (x : ℕ). has x own.view) (eqb-true k) ∙ view_own C.nodes q g.set _ _
      go false k f = vote_holds_sender C c r p (at r p) own (sent p l f)

  pub kept-set-seen : new_set C.nodes came own ≡ g.set → own.view ≡ g.set
  kept-set-seen e =
      view_changes_set C.nodes came own (λ x h. let i = voters-is C.nodes came own x h in holds-sender x i.0 i.1) (e ∙ ap (λ (k : Group). k.set) (own_group C.nodes c r q g))
      ∙ sym (ap (λ (k : Group). k.set) (own_group C.nodes c r q g))

-- ---- a node of M that was not heard is missing in V, so that the member votes anyway: its request adds nothing
pub unheard_adds_nothing : (C : Config) (q M heard0 heard1 requests : ℕ) (own : Bool) → let view = view_of C.nodes q M heard0 heard1 in
    will_vote C M view (called M own ((heard0 ∩ requests) ∖ single q)) ≡ will_vote C M view (called M own (requests ∖ single q))
unfolding will_vote called
unheard_adds_nothing C q M heard0 heard1 requests own = go (eqb view M) refl
  where
    view : ℕ
    view = view_of C.nodes q M heard0 heard1

    -- whom the member sees it heard
    heard : view ≡ M → (x : ℕ) → has x M ≡ true → has x (single q) ≡ false → has x heard0 ≡ true
    heard e x m o = seen (has x M) (eqb x q) (ltb x C.nodes) m (sym (has-single x q) ∙ o) (sym (has_view x C.nodes q M heard0 heard1) ∙ ap (has x) e ∙ m)
      where
        seen : (i own low : Bool) → i ≡ true → own ≡ false → (own || (i && (low && has x heard0)) || ((low && has x heard1) && not i)) ≡ true → has x heard0 ≡ true
        seen true false true m o h = sym (or-false (has x heard0)) ∙ ap (λ (b : Bool). has x heard0 || b) (sym (and-false (has x heard1))) ∙ h
        seen true false false m o h = absurd (false≢true h)
        seen true true low m o h = absurd (false≢true (sym o))
        seen false own low m o h = absurd (false≢true m)

    both : view ≡ M → M ∩ ((heard0 ∩ requests) ∖ single q) ≡ M ∩ (requests ∖ single q)
    both e = set_ext (λ x. there x ∙ turn x (has x M) (has x (single q)) refl refl ∙ sym (has_inter x M (requests ∖ single q) ∙ ap (λ (b : Bool). has x M && b) (has_diff x requests (single q))))
      where
        there : (x : ℕ) → has x (M ∩ ((heard0 ∩ requests) ∖ single q)) ≡ (has x M && ((has x heard0 && has x requests) && not (has x (single q))))
        there x = has_inter x M ((heard0 ∩ requests) ∖ single q) ∙ ap (λ (b : Bool). has x M && b) (has_diff x (heard0 ∩ requests) (single q) ∙ ap (λ (b : Bool). b && not (has x (single q))) (has_inter x heard0 requests))

        turn : (x : ℕ) (i own : Bool) → has x M ≡ i → has x (single q) ≡ own → (i && ((has x heard0 && has x requests) && not own)) ≡ (i && (has x requests && not own))
        turn x true true m o = and-false (has x heard0 && has x requests) ∙ sym (and-false (has x requests))
        turn x true false m o = ap (λ (b : Bool). (b && has x requests) && true) (heard e x m o)
        turn x false own m o = refl

    go : (b : Bool) → eqb view M ≡ b → (not C.quiet || (not b || (own || not (eqb (M ∩ ((heard0 ∩ requests) ∖ single q)) 0)))) ≡ (not C.quiet || (not b || (own || not (eqb (M ∩ (requests ∖ single q)) 0))))
    go true k = ap (λ (m : ℕ). not C.quiet || (own || not (eqb m 0))) (both (eqb-true k))
    go false k = refl
