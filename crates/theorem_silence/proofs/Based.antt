-- In a quiet press the base of a member that does not request is its set. Assumes nothing.
use mathlib.Core.Path.{◌≡◌, refl, sym, ap, ◌∙◌}
use mathlib.Core.Bool.{Bool, true, false, not, ◌&&◌, ◌||◌, cond, true≢false}
use mathlib.Core.List.{List, [], ◌∷◌}
use mathlib.Core.Option.{Option, none, some}
use Prim.Native.Nat.{ℕ, ◌<◌}
use Rattle.sets.specs.Sets.{has, lowest, any, every}
use Rattle.state.specs.declared.Reason.TheVariants.{Stopped, NoQuorum, Outvoted}
use Rattle.state.specs.declared.Group.{Group}
use Rattle.state.specs.declared.State.{State}
use Rattle.state.specs.declared.State.TheVariants.{Out, Joining, Member}
use Rattle.state.specs.State.{group_of, founding_group, initial}
use Rattle.rules.specs.declared.Vote.{Vote}
use Rattle.rules.specs.declared.Faults.{Faults}
use Rattle.rules.specs.declared.Config.{Config}
use Rattle.rules.specs.OneCycle.{Ballots, quietly, stopped, asks, is, wins, new_group, request_after, member_on, with_own, without, rival, member_decides, rests, silent_decides, fits, enters_with, enter_on, joiner_decides}
use Rattle.rules.specs.Faults.{Row, at, founding, rule_one, own_vote, votes_now, votes, arrived_at, decides, decisions, cycle}
use Rattle.rules.specs.Reference.{Cluster, beginning, step, after}
use Rattle.rules.proofs.Rows.{get-tabulate}
use Rattle.rules.proofs.Votes.{no_request_rests}
use Rattle.rules.proofs.States.{none-some, some_inj}
use Rattle.theorem_silence.specs.Silence.{RestsBased}

abbrev Based : State → Type 0
Based s = (g : Group) → s ≡ Member g false → g.base ≡ g.set

abbrev BasedRow : ℕ → Row → Type 0
BasedRow N row = (q : ℕ) → q < N → Based (at row q)

-- ---- who holds no group, and who requests

no_group : (s : State) → group_of s ≡ none → Based s
no_group s o g e = absurd (none-some (sym o ∙ ap group_of e))

requests : (s : State) → asks s ≡ true → Based s
requests s a g e = absurd (true≢false (sym a ∙ ap asks e))

based_group : (h : Group) (a : Bool) → (a ≡ false → h.base ≡ h.set) → Based (Member h a)
based_group h a k g e =
    let same : h ≡ g = some_inj (ap group_of e) in
    sym (ap (λ (x : Group). x.base) same) ∙ k (ap asks e) ∙ ap (λ (x : Group). x.set) same

-- ---- what a node decides, whatever it held and whatever arrived

member_based : (C : Config) (q : ℕ) (own : Vote) (arrived : Ballots) → C.quiet ≡ true → Based (member_decides C q own arrived)
unfolding member_decides
member_based C q own arrived y = go (wins n b own) (any n (λ p. rival n b own.group (b p)))
  where
    n : ℕ
    n = C.nodes

    b : Ballots
    b = with_own q own arrived

    go : (won beaten : Bool) → Based (cond won (member_on C b own) (cond beaten (Out Outvoted) (Out NoQuorum)))
    go true beaten = based_group (new_group n b own) (request_after C b own) (λ e. let r = no_request_rests C b own y e in ap (λ (g : Group). g.base) r ∙ sym (ap (λ (g : Group). g.set) r))
    go false true = no_group (Out Outvoted) refl
    go false false = no_group (Out NoQuorum) refl

silent_based : (C : Config) (q : ℕ) (g : Group) (arrived : Ballots) → Based (silent_decides C q g arrived)
unfolding silent_decides
silent_based C q g arrived = go (any C.nodes (λ p. rival C.nodes (without q arrived) g (without q arrived p)))
  where
    go : (beaten : Bool) → Based (cond beaten (Out Outvoted) (Member (rests g) false))
    go true = no_group (Out Outvoted) refl
    go false = based_group (rests g) false (λ e. refl)

joiner_based : (C : Config) (q : ℕ) (b : Ballots) → C.quiet ≡ true → Based (joiner_decides C q b)
unfolding joiner_decides
joiner_based C q b y = go (b (lowest n (λ p. fits n q b (b p))))
  where
    n : ℕ
    n = C.nodes

    go : (o : Option Vote) → Based (enter_on C q b o)
    go none = no_group Joining refl
    go (some v) = turn (fits n q b (some v) && every n (λ p. not (fits n q b (b p)) || is v (b p)))
      where
        turn : (t : Bool) → Based (cond t (enters_with C b v) Joining)
        turn true = requests (enters_with C b v) y
        turn false = no_group Joining refl

decides_based : (C : Config) (c : Faults) (r : Row) (q : ℕ) (s : State) (b : Ballots) → C.quiet ≡ true → Based (decides C c r q s b)
decides_based C c r q (Out z) b y = no_group (Out z) refl
decides_based C c r q Joining b y = joiner_based C q b y
decides_based C c r q (Member g a) b y = go (votes_now C c r q g a)
  where
    go : (t : Bool) → Based (cond t (member_decides C q (own_vote C.nodes c r q g) b) (silent_decides C q g b))
    go true = member_based C q (own_vote C.nodes c r q g) b y
    go false = silent_based C q g b

-- ---- so after every cycle, and at the beginning

cycle_based : (N : ℕ) (c : Faults) (row : Row) → BasedRow N (cycle (quietly N) c row)
unfolding cycle decisions
cycle_based N c row q l g e =
    decides_based C c r q (at r q) (arrived_at c sent q) refl g (sym (get-tabulate N q (λ x. decides C c r x (at r x) (arrived_at c sent x)) stopped l) ∙ e)
  where
    C : Config
    C = quietly N

    r : Row
    r = rule_one N c row

    sent : List (Option Vote)
    sent = votes C c r

founding_based : (N G F : ℕ) → BasedRow N (founding N G F)
unfolding founding
founding_based N G F q l g e = go (has q F) g (sym (get-tabulate N q (initial G F) stopped l) ∙ e)
  where
    go : (t : Bool) → Based (cond t (Member (founding_group G F) false) (Out Stopped))
    go true = based_group (founding_group G F) false (λ e. refl)
    go false = no_group (Out Stopped) refl

after_based : (N : ℕ) (k : Cluster) (cs : List Faults) → BasedRow N k.row → BasedRow N (after (quietly N) k cs).row
unfolding after step
after_based N k [] w = w
after_based N k (c ∷ cs) w = after_based N (step (quietly N) k c) cs (cycle_based N c k.row)

pub rests_based : (N G F : ℕ) → RestsBased N G F
unfolding beginning
rests_based N G F past q g l e = after_based N (beginning (quietly N) G F) past (founding_based N G F) q l g e
