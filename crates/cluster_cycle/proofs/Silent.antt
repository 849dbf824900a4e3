-- A cycle in which nobody votes: the masks at rest, with the views as bases, which are the sets, hold what every node decides. Assumes nothing.
use mathlib.Core.Path.{◌≡◌, refl, sym, ap, ◌∙◌}
use mathlib.Core.Bool.{Bool, true, false, not, ◌&&◌, ◌||◌, cond}
use mathlib.Core.List.{List}
use mathlib.Core.Option.{none}
use Prim.Native.Nat.{ℕ, ◌<◌}
use lib.Dec.{eqb}
use lib.ListN.{get_or}
use Rattle.sets.specs.Sets.{has, ◌∖◌}
use Rattle.sets.proofs.Booleans.{eqb-true, not_f, or_f_l, or_f_r}
use Rattle.sets.proofs.Membership.{has_diff, has-none, set_ext}
use Rattle.sets.proofs.Nodes.{those_in}
use Rattle.state.specs.declared.State.TheVariants.{Joining, Member}
use Rattle.rules.specs.declared.Config.{Config}
use Rattle.rules.specs.OneCycle.{Ballots, called, will_vote, member_decides, silent_decides, joiner_decides}
use Rattle.rules.specs.Ballots.{group_at, vote_at, ballots_of}
use Rattle.rules.proofs.Own.{rests_alone}
use Rattle.rules.proofs.Entering.{waits_alone}
use Rattle.rules.proofs.Slots.{slot-empty}
use Rattle.cluster_states.specs.declared.Roles.{Roles}
use Rattle.cluster_states.specs.States.{states_of, state_at}
use Rattle.cluster_states.specs.Decided.{votes_at, voting_of, out_at, decided_at}
use Rattle.cluster_cycle.specs.Follows.{resting_roles}

nothing_less : (m x : ℕ) → m ≡ 0 → m ∖ x ≡ 0
nothing_less m x e = ap (λ (y : ℕ). y ∖ x) e ∙ set_ext (λ p. has_diff p 0 x ∙ ap (λ (b : Bool). b && not (has p x)) (has-none p) ∙ sym (has-none p))

module _ (numbers sets bases views : List ℕ) (C : Config) (w : Roles) (requests : ℕ) (unheard : List ℕ) (voting : ℕ) (e : voting ≡ voting_of C sets views w requests unheard) (nobody : voting ≡ 0) (lost missed q : ℕ)
    (l : q < C.nodes) where
  abbrev came : Ballots
  came = ballots_of numbers sets bases views (voting ∖ lost ∖ missed)

  empty : (p : ℕ) → came p ≡ none
  empty p = slot-empty numbers sets bases views (voting ∖ lost ∖ missed) p (ap (has p) (nothing_less (voting ∖ lost) missed (nothing_less voting lost nobody)) ∙ has-none p)

  -- whoever is silent sees its set
  sees : has q w.members ≡ true → get_or views q 0 ≡ get_or sets q 0
  unfolding voting_of will_vote
  sees m = eqb-true (not_f (eqb (get_or views q 0) (get_or sets q 0)) (or_f_l differs call (or_f_r (not C.quiet) (differs || call) asleep)))
    where
      differs : Bool
      differs = not (eqb (get_or views q 0) (get_or sets q 0))

      call : Bool
      call = called (get_or sets q 0) (has q w.asking) (requests ∖ get_or unheard q 0)

      votes : ℕ → Bool
      votes p = has p w.members && votes_at C sets views w.asking requests unheard p

      asleep : votes_at C sets views w.asking requests unheard q ≡ false
      asleep = sym (ap (λ (b : Bool). b && votes_at C sets views w.asking requests unheard q) m) ∙ sym (those_in q C.nodes votes l) ∙ ap (has q) (sym e ∙ nobody) ∙ has-none q

  -- what is left of the cases where nobody votes
  go : (member joins : Bool) → has q w.members ≡ member
      → cond member (Member (record { number = get_or numbers q 0; set = get_or sets q 0; base = get_or views q 0 }) false) (cond joins Joining (out_at w q))
      ≡ cond member (silent_decides C q (group_at numbers sets bases q) came) (cond joins (joiner_decides C q came) (out_at w q))
  go true joins m =
      ap (λ (x : ℕ). Member (record { number = get_or numbers q 0; set = get_or sets q 0; base = x }) false) (sees m) ∙ sym (rests_alone C q (group_at numbers sets bases q) came empty)
  go false true m = sym (waits_alone C q came empty)
  go false false m = refl

  pub rest-decided : (r : Roles) → r ≡ resting_roles w → state_at (states_of r numbers sets views) q ≡ decided_at numbers sets bases views C w voting (voting ∖ lost ∖ missed) q
  unfolding state_at decided_at
  rest-decided r z =
      ap (λ (x : Roles). state_at (states_of x numbers sets views) q) z
      ∙ ap (λ (b : Bool). cond (has q w.members) (Member (record { number = get_or numbers q 0; set = get_or sets q 0; base = get_or views q 0 }) b) (cond (has q w.joining) Joining (out_at w q))) (has-none q)
      ∙ go (has q w.members) (has q w.joining) refl
      ∙ ap (λ (b : Bool). cond b (member_decides C q (vote_at numbers sets bases views q) came)
      (cond (has q w.members) (silent_decides C q (group_at numbers sets bases q) came) (cond (has q w.joining) (joiner_decides C q came) (out_at w q))))
      (sym (ap (has q) nobody ∙ has-none q))
