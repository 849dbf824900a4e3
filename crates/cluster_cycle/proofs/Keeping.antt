-- A member that stays, and those that cast its vote and count the same. Assumes nothing.
use mathlib.Core.Path.{◌≡◌, refl, sym, ap, ap₂, subst, ◌∙◌}
use mathlib.Core.Bool.{Bool, true, false, ◌&&◌, cond}
use mathlib.Core.List.{List}
use Prim.Native.Nat.{ℕ, ◌<◌}
use Rattle.std.specs.Prelude.{Option, None, Some, IfSome}
use lib.Dec.{eqb}
use lib.ListN.{get_or}
use Rattle.sets.specs.Sets.{has}
use Rattle.sets.specs.Quorum.{quorum}
use Rattle.sets.proofs.Booleans.{eqb-true, and_l, and_r}
use Rattle.state.specs.declared.Group.{Group}
use Rattle.state.specs.declared.State.{State}
use Rattle.state.specs.declared.State.TheVariants.{Member}
use Rattle.rules.specs.declared.Config.{Config}
use Rattle.rules.specs.declared.Vote.{Vote}
use Rattle.rules.specs.OneCycle.{sends_member, asks, member_decides}
use Rattle.rules.specs.Ballots.{vote_at, ballots_of, equal_to}
use Rattle.rules.proofs.Own.{stays-wins}
use Rattle.cluster_states.specs.declared.Roles.{Roles}
use Rattle.cluster_cycle.specs.declared.Followed.{Followed}
use Rattle.cluster_tallies.specs.Grouped.{Grouped, Within, spread_at, own_tally, member_with}
use Rattle.cluster_states.specs.Decided.{decided_at, held_by}
use Rattle.cluster_cycle.specs.Follows.{follows, followed_by, Worth, kept}
use Rattle.cluster_tallies.proofs.Tallies.{cast-it, own-wins, goes_on}

-- a member that is followed is the one that is kept
pub followed-some : (kept : Option Followed) (k : Followed) (present q : ℕ) → Some k ≡ followed_by kept present q → (kept ≡ Some k) × (follows k present q ≡ true)
followed-some None k present q e = cc
followed-some (Some m) k present q e = go (follows m present q) refl e
  where
    go : (b : Bool) → follows m present q ≡ b → Some k ≡ cond b (Some m) None → (Some m ≡ Some k) × (follows k present q ≡ true)
    go true h i = let same : k ≡ m = cc in (cc, ap (λ (x : Followed). follows x present q) same ∙ h)
    go false h i = cc

pub IfSome_at : (o : Option Followed) (k : Followed) (P : Followed → Type 0) → o ≡ Some k → IfSome o P → P k
IfSome_at o k P e h = subst (λ (x : Option Followed). IfSome x P) e h

module _ (numbers sets bases views : List ℕ) (C : Config) (w : Roles) (voting : ℕ) where
  module _ (lead : ℕ) (same : List ℕ) (grouped : Grouped numbers sets bases views C.nodes voting lead same) where
    member_is : (q present : ℕ) → has q voting ≡ true
        → decided_at numbers sets bases views C w voting present q ≡ member_decides C q (vote_at numbers sets bases views q) (ballots_of numbers sets bases views present)
    unfolding decided_at
    member_is q present i = rw i

    keeps : (q present : ℕ) (d : State) (k : Followed) → q < C.nodes → Within present voting → has q voting ≡ true → d ≡ decided_at numbers sets bases views C w voting present q
        → sends_member d ≡ true → k.votes ≡ spread_at lead same q → k.set ≡ get_or sets q 0 → k.counted ≡ own_tally k.votes k.set present q → k.group ≡ held_by d → k.request ≡ asks d → Worth numbers sets bases views C w voting k
    keeps q present d k l inside i e stays ev es ec eg er x others lx within f =
        member_is x others about.0 ∙ sym (goes_on numbers sets bases views C voting others within lead same grouped x k.counted k.votes own lx about.0 (sym about.1) group theirs enough) ∙ ap₂ (λ (g : Group) (a : Bool). Member g a) (sym held) (sym asked)
      where
        own : Vote
        own = vote_at numbers sets bases views q

        ours : k.counted ≡ own_tally k.votes own.group.set present q
        ours = ec ∙ ap (λ (z : ℕ). own_tally k.votes z present q) es

        decided : d ≡ member_decides C q own (ballots_of numbers sets bases views present)
        decided = e ∙ member_is q present i

        -- a member stays only with a quorum
        enough : quorum k.counted own.group.base ≡ true
        enough =
            own-wins numbers sets bases views C voting present inside lead same grouped q k.counted k.votes own l i refl ev ours _ refl
            ∙ stays-wins C q own (ballots_of numbers sets bases views present) (ap sends_member (sym decided) ∙ stays)

        gone : d ≡ member_with C own k.counted
        gone = decided ∙ sym (goes_on numbers sets bases views C voting present inside lead same grouped q k.counted k.votes own l i refl ev ours enough)

        held : k.group ≡ held_by (member_with C own k.counted)
        held = eg ∙ ap held_by gone

        asked : k.request ≡ asks (member_with C own k.counted)
        asked = er ∙ ap asks gone

        follower : has x k.votes ≡ true
        follower = and_l (has x k.votes) (eqb (own_tally k.votes k.set others x) k.counted) f

        about : (has x voting ≡ true) × (vote_at numbers sets bases views x ≡ own)
        about = cast-it numbers sets bases views C.nodes voting lead same grouped q x l i (ap (has x) (sym ev) ∙ follower)

        group : k.votes ≡ spread_at lead same x
        group = ev ∙ grouped q l i ∙ ap (equal_to numbers sets bases views C.nodes voting) (sym about.1) ∙ sym (grouped x lx about.0)

        theirs : k.counted ≡ own_tally k.votes own.group.set others x
        theirs =
            sym (eqb-true (and_r (has x k.votes) (eqb (own_tally k.votes k.set others x) k.counted) f))
            ∙ ap (λ (z : ℕ). own_tally k.votes z others x) es

    -- so what is kept stays worth
    pub kept-worth : (q present : ℕ) (d : State) (k : Option Followed) → q < C.nodes → Within present voting → d ≡ decided_at numbers sets bases views C w voting present q
        → IfSome k (Worth numbers sets bases views C w voting) → IfSome (kept q sets lead same voting present d k) (Worth numbers sets bases views C w voting)
    kept-worth q present d k l inside e worth = go (has q voting) (sends_member d) refl refl
      where
        it : Followed
        it =
            record {
              votes = spread_at lead same q;
              set = get_or sets q 0;
              counted = own_tally (spread_at lead same q) (get_or sets q 0) present q;
              group = held_by d;
              request = asks d;
            }

        go : (i s : Bool) → has q voting ≡ i → sends_member d ≡ s → IfSome (cond (i && s) (Some it) k) (Worth numbers sets bases views C w voting)
        go true true i s = keeps q present d it l inside i e s refl refl refl refl refl
        go true false i s = worth
        go false s i t = worth
