-- Rule 5: the own vote beside the votes of the others, and what a member decides. Assumes nothing.
use mathlib.Core.Path.{◌≡◌, refl, sym, ap, ap₂, ◌∙◌}
use mathlib.Core.Bool.{Bool, true, false, ◌&&◌, ◌||◌, cond, false≢true}
use mathlib.Core.List.{List}
use mathlib.Core.Option.{Option, none, some}
use Prim.Native.Nat.{ℕ, ◌<◌}
use lib.Dec.{eqb, ltb}
use Rattle.sets.specs.Sets.{has, single, ◌∪◌, ◌∩◌, ◌∖◌, those, any}
use Rattle.sets.specs.Quorum.{quorum}
use Rattle.sets.proofs.Booleans.{both, eqb_self, eqb-true, ltb-true, and_l, and_r, and_i}
use Rattle.sets.proofs.Membership.{◌⊆◌, has-none, has_union, has_inter, has-single, set_ext}
use Rattle.sets.proofs.Nodes.{has-those, any-i, any-e}
use Rattle.sets.proofs.Quorum.{quorum_mono}
use Rattle.state.specs.declared.Reason.TheVariants.{NoQuorum, Outvoted}
use Rattle.state.specs.declared.Group.{Group}
use Rattle.state.specs.declared.State.TheVariants.{Out, Member}
use Rattle.rules.specs.declared.Vote.{Vote}
use Rattle.rules.specs.declared.Config.{Config}
use Rattle.rules.specs.OneCycle.{Ballots, sends_member, same_group, is, voters, wins, new_set, group_with, new_group, request_with, request_after, with_own, without, rival, member_decides, rests, silent_decides}
use Rattle.rules.specs.Ballots.{ballots_of, equal_to}
use Rattle.rules.proofs.Votes.{group-eq, vote_self, voters-is, voters-sub, in_voters}
use Rattle.rules.proofs.States.{none-some, some_inj}
use Rattle.rules.proofs.Counting.{no, any_none, quorum-none, wins_node, wins_mono}
use Rattle.rules.proofs.Slots.{slots-without, equal_voters}

has-voters : (x N : ℕ) (b : Ballots) (v : Vote) → has x (voters N b v) ≡ (ltb x N && (has x v.group.set && is v (b x)))
unfolding voters
has-voters x N b v = has-those x N (λ p. has p v.group.set && is v (b p))

and_no : (a : Bool) → (a && false) ≡ false
and_no true = refl
and_no false = refl

and_yes : (a : Bool) → (a && true) ≡ a
and_yes true = refl
and_yes false = refl

module _ (N q : ℕ) (own : Vote) (b : Ballots) where
  -- the own vote's voters: the others, and the node itself if its set holds it
  own-voters : q < N
      → voters N (with_own q own b) own ≡ cond (has q own.group.set) (single q ∪ voters N (without q b) own) (voters N (without q b) own)
  own-voters l = set_ext (λ x. go x (eqb x q) refl (has q own.group.set) refl)
    where
      W : ℕ
      W = voters N (without q b) own

      counts : ℕ → Option Vote → Bool
      counts x o = ltb x N && (has x own.group.set && is own o)

      -- at the own slot, where only the own vote is
      mine : has q (voters N (with_own q own b) own) ≡ has q own.group.set
      mine =
          let o : with_own q own b q ≡ some own = rw (eqb_self q) in
          has-voters q N (with_own q own b) own ∙ ap (counts q) o ∙ ap₂ (λ (y z : Bool). y && (has q own.group.set && z)) (ltb-true l) (vote_self own) ∙ and_yes (has q own.group.set)

      here : (s : Bool) → has q own.group.set ≡ s → has q (voters N (with_own q own b) own) ≡ has q (cond s (single q ∪ W) W)
      here true k = mine ∙ k ∙ sym (has_union q (single q) W ∙ ap (λ (y : Bool). y || has q W) (has-single q q ∙ eqb_self q))
      here false k =
          let o : without q b q ≡ none = rw (eqb_self q) in
          mine ∙ k ∙ sym (has-voters q N (without q b) own ∙ ap (counts q) o ∙ ap (λ (y : Bool). ltb q N && y) (and_no (has q own.group.set)) ∙ and_no (ltb q N))

      -- at another slot
      there : (x : ℕ) → eqb x q ≡ false → has x (voters N (with_own q own b) own) ≡ has x W
      there x e =
          let o : with_own q own b x ≡ without q b x = rw e in
          has-voters x N (with_own q own b) own ∙ ap (counts x) o ∙ sym (has-voters x N (without q b) own)

      go : (x : ℕ) (e : Bool) → eqb x q ≡ e → (s : Bool) → has q own.group.set ≡ s → has x (voters N (with_own q own b) own) ≡ has x (cond s (single q ∪ W) W)
      go x true e s k = let z : x ≡ q = eqb-true e in rw z (here s k)
      go x false e true k = there x e ∙ sym (has_union x (single q) W ∙ ap (λ (y : Bool). y || has x W) (has-single x q ∙ e))
      go x false e false k = there x e

  -- from e, those of the others that cast it
  pub own-count : (e m : ℕ) → q < N → e ≡ those N (λ p. is own (without q b p)) → m ≡ cond (has q own.group.set) (single q ∪ (e ∩ own.group.set)) (e ∩ own.group.set)
      → m ≡ voters N (with_own q own b) own
  own-count e m l ee em = em ∙ ap (λ (y : ℕ). cond (has q own.group.set) (single q ∪ y) y) (equal_voters N e (without q b) own ee) ∙ sym (own-voters l)

  -- where the own vote has no quorum, the others alone say whether another vote has one
  own-rivals : wins N (with_own q own b) own ≡ false
      → any N (λ p. rival N (with_own q own b) own.group (with_own q own b p)) ≡ any N (λ p. rival N (without q b) own.group (without q b p))
  own-rivals lost = both (any N f) (any N h) (λ e. let w = any-e N f e in to (with_own q own b w.0) w.2) (λ e. let w = any-e N h e in from w.0 w.1 (without q b w.0) refl w.2)
    where
      f : ℕ → Bool
      f p = rival N (with_own q own b) own.group (with_own q own b p)

      h : ℕ → Bool
      h p = rival N (without q b) own.group (without q b p)

      -- a slot that holds a vote other than the own one holds it among the others
      other : (v : Vote) → (own ≡ v → ⊥) → (x : ℕ) (e : Bool) → eqb x q ≡ e → cond e (some own) (b x) ≡ some v → without q b x ≡ some v
      other v n x true e k = absurd (n (some_inj k))
      other v n x false e k = rw e k

      back : (v : Vote) (x : ℕ) (e : Bool) → eqb x q ≡ e → cond e none (b x) ≡ some v → with_own q own b x ≡ some v
      back v x true e k = absurd (none-some k)
      back v x false e k = rw e k

      to : (o : Option Vote) → rival N (with_own q own b) own.group o ≡ true → any N h ≡ true
      to none e = absurd (false≢true e)
      to (some v) e =
          let enough : wins N (with_own q own b) v ≡ true = and_r (same_group own.group v.group) (wins N (with_own q own b) v) e in
          let n : own ≡ v → ⊥ = λ k. false≢true (sym lost ∙ ap (λ (x : Vote). wins N (with_own q own b) x) k ∙ enough) in
          let part : ◌⊆◌ (voters N (with_own q own b) v) (voters N (without q b) v) =
          λ x m. let w = voters-is N (with_own q own b) v x m in in_voters N (without q b) v x w.0 (voters-sub N (with_own q own b) v x m) (other v n x (eqb x q) refl w.1) in
          let still : wins N (without q b) v ≡ true = wins_mono N (with_own q own b) (without q b) v part enough in
          let x = wins_node N (without q b) v still in
          let w = voters-is N (without q b) v x.0 x.1 in
          any-i N x.0 h w.0 (ap (rival N (without q b) own.group) w.1
          ∙ and_i (same_group own.group v.group) (wins N (without q b) v) (and_l (same_group own.group v.group) (wins N (with_own q own b) v) e) still)

      from : (p : ℕ) → p < N → (o : Option Vote) → without q b p ≡ o → rival N (without q b) own.group o ≡ true → any N f ≡ true
      from p l none k e = absurd (false≢true e)
      from p l (some v) k e =
          let part : ◌⊆◌ (voters N (without q b) v) (voters N (with_own q own b) v) =
          λ x m. let w = voters-is N (without q b) v x m in in_voters N (with_own q own b) v x w.0 (voters-sub N (without q b) v x m) (back v x (eqb x q) refl w.1) in
          let enough : wins N (with_own q own b) v ≡ true =
          wins_mono N (without q b) (with_own q own b) v part (and_r (same_group own.group v.group) (wins N (without q b) v) e) in
          any-i N p f l (ap (rival N (with_own q own b) own.group) (back v p (eqb p q) refl k)
          ∙ and_i (same_group own.group v.group) (wins N (with_own q own b) v) (and_l (same_group own.group v.group) (wins N (without q b) v) e) enough)

-- ---- the same from the votes in slots

module _ (numbers sets bases views : List ℕ) (N present q : ℕ) (s d : ℕ) (es : s ≡ single q) (ed : d ≡ present ∖ s) where
  -- d holds the slots of the others
  pub others : ballots_of numbers sets bases views d ≡ without q (ballots_of numbers sets bases views present)
  others = ap (ballots_of numbers sets bases views) (ed ∙ ap (λ (x : ℕ). present ∖ x) es) ∙ slots-without numbers sets bases views present q

  -- e, those of them that cast the own vote
  pub own-tally : (own : Vote) (e m : ℕ) → q < N → e ≡ equal_to numbers sets bases views N d own → m ≡ cond (has q own.group.set) (single q ∪ (e ∩ own.group.set)) (e ∩ own.group.set)
      → m ≡ voters N (with_own q own (ballots_of numbers sets bases views present)) own
  own-tally own e m l ee em = own-count N q own (ballots_of numbers sets bases views present) e m l (ee ∙ ap (λ (b : Ballots). those N (λ p. is own (b p))) others) em

-- ---- what a member decides

-- a vote wins if its voters m are a quorum
pub wins_by : (N m : ℕ) (b : Ballots) (v : Vote) (r : Bool) → m ≡ voters N b v → r ≡ quorum m v.group.base → r ≡ wins N b v
unfolding wins
wins_by N m b v r e f = f ∙ ap (λ (x : ℕ). quorum x v.group.base) e

module _ (C : Config) (q : ℕ) (own : Vote) (b : Ballots) where
  pub decides-on : (m : ℕ) → m ≡ voters C.nodes (with_own q own b) own → wins C.nodes (with_own q own b) own ≡ true
      → member_decides C q own b ≡ Member (group_with own (m ∪ (own.view ∖ own.group.set))) (request_with C own (m ∪ (own.view ∖ own.group.set)))
  unfolding member_decides new_group new_set request_after
  decides-on m e w = rw (w, sym e)

  -- reason 2 if another vote has a quorum, else reason 1
  pub decides-out : (r : Bool) → wins C.nodes (with_own q own b) own ≡ false → r ≡ any C.nodes (λ p. rival C.nodes (without q b) own.group (without q b p))
      → member_decides C q own b ≡ cond r (Out Outvoted) (Out NoQuorum)
  unfolding member_decides
  decides-out r w e = rw w (ap (λ (x : Bool). cond x (Out Outvoted) (Out NoQuorum)) (own-rivals C.nodes q own b w ∙ sym e))

  -- a member stays only on a vote that wins
  pub stays-wins : sends_member (member_decides C q own b) ≡ true → wins C.nodes (with_own q own b) own ≡ true
  stays-wins e = go (wins C.nodes (with_own q own b) own) refl
    where
      another : Bool
      another = any C.nodes (λ p. rival C.nodes (without q b) own.group (without q b p))

      out : (r : Bool) → sends_member (cond r (Out Outvoted) (Out NoQuorum)) ≡ false
      out true = refl
      out false = refl

      go : (r : Bool) → wins C.nodes (with_own q own b) own ≡ r → r ≡ true
      go true w = refl
      go false w = sym (out another) ∙ ap sends_member (sym (decides-out another w refl)) ∙ e

-- one that did not vote halts if another vote has a quorum
pub silent_out : (C : Config) (q : ℕ) (g : Group) (b : Ballots) (r : Bool) → r ≡ any C.nodes (λ p. rival C.nodes (without q b) g (without q b p))
    → silent_decides C q g b ≡ cond r (Out Outvoted) (Member (rests g) false)
unfolding silent_decides
silent_out C q g b r e = ap (λ (x : Bool). cond x (Out Outvoted) (Member (rests g) false)) (sym e)

-- a member that did not vote goes on with its set as base where too few of its set sent a vote
pub rests_few : (C : Config) (q : ℕ) (g : Group) (b : Ballots) (came : ℕ) → ((p : ℕ) (v : Vote) → b p ≡ some v → has p came ≡ true) → quorum (came ∩ g.set) g.base ≡ false
    → silent_decides C q g b ≡ Member (rests g) false
unfolding wins
rests_few C q g b came sent few = silent_out C q g b false (sym (any_none C.nodes (λ p. rival C.nodes others g (others p)) (λ p l. go (others p))))
  where
    others : Ballots
    others = without q b

    theirs : (x : ℕ) (v : Vote) (e : Bool) → cond e none (b x) ≡ some v → b x ≡ some v
    theirs x v true k = absurd (none-some k)
    theirs x v false k = k

    part : (v : Vote) → g ≡ v.group → ◌⊆◌ (voters C.nodes others v) (came ∩ g.set)
    part v k x h =
        has_inter x came g.set ∙ and_i (has x came) (has x g.set) (sent x v (theirs x v (eqb x q) (voters-is C.nodes others v x h).1))
        (ap (λ (y : Group). has x y.set) k ∙ voters-sub C.nodes others v x h)

    go : (o : Option Vote) → rival C.nodes others g o ≡ false
    go none = refl
    go (some v) = no (same_group g v.group && wins C.nodes others v) (λ e.
        let k : g ≡ v.group = group-eq g v.group (and_l (same_group g v.group) (wins C.nodes others v) e) in
        false≢true (sym few
        ∙ quorum_mono (voters C.nodes others v) (came ∩ g.set) g.base (part v k)
        (ap (λ (y : Group). quorum (voters C.nodes others v) y.base) k ∙ and_r (same_group g v.group) (wins C.nodes others v) e)))

-- and so where no vote reached it
pub rests_alone : (C : Config) (q : ℕ) (g : Group) (b : Ballots) → ((p : ℕ) → b p ≡ none) → silent_decides C q g b ≡ Member (rests g) false
rests_alone C q g b e = rests_few C q g b 0 (λ p v k. absurd (none-some (sym (e p) ∙ k))) (ap (λ (x : ℕ). quorum x g.base) (set_ext (λ x. has_inter x 0 g.set ∙ ap (λ (y : Bool). y && has x g.set) (has-none x) ∙ sym (has-none x))) ∙ quorum-none g.base)
