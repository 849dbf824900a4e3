-- Rule 5: each V is tallied among the votes with the group g that arrived, until one has a quorum. Assumes nothing.
use mathlib.Core.Path.{◌≡◌, refl, sym, ap, ◌∙◌}
use mathlib.Core.Logic.{◌⊎◌, inl, inr, ⊎_elim}
use mathlib.Core.Bool.{Bool, true, false, not, ◌&&◌, ◌||◌, cond, false≢true}
use mathlib.Core.List.{List}
use mathlib.Core.Option.{Option, none, some}
use Prim.Native.Nat.{ℕ, ◌<◌, ◌≤◌}
use lib.Dec.{eqb, ltb}
use lib.ListN.{get_or}
use Rattle.sets.specs.Sets.{has, single, ◌∪◌, ◌∩◌, ◌∖◌, below, lowest, any}
use Rattle.sets.specs.Quorum.{quorum}
use Rattle.sets.proofs.Booleans.{eqb_self, eqb-true, ltb-true, ltb-lt, and_l, and_r, and_i, or-e, or_l, or_r, not_f, not-i}
use Rattle.sets.proofs.Membership.{◌⊆◌, has_union, has_inter, has_diff, has-single, has-none, set_ext}
use Rattle.sets.proofs.Nodes.{has-below, any-i}
use Rattle.sets.proofs.Quorum.{quorum_mono}
use Rattle.sets.proofs.Dropping.{drop_less, lowest_node}
use Rattle.state.specs.declared.Group.{Group}
use Rattle.rules.specs.declared.Vote.{Vote}
use Rattle.rules.specs.OneCycle.{Ballots, same_group, is, voters, wins, rival}
use Rattle.rules.specs.Ballots.{vote_at, ballots_of, OneVote}
use Rattle.rules.proofs.Votes.{group-eq, group_self, is_eq, is_self, voters-sub, voters-is, in_voters}
use Rattle.rules.proofs.States.{none-some, some_inj}
use Rattle.rules.proofs.Counting.{no, any_none, quorum-none, quorum-some, quorum_node}
use Rattle.rules.proofs.Slots.{slot-full, slot-empty}

-- K, the slots that are known to hold the vote of slot p, has p
module _ (lead p K : ℕ) (e : K ≡ cond (has p lead) lead (single p)) where
  own : has p K ≡ true
  own = ap (has p) e ∙ go (has p lead) refl
    where
      go : (a : Bool) → has p lead ≡ a → has p (cond a lead (single p)) ≡ true
      go true i = i
      go false i = has-single p p ∙ eqb_self p

  -- so that each turn leaves less of the rest, and of those left
  pub rest-less : (rest T R : ℕ) → has p rest ≡ true → T ≡ K ∩ rest → R ≡ rest ∖ T → R < rest
  rest-less rest T R h et er = drop_less p rest T R h (ap (has p) et ∙ has_inter p K rest ∙ and_i (has p K) (has p rest) own h) er

  pub left_less : (left m D L : ℕ) → has p left ≡ true → D ≡ K ∪ m → L ≡ left ∖ D → L < left
  left_less left m D L h ed el = drop_less p left D L h (ap (has p) ed ∙ has_union p K m ∙ or_l (has p K) (has p m) own) el

module _ (numbers sets bases views : List ℕ) (n present : ℕ) (g : Group) where
  abbrev pub arrived : Ballots
  arrived = ballots_of numbers sets bases views present

  -- the senders left are in the set of g, and with a vote that wins all its voters are
  pub record Tried (left : ℕ) : Type 0 where
    pub within : (x : ℕ) → has x left ≡ true → (x < n) × (has x present ≡ true) × (has x g.set ≡ true)
    pub kept : (v : Vote) → v.group ≡ g → wins n arrived v ≡ true → ◌⊆◌ (voters n arrived v) left

  -- of those left with the vote v all were counted but the rest, and they are no quorum
  pub record Counted (v : Vote) (left m rest : ℕ) : Type 0 where
    pub inside : ◌⊆◌ rest left
    pub voted : (x : ℕ) → has x m ≡ true → (has x left ≡ true) × (arrived x ≡ some v)
    pub all : (x : ℕ) → has x left ≡ true → arrived x ≡ some v → has x rest ≡ false → has x m ≡ true
    pub few : quorum m g.base ≡ false

  full : (x : ℕ) → has x present ≡ true → arrived x ≡ some (vote_at numbers sets bases views x)
  full = slot-full numbers sets bases views present

  -- a slot with a vote is there
  there : (x : ℕ) (v : Vote) → arrived x ≡ some v → has x present ≡ true
  there x v e = go (has x present) refl
    where
      go : (a : Bool) → has x present ≡ a → a ≡ true
      go true h = refl
      go false h = absurd (none-some (sym (slot-empty numbers sets bases views present x h) ∙ e))

  pub tried-none : (a left : ℕ) → a ≡ present ∩ g.set → left ≡ below n a → Tried left
  tried-none a left ea e =
      record {
        within = λ x h.
            let w = sym (at x) ∙ h in
            let i = and_r (ltb x n) (has x present && has x g.set) w in
            (ltb-lt (and_l (ltb x n) (has x present && has x g.set) w), and_l (has x present) (has x g.set) i, and_r (has x present) (has x g.set) i);
        kept = λ v k w x h.
            let i = voters-is n arrived v x h in
            at x ∙ and_i (ltb x n) (has x present && has x g.set) (ltb-true i.0) (and_i (has x present) (has x g.set) (there x v i.1) (ap (λ (y : Group). has x y.set) (sym k) ∙ voters-sub n arrived v x h));
      }
    where
      at : (x : ℕ) → has x left ≡ (ltb x n && (has x present && has x g.set))
      at x = ap (has x) e ∙ has-below x n a ∙ ap (λ (y : Bool). ltb x n && y) (ap (has x) ea ∙ has_inter x present g.set)

  -- a vote with the group g whose voters are among too few does not win
  loses : (v : Vote) (S : ℕ) → v.group ≡ g → quorum S g.base ≡ false → (wins n arrived v ≡ true → ◌⊆◌ (voters n arrived v) S) → wins n arrived v ≡ false
  unfolding wins
  loses v S k f part = no (wins n arrived v) (λ w. false≢true (sym f ∙ quorum_mono (voters n arrived v) S g.base (part w) (ap (λ (y : Group). quorum (voters n arrived v) y.base) (sym k) ∙ w)))

  -- too few are left for a quorum
  pub tried-end : (left : ℕ) → Tried left → quorum left g.base ≡ false → any n (λ p. rival n arrived g (arrived p)) ≡ false
  tried-end left s f = any_none n (λ p. rival n arrived g (arrived p)) (λ p l. go (arrived p))
    where
      go : (o : Option Vote) → rival n arrived g o ≡ false
      go none = refl
      go (some v) = no (same_group g v.group && wins n arrived v) (λ e.
          let k : v.group ≡ g = sym (group-eq g v.group (and_l (same_group g v.group) (wins n arrived v) e)) in
          false≢true (sym (loses v left k f (s.kept v k)) ∙ and_r (same_group g v.group) (wins n arrived v) e))

  pub counted_none : (v : Vote) (left : ℕ) → Counted v left 0 left
  counted_none v left =
      record {
        inside = λ x h. h;
        voted = λ x h. absurd (false≢true (sym (has-none x) ∙ h));
        all = λ x h k f. absurd (false≢true (sym f ∙ h));
        few = quorum-none g.base;
      }

  -- the candidate is one of those left
  pub candidate-in : (left lead k : ℕ) → n ≤ 64 → Tried left → quorum left g.base ≡ true → k ≡ lowest 64 (λ x. has x (cond (eqb (left ∩ lead) 0) left (left ∩ lead))) → (k < n) × (has k left ≡ true)
  candidate-in left lead k small s some_left e = go (eqb (left ∩ lead) 0) refl e
    where
      part : (x : ℕ) → has x (left ∩ lead) ≡ true → has x left ≡ true
      part x h = and_l (has x left) (has x lead) (sym (has_inter x left lead) ∙ h)

      go : (a : Bool) → eqb (left ∩ lead) 0 ≡ a → k ≡ lowest 64 (λ x. has x (cond a left (left ∩ lead))) → (k < n) × (has k left ≡ true)
      go true a l = lowest_node n left k small (λ x h. (s.within x h).0) (quorum-some left g.base some_left) l
      go false a l =
          let w = lowest_node n (left ∩ lead) k small (λ x h. (s.within x (part x h)).0) (λ z. false≢true (sym a ∙ ap (λ (x : ℕ). eqb x 0) z)) l in
          (w.0, part k w.1)

  -- ---- the slots of `lead` hold one vote

  module _ (lead : ℕ) (one : OneVote numbers sets bases views n present lead) where
    -- the slots that are known to hold the vote of slot p do
    alike : (left p K : ℕ) → Tried left → has p left ≡ true → K ≡ cond (has p lead) lead (single p) → (x : ℕ) → has x left ≡ true → has x K ≡ true → arrived x ≡ arrived p
    alike left p K s h e x i k = go (has p lead) refl (ap (has x) (sym e) ∙ k)
      where
        go : (a : Bool) → has p lead ≡ a → has x (cond a lead (single p)) ≡ true → arrived x ≡ arrived p
        go true a j =
            let wx = s.within x i in
            let wp = s.within p h in
            full x wx.1 ∙ ap {B = Option Vote} some (one x p wx.0 wp.0 wx.1 wp.1 j a) ∙ sym (full p wp.1)
        go false a j = let z : x ≡ p = eqb-true (sym (has-single x p) ∙ j) in ap arrived z

    -- the next of the rest, slot p, and those known to hold its vote
    module _ (v : Vote) (left m rest p K T : ℕ) (c : Bool) (P M : ℕ) (s : Tried left) (t : Counted v left m rest) (h : has p rest ≡ true) (ek : K ≡ cond (has p lead) lead (single p)) (et : T ≡ K ∩ rest)
        (ec : c ≡ is v (arrived p)) (ep : P ≡ cond c T 0) (em : M ≡ m ∪ P) where
      taken : (x : ℕ) → has x T ≡ (has x K && has x rest)
      taken x = ap (has x) et ∙ has_inter x K rest

      -- who is counted now cast v
      cast : (x : ℕ) → has x P ≡ true → (has x left ≡ true) × (arrived x ≡ some v)
      cast x i = go c refl (ap (has x) (sym ep) ∙ i)
        where
          go : (a : Bool) → c ≡ a → has x (cond a T 0) ≡ true → (has x left ≡ true) × (arrived x ≡ some v)
          go true a j =
              let w = sym (taken x) ∙ j in
              let l = t.inside x (and_r (has x K) (has x rest) w) in
              (l, alike left p K s (t.inside p h) ek x l (and_l (has x K) (has x rest) w) ∙ is_eq v (arrived p) (sym ec ∙ a))
          go false a j = absurd (false≢true (sym (has-none x) ∙ j))

      counts : (x : ℕ) → has x M ≡ true → (has x left ≡ true) × (arrived x ≡ some v)
      counts x i = ⊎_elim (t.voted x) (cast x) (or-e (has x m) (has x P) (sym (ap (has x) em ∙ has_union x m P) ∙ i))

      -- they make a quorum
      pub counted-won : v.group ≡ g → (d : Bool) → d ≡ (c && quorum M g.base) → d ≡ true → any n (λ x. rival n arrived g (arrived x)) ≡ true
      unfolding wins
      counted-won k d ed f =
          let e : quorum M g.base ≡ true = and_r c (quorum M g.base) (sym ed ∙ f) in
          let x = quorum_node M g.base e in
          let w = counts x.0 x.1 in
          any-i n x.0 (λ y. rival n arrived g (arrived y)) (s.within x.0 w.0).0 (ap (rival n arrived g) w.1
          ∙ and_i (same_group g v.group) (wins n arrived v) (ap (same_group g) k ∙ group_self g)
          (quorum_mono M (voters n arrived v) v.group.base part (ap (λ (y : Group). quorum M y.base) k ∙ e)))
        where
          part : ◌⊆◌ M (voters n arrived v)
          part x i =
              let w = counts x i in
              let l = s.within x w.0 in
              in_voters n arrived v x l.0 (ap (λ (y : Group). has x y.set) k ∙ l.2) w.1

      -- they do not, and the rest follows
      pub counted_next : (R : ℕ) (d : Bool) → R ≡ rest ∖ T → d ≡ (c && quorum M g.base) → d ≡ false → Counted v left M R
      counted_next R d er ed f =
          record {
            inside = λ x i. t.inside x (and_l (has x rest) (not (has x T)) (sym (left_over x) ∙ i));
            voted = counts;
            all = λ x i k j. ap (has x) em ∙ has_union x m P ∙ go x i k (has x rest) refl (sym (left_over x) ∙ j);
            few = still c refl (sym ed ∙ f);
          }
        where
          left_over : (x : ℕ) → has x R ≡ (has x rest && not (has x T))
          left_over x = ap (has x) er ∙ has_diff x rest T

          go : (x : ℕ) → has x left ≡ true → arrived x ≡ some v → (a : Bool) → has x rest ≡ a → (a && not (has x T)) ≡ false → (has x m || has x P) ≡ true
          go x i k true a j =
              let w : has x T ≡ true = not_f (has x T) j in
              let y : is v (arrived p) ≡ true = is_self v (arrived p) (sym (alike left p K s (t.inside p h) ek x i (and_l (has x K) (has x rest) (sym (taken x) ∙ w))) ∙ k) in
              or_r (has x m) (has x P) (ap (has x) ep ∙ ap (λ (b : Bool). has x (cond b T 0)) (ec ∙ y) ∙ w)
          go x i k false a j = or_l (has x m) (has x P) (t.all x i k a)

          still : (a : Bool) → c ≡ a → (a && quorum M g.base) ≡ false → quorum M g.base ≡ false
          still true a j = j
          still false a j = ap (λ (x : ℕ). quorum x g.base) (em ∙ set_ext (λ x. has_union x m P ∙ nothing x)) ∙ t.few
            where
              or_nothing : (y : Bool) → (y || false) ≡ y
              or_nothing true = refl
              or_nothing false = refl

              nothing : (x : ℕ) → (has x m || has x P) ≡ has x m
              nothing x = ap (λ (y : Bool). has x m || y) (ap (has x) (ep ∙ ap (λ (b : Bool). cond b T 0) a) ∙ has-none x) ∙ or_nothing (has x m)

    -- the candidate, slot k: all with its V were looked at
    module _ (left k m rest K D L : ℕ) (s : Tried left) (h : has k left ≡ true) (t : Counted (record { group = g; view = get_or views k 0 }) left m rest) (z : rest ≡ 0) (ek : K ≡ cond (has k lead) lead (single k)) (ed : D ≡ K ∪ m) (el : L ≡ left ∖ D) where
      abbrev candidate : Vote
      candidate = record { group = g; view = get_or views k 0 }

      dropped : (x : ℕ) → has x D ≡ (has x K || has x m)
      dropped x = ap (has x) ed ∙ has_union x K m

      lost : wins n arrived candidate ≡ false
      lost = loses candidate m refl t.few (λ w x i. t.all x (s.kept candidate refl w x i) (voters-is n arrived candidate x i).1 (ap (has x) z ∙ has-none x))

      pub tried-next : Tried L
      tried-next =
          record {
            within = λ x i. s.within x (and_l (has x left) (not (has x D)) (sym (rest_of x) ∙ i));
            kept = λ v e w x i. rest_of x ∙ and_i (has x left) (not (has x D)) (s.kept v e w x i) (not-i (has x D) (no (has x D) (λ j. other v e w x (s.kept v e w x i) (voters-is n arrived v x i).1 (or-e (has x K) (has x m) (sym (dropped x) ∙ j)))));
          }
        where
          rest_of : (x : ℕ) → has x L ≡ (has x left && not (has x D))
          rest_of x = ap (has x) el ∙ has_diff x left D

          wins-not : (v : Vote) → wins n arrived v ≡ true → v ≡ candidate → ⊥
          wins-not v w e = false≢true (sym lost ∙ ap (wins n arrived) (sym e) ∙ w)

          -- no voter of a vote that wins is dropped
          other : (v : Vote) → v.group ≡ g → wins n arrived v ≡ true → (x : ℕ) → has x left ≡ true → arrived x ≡ some v → (has x K ≡ true) ⊎ (has x m ≡ true) → ⊥
          other v e w x i a (inl j) =
              let u : v ≡ vote_at numbers sets bases views k = some_inj (sym a ∙ alike left k K s h ek x i j ∙ full k (s.within k h).1) in
              wins-not v w (λ y. record { group = e y; view = (u y).view })
          other v e w x i a (inr j) = wins-not v w (some_inj (sym a ∙ (t.voted x j).1))

-- ---- by what the loops keep: the next candidate is a node that is left, and the next voter one of the rest

module _ {numbers sets bases views : List ℕ} {n present : ℕ} {g : Group} {left : ℕ} (small : n ≤ 64) (s : Tried numbers sets bases views n present g left) where
  pub next-candidate : (lead k : ℕ) (r : Bool) → r ≡ quorum left g.base → r ≡ true → k ≡ lowest 64 (λ x. has x (cond (eqb (left ∩ lead) 0) left (left ∩ lead)))
      → (k < n) × (has k left ≡ true)
  next-candidate lead k r e t = candidate-in numbers sets bases views n present g left lead k small s (sym e ∙ t)

  pub next-voter : {v : Vote} {m rest p : ℕ} → Counted numbers sets bases views n present g v left m rest → (rest ≡ 0 → ⊥) → p ≡ lowest 64 (λ x. has x rest)
      → (p < n) × (has p rest ≡ true)
  next-voter {rest = rest} {p = p} t some_left e = lowest_node n rest p small (λ x h. (s.within x (t.inside x h)).0) some_left e
