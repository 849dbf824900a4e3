-- Rule 6: slots that fit a joining node, where one slot answers for all with its vote. Assumes nothing.
use mathlib.Core.Path.{◌≡◌, refl, sym, ap, ap₂, ◌∙◌}
use mathlib.Core.Bool.{Bool, true, false, not, ◌&&◌, ◌||◌, cond, false≢true}
use mathlib.Core.List.{List}
use mathlib.Core.Option.{some}
use Prim.Native.Nat.{ℕ, ◌<◌, ◌≤◌}
use native.Mathlib.Omega.{arith}
use lib.Dec.{ltb}
use Rattle.sets.specs.Sets.{has, ◌∪◌, ◌∩◌, ◌∖◌, those, below, lowest, every}
use Rattle.sets.specs.Quorum.{quorum}
use Rattle.sets.proofs.Booleans.{ltb-true, ltb-lt, and_l, and_r, and_i, or_r, not-e, not_f}
use Rattle.sets.proofs.Membership.{has_diff, has-none}
use Rattle.sets.proofs.Nodes.{those_in, in_those, of_those, has-below, lowest_least, every-i}
use Rattle.state.specs.declared.State.TheVariants.{Joining, Member}
use Rattle.rules.specs.declared.Config.{Config}
use Rattle.rules.specs.declared.Vote.{Vote}
use Rattle.rules.specs.OneCycle.{Ballots, is, wins, new_set, group_with, new_group, fits, enters_with, joiner_decides}
use Rattle.rules.specs.Ballots.{vote_at, ballots_of, fits_at, agrees_at}
use Rattle.rules.proofs.Votes.{is_eq, is_self}
use Rattle.rules.proofs.Slots.{equal_voters, slot-full, slot-empty}
use Rattle.rules.proofs.Entering.{fits_test, agrees_unfit, every_no, enters_none, enters_on}
use Rattle.sets.proofs.Dropping.{drop_less, lowest_node}

module _ (numbers sets bases views : List ℕ) (present : ℕ) where
  abbrev arrived : Ballots
  arrived = ballots_of numbers sets bases views present

  module _ (n q : ℕ) where
    -- of the slots `among` those are left, and none that went fits
    pub record Dropped (among left : ℕ) : Type 0 where
      pub within : (j : ℕ) → has j left ≡ true → has j among ≡ true
      pub unfit : (j : ℕ) → has j among ≡ true → has j left ≡ false → fits_at n q (ballots_of numbers sets bases views present) j ≡ false

    pub dropped-none : (among : ℕ) → Dropped among among
    dropped-none among = record { within = λ j h. h; unfit = λ j h g. absurd (false≢true (sym g ∙ h)) }

    -- the next slot p, and m, all that cast its vote
    module _ (p m : ℕ) (v : Vote) (l : p < n) (h : has p present ≡ true) (ev : v ≡ vote_at numbers sets bases views p) (em : m ≡ those n (λ x. is v (ballots_of numbers sets bases views present x))) where
      pub slot-vote : ballots_of numbers sets bases views present p ≡ some v
      slot-vote = slot-full numbers sets bases views present p h ∙ ap some (sym ev)

      own : has p m ≡ true
      own = ap (has p) em ∙ in_those p n (λ x. is v (arrived x)) l (is_self v (arrived p) slot-vote)

      pub fits-slot : (r : Bool) → r ≡ (has q (v.view ∖ v.group.set) && quorum (m ∩ v.group.set) v.group.base) → r ≡ fits_at n q (ballots_of numbers sets bases views present) p
      unfolding wins
      fits-slot r e =
          e ∙ ap (λ (x : ℕ). has q (v.view ∖ v.group.set) && quorum x v.group.base) (equal_voters n m arrived v em)
          ∙ sym (fits_test n q arrived (arrived p) v (v.view ∖ v.group.set) (has q (v.view ∖ v.group.set)) slot-vote refl refl)

      module _ (among left L : ℕ) (s : Dropped among left) (i : has p left ≡ true) (e : L ≡ left ∖ m) where
        pub dropped-less : L < left
        dropped-less = drop_less p left m L i own e

        pub dropped-next : fits_at n q (ballots_of numbers sets bases views present) p ≡ false → Dropped among L
        dropped-next no-fit =
            record {
              within = λ j g. s.within j (and_l (has j left) (not (has j m)) (sym (rest j) ∙ g));
              unfit = λ j a g. go j a (has j left) refl (sym (rest j) ∙ g);
            }
          where
            rest : (j : ℕ) → has j L ≡ (has j left && not (has j m))
            rest j = ap (has j) e ∙ has_diff j left m

            go : (j : ℕ) → has j among ≡ true → (a : Bool) → has j left ≡ a → (a && not (has j m)) ≡ false → fits_at n q arrived j ≡ false
            go j a true k g =
                let w = of_those j n (λ x. is v (arrived x)) (ap (has j) (sym em) ∙ not_f (has j m) g) in
                ap (fits n q arrived) (is_eq v (arrived j) w.1 ∙ sym slot-vote) ∙ no-fit
            go j a false k g = s.unfit j a k

  -- ---- what a joining node decides

  module _ (C : Config) (q : ℕ) where
    pub arrived-in : (a : ℕ) → a ≡ below C.nodes present → (j : ℕ) → has j a ≡ true → (j < C.nodes) × (has j present ≡ true)
    arrived-in a e j h =
        let w = sym (ap (has j) e ∙ has-below j C.nodes present) ∙ h in
        (ltb-lt (and_l (ltb j C.nodes) (has j present) w), and_r (ltb j C.nodes) (has j present) w)

    -- `rest` are the slots from the first that fits
    module _ (a rest : ℕ) (ea : a ≡ below C.nodes present) (s : Dropped C.nodes q a rest) where
      out : (j : ℕ) → j < C.nodes → has j rest ≡ false → fits_at C.nodes q arrived j ≡ false
      out j l h = go (has j present) refl
        where
          go : (x : Bool) → has j present ≡ x → fits_at C.nodes q arrived j ≡ false
          go true k = s.unfit j (ap (has j) ea ∙ has-below j C.nodes present ∙ and_i (ltb j C.nodes) (has j present) (ltb-true l) k) h
          go false k = ap (fits C.nodes q arrived) (slot-empty numbers sets bases views present j k)

      pub enters-nowhere : rest ≡ 0 → joiner_decides C q (ballots_of numbers sets bases views present) ≡ Joining
      enters-nowhere z = enters_none C q arrived (λ j l. out j l (ap (has j) z ∙ has-none j))

      module _ (first : ℕ) (small : C.nodes ≤ 64) (some_left : rest ≡ 0 → ⊥) (low : first ≡ lowest 64 (λ x. has x rest)) where
        pub first_in : (first < C.nodes) × (has first rest ≡ true) × (has first present ≡ true)
        first_in =
            let w = lowest_node C.nodes rest first small (λ j h. (arrived-in a ea j (s.within j h)).0) some_left low in
            (w.0, w.1, (arrived-in a ea first (s.within first w.1)).1)

        -- those with another vote than v
        pub others-in : (m others : ℕ) → others ≡ rest ∖ m → (j : ℕ) → has j others ≡ true → (j < C.nodes) × (has j present ≡ true)
        others-in m others e j h = arrived-in a ea j (s.within j (and_l (has j rest) (not (has j m)) (sym (ap (has j) e ∙ has_diff j rest m) ∙ h)))

        module _ (m : ℕ) (v : Vote) (fit : fits_at C.nodes q (ballots_of numbers sets bases views present) (lowest 64 (λ x. has x rest)) ≡ true) (ev : v ≡ vote_at numbers sets bases views first)
            (em : m ≡ those C.nodes (λ x. is v (ballots_of numbers sets bases views present x))) (others D : ℕ) (eo : others ≡ rest ∖ m) (t : Dropped C.nodes q others D) where
          at : (j : ℕ) → has j others ≡ (has j rest && not (has j m))
          at j = ap (has j) eo ∙ has_diff j rest m

          decided : (r : Bool) → r ≡ every C.nodes (agrees_at C.nodes q arrived v) → joiner_decides C q arrived ≡ cond r (enters_with C arrived v) Joining
          decided r e =
              enters_on C q arrived first v r first_in.0 before (ap (fits_at C.nodes q arrived) low ∙ fit) (slot-vote C.nodes q first m v first_in.0 first_in.2 ev em) e
            where
              before : (p : ℕ) → p < first → fits_at C.nodes q arrived p ≡ false
              before p l =
                  let k : p < C.nodes = omega (arith, l, first_in.0) in
                  let u : p < lowest 64 (λ x. has x rest) = omega (arith, l, low) in
                  out p k (lowest_least 64 p (λ x. has x rest) u)

          -- no other fits
          pub enters-only : (c : ℕ) → c ≡ m ∩ v.group.set → D ≡ 0 → Member (group_with v (c ∪ (v.view ∖ v.group.set))) C.quiet ≡ joiner_decides C q (ballots_of numbers sets bases views present)
          unfolding new_group new_set
          enters-only c ec z =
              ap (λ (x : ℕ). Member (group_with v (x ∪ (v.view ∖ v.group.set))) C.quiet) (ec ∙ equal_voters C.nodes m arrived v em)
              ∙ sym (decided true (sym (every-i C.nodes (agrees_at C.nodes q arrived v) (λ j l. go j l (has j m) refl (has j rest) refl))))
            where
              go : (j : ℕ) → j < C.nodes → (x : Bool) → has j m ≡ x → (y : Bool) → has j rest ≡ y → agrees_at C.nodes q arrived v j ≡ true
              go j l true g y k = or_r (not (fits_at C.nodes q arrived j)) (is v (arrived j)) (of_those j C.nodes (λ x. is v (arrived x)) (ap (has j) (sym em) ∙ g)).1
              go j l false g true k = agrees_unfit C.nodes q arrived v j (t.unfit j (at j ∙ ap₂ (λ (x y : Bool). x && not y) k g) (ap (has j) z ∙ has-none j))
              go j l false g false k = agrees_unfit C.nodes q arrived v j (out j l k)

          -- another fits
          pub enters-other : (D ≡ 0 → ⊥) → fits_at C.nodes q (ballots_of numbers sets bases views present) (lowest 64 (λ x. has x D)) ≡ true → Joining ≡ joiner_decides C q (ballots_of numbers sets bases views present)
          enters-other some-other fit-too = sym (decided false (sym (every_no C.nodes k (agrees_at C.nodes q arrived v) w.0 unlike)))
            where
              k : ℕ
              k = lowest 64 (λ x. has x D)

              w : (k < C.nodes) × (has k D ≡ true)
              w = lowest_node C.nodes D k small (λ j h. (others-in m others eo j (t.within j h)).0) some-other refl

              unlike : agrees_at C.nodes q arrived v k ≡ false
              unlike =
                  ap₂ (λ (x y : Bool). not x || y) fit-too
                  (sym (those_in k C.nodes (λ x. is v (arrived x)) w.0) ∙ ap (has k) (sym em) ∙ not-e (has k m) (and_r (has k rest) (not (has k m)) (sym (at k) ∙ t.within k w.1)))
