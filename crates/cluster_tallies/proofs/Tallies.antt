-- Tallies from votes grouped by their value, and what each node decides by them. Assumes nothing.
use mathlib.Core.Path.{◌≡◌, refl, sym, ap, ap₂, subst, ◌∙◌}
use mathlib.Core.Logic.{⊎_elim}
use mathlib.Core.Bool.{Bool, true, false, not, ◌&&◌, ◌||◌, cond, false≢true}
use mathlib.Core.List.{List}
use mathlib.Core.Option.{Option, some}
use Prim.Native.Nat.{ℕ, ◌<◌, ◌≤◌}
use native.Mathlib.Omega.{arith}
use lib.Dec.{ltb}
use lib.ListN.{get_or}
use Rattle.sets.specs.Sets.{has, single, ◌∪◌, ◌∩◌, ◌∖◌, those, subset, lowest, every}
use Rattle.sets.specs.Quorum.{quorum}
use Rattle.sets.proofs.Booleans.{both, and_l, or-e, eqb-true}
use Rattle.sets.proofs.Membership.{has_inter, has_union, has_diff, has-single, has-none, some_node, set_ext, subset_in, subset_of}
use Rattle.sets.proofs.Dropping.{drop_less}
use Rattle.sets.proofs.Nodes.{has-those, those_in, in_those, of_those, lowest_in, lowest_least, every-i, every-e}
use Rattle.state.specs.declared.State.TheVariants.{Joining}
use Rattle.rules.specs.declared.Config.{Config}
use Rattle.rules.specs.declared.Vote.{Vote}
use Rattle.rules.specs.OneCycle.{Ballots, is, voters, wins, new_set, new_group, with_own, enters_with, member_decides, joiner_decides}
use Rattle.rules.specs.Ballots.{vote_at, ballots_of, fits_at, agrees_at, equal_to, OneVote}
use Rattle.rules.proofs.Votes.{is_eq, is_self}
use Rattle.rules.proofs.States.{none-some, some_inj}
use Rattle.rules.proofs.Slots.{equal_voters, slot-full, slot-empty, slots_with}
use Rattle.rules.proofs.Own.{wins_by, decides-on}
use Rattle.rules.proofs.Entering.{fits_full, enters_none, enters_on}
use Rattle.cluster_tallies.specs.Grouped.{Alike, Grouped, Within, spread_at, own_tally, member_with, entrant_with}

and_no : (a : Bool) → (a && false) ≡ false
and_no true = refl
and_no false = refl

and_yes : (a : Bool) → (a && true) ≡ a
and_yes true = refl
and_yes false = refl

-- a part of what is inside is inside
pub inside_less : (a b d m : ℕ) → Within a m → d ≡ a ∖ b → Within d m
inside_less a b d m w e x h = w x (and_l (has x a) (not (has x b)) (sym (has_diff x a b) ∙ ap (has x) (sym e) ∙ h))

module _ (numbers sets bases views : List ℕ) (n voting : ℕ) where
  -- the members that cast a vote are alike
  pub equal-alike : (m : ℕ) (v : Vote) → m ≡ equal_to numbers sets bases views n voting v → Alike numbers sets bases views n voting m
  equal-alike m v f j g h =
      let w = of_those j n (λ x. is v (ballots_of numbers sets bases views voting x)) (ap (has j) (sym f) ∙ h) in
      let z : vote_at numbers sets bases views j ≡ v = some_inj (sym (slot-full numbers sets bases views voting j g) ∙ is_eq v (ballots_of numbers sets bases views voting j) w.1) in
      f ∙ ap (λ (x : Vote). those n (λ y. is x (ballots_of numbers sets bases views voting y))) (sym z)

  pub none_alike : Alike numbers sets bases views n voting 0
  none_alike j g h = absurd (false≢true (sym (has-none j) ∙ h))

  -- what is left without those that vote as its node p does
  pub left_less : (left p m L : ℕ) (v : Vote) → p < n → has p voting ≡ true → has p left ≡ true → v ≡ vote_at numbers sets bases views p → m ≡ equal_to numbers sets bases views n voting v → L ≡ left ∖ m → L < left
  left_less left p m L v l g h e f k = drop_less p left m L h own k
    where
      own : has p m ≡ true
      own = ap (has p) f ∙ in_those p n (λ x. is v (ballots_of numbers sets bases views voting x)) l (is_self v (ballots_of numbers sets bases views voting p) (slot-full numbers sets bases views voting p g ∙ ap some (sym e)))

  -- the members of `lead` are alike, and `same` is made for the others but those left
  pub record Split (lead left : ℕ) (same : List ℕ) : Type 0 where
    pub leads : Alike numbers sets bases views n voting lead
    pub within : Within left voting
    pub made : (j : ℕ) → j < n → has j voting ≡ true → has j left ≡ false → has j lead ≡ false → get_or same j 0 ≡ equal_to numbers sets bases views n voting (vote_at numbers sets bases views j)

  pub split-none : (lead L : ℕ) (same : List ℕ) → Alike numbers sets bases views n voting lead → L ≡ voting ∖ lead → Split lead L same
  split-none lead L same alike k =
      record {
        leads = alike;
        within = inside_less voting lead L voting (λ j h. h) k;
        made = λ j h m e o. absurd (false≢true (sym e ∙ ap (has j) k ∙ has_diff j voting lead ∙ ap₂ (λ (x y : Bool). x && not y) m o));
      }

  -- of m, the members with one vote, and `lead` the one leads, and the other is stored for each of its nodes
  module _ (lead left m L a b : ℕ) (same S : List ℕ) (s : Split lead left same) (alike : Alike numbers sets bases views n voting m) (r : Bool) (ea : a ≡ cond r lead m) (eb : b ≡ cond r m lead)
      (spread : (j : ℕ) → j < n → get_or S j 0 ≡ spread_at a same j) (k : L ≡ left ∖ m) where
    each : (P : ℕ → Type 0) → P lead → P m → P a × P b
    each P x y = go r ea eb
      where
        go : (c : Bool) → a ≡ cond c lead m → b ≡ cond c m lead → P a × P b
        go true u w = (subst P (sym u) x, subst P (sym w) y)
        go false u w = (subst P (sym u) y, subst P (sym w) x)

    neither : (P : ℕ → Type 0) → P a → P b → P lead × P m
    neither P x y = go r ea eb
      where
        go : (c : Bool) → a ≡ cond c lead m → b ≡ cond c m lead → P lead × P m
        go true u w = (subst P u x, subst P w y)
        go false u w = (subst P w y, subst P u x)

    pub split-next : Split b L S
    split-next =
        record {
          leads = (each (Alike numbers sets bases views n voting) s.leads alike).1;
          within = inside_less left m L voting s.within k;
          made = λ j i g o u. spread j i ∙ go j i g o u (has j a) refl;
        }
      where
        go : (j : ℕ) → j < n → has j voting ≡ true → has j L ≡ false → has j b ≡ false → (c : Bool) → has j a ≡ c
            → cond c a (get_or same j 0) ≡ equal_to numbers sets bases views n voting (vote_at numbers sets bases views j)
        go j i g o u true h = (each (Alike numbers sets bases views n voting) s.leads alike).0 j g h
        go j i g o u false h =
            let w = neither (λ (x : ℕ). has j x ≡ false) h u in
            s.made j i g (sym (and_yes (has j left)) ∙ ap (λ (x : Bool). has j left && not x) (sym w.1) ∙ sym (has_diff j left m) ∙ ap (has j) (sym k) ∙ o) w.0

  -- nothing is left
  pub split-end : (lead left : ℕ) (same : List ℕ) → Split lead left same → left ≡ 0 → Grouped numbers sets bases views n voting lead same
  split-end lead left same s z p l m = go (has p lead) refl
    where
      go : (a : Bool) → has p lead ≡ a → cond a lead (get_or same p 0) ≡ equal_to numbers sets bases views n voting (vote_at numbers sets bases views p)
      go true a = s.leads p m a
      go false a = s.made p l m (ap (has p) z ∙ has-none p) a

  -- who is among those with the vote of q is a member that cast it
  pub cast-it : (lead : ℕ) (same : List ℕ) → Grouped numbers sets bases views n voting lead same → (q x : ℕ) → q < n → has q voting ≡ true → has x (spread_at lead same q) ≡ true
      → (has x voting ≡ true) × (vote_at numbers sets bases views x ≡ vote_at numbers sets bases views q)
  cast-it lead same grouped q x l i h = go (has x voting) refl
    where
      slot : ballots_of numbers sets bases views voting x ≡ some (vote_at numbers sets bases views q)
      slot =
          is_eq (vote_at numbers sets bases views q) (ballots_of numbers sets bases views voting x)
          (of_those x n (λ y. is (vote_at numbers sets bases views q) (ballots_of numbers sets bases views voting y)) (ap (has x) (sym (grouped q l i)) ∙ h)).1

      go : (b : Bool) → has x voting ≡ b → (b ≡ true) × (vote_at numbers sets bases views x ≡ vote_at numbers sets bases views q)
      go true e = (refl, some_inj (sym (slot-full numbers sets bases views voting x e) ∙ slot))
      go false e = absurd (none-some (sym (slot-empty numbers sets bases views voting x e) ∙ slot))

  -- the members of `lead` cast one vote
  pub lead-one : (lead : ℕ) (same : List ℕ) (present : ℕ) → Within present voting → Grouped numbers sets bases views n voting lead same → OneVote numbers sets bases views n present lead
  lead-one lead same present inside grouped p x lp lx hp hx ip ix =
      sym (cast-it lead same grouped p x lp (inside p hp) (ap (λ (c : Bool). has x (cond c lead (get_or same p 0))) ip ∙ ix)).1

module _ (numbers sets bases views : List ℕ) (n voting present : ℕ) (inside : Within present voting) where
  arrived-is : (v : Vote) (x : ℕ) → has x present ≡ true → is v (ballots_of numbers sets bases views voting x) ≡ is v (ballots_of numbers sets bases views present x)
  arrived-is v x h = ap (is v) (slot-full numbers sets bases views voting x (inside x h) ∙ sym (slot-full numbers sets bases views present x h))

  pub tally-voters : (v : Vote) → equal_to numbers sets bases views n voting v ∩ present ∩ v.group.set ≡ voters n (ballots_of numbers sets bases views present) v
  tally-voters v = equal_voters n (those n sent ∩ present) (ballots_of numbers sets bases views present) v (set_ext (λ x.
      has_inter x (those n sent) present ∙ ap (λ (y : Bool). y && has x present) (has-those x n sent) ∙ go x (has x present) refl ∙ sym (has-those x n came)))
    where
      sent : ℕ → Bool
      sent x = is v (ballots_of numbers sets bases views voting x)

      came : ℕ → Bool
      came x = is v (ballots_of numbers sets bases views present x)

      go : (x : ℕ) (a : Bool) → has x present ≡ a → ((ltb x n && sent x) && a) ≡ (ltb x n && came x)
      go x true h = and_yes (ltb x n && sent x) ∙ ap (λ (y : Bool). ltb x n && y) (arrived-is v x h)
      go x false h = and_no (ltb x n && sent x) ∙ sym (ap (λ (o : Option Vote). ltb x n && is v o) (slot-empty numbers sets bases views present x h) ∙ and_no (ltb x n))

  module _ (lead : ℕ) (same : List ℕ) (grouped : Grouped numbers sets bases views n voting lead same) where
    -- the tally t of the vote v of a member p, among those that cast it
    pub slot-voters : (p t votes : ℕ) (v : Vote) → p < n → has p voting ≡ true → v ≡ vote_at numbers sets bases views p → votes ≡ spread_at lead same p → t ≡ votes ∩ present ∩ v.group.set
        → t ≡ voters n (ballots_of numbers sets bases views present) v
    slot-voters p t votes v h m e o k =
        k ∙ ap (λ (x : ℕ). x ∩ present ∩ v.group.set) (o ∙ grouped p h m ∙ ap (equal_to numbers sets bases views n voting) (sym e)) ∙ tally-voters v

    pub slot-wins : (p t votes : ℕ) (v : Vote) (r : Bool) → p < n → has p present ≡ true → v ≡ vote_at numbers sets bases views p → votes ≡ spread_at lead same p → t ≡ votes ∩ present ∩ v.group.set
        → r ≡ quorum t v.group.base → r ≡ wins n (ballots_of numbers sets bases views present) v
    slot-wins p t votes v r h m e o k f = wins_by n t (ballots_of numbers sets bases views present) v r (slot-voters p t votes v h (inside p m) e o k) f

module _ (numbers sets bases views : List ℕ) (C : Config) (voting present : ℕ) (inside : Within present voting) (lead : ℕ) (same : List ℕ) (grouped : Grouped numbers sets bases views C.nodes voting lead same) where
  -- ---- a joining node

  module _ (q fit : ℕ) (e : fit ≡ those C.nodes (fits_at C.nodes q (ballots_of numbers sets bases views present))) where
    abbrev pub fits_slot : ℕ → Bool
    fits_slot = fits_at C.nodes q (ballots_of numbers sets bases views present)

    pub enters-nowhere : fit ≡ 0 → joiner_decides C q (ballots_of numbers sets bases views present) ≡ Joining
    enters-nowhere z =
        enters_none C q (ballots_of numbers sets bases views present) (λ p h. sym (those_in p C.nodes fits_slot h) ∙ ap (has p) (sym e ∙ z) ∙ has-none p)

    module _ (first : ℕ) (some_fit : fit ≡ 0 → ⊥) (low : first ≡ lowest 64 (λ x. has x fit)) (small : C.nodes ≤ 64) where
      pub first_fits : (first < C.nodes) × (fits_slot first ≡ true)
      first_fits =
          let x = some_node fit some_fit in
          let w = of_those x.0 C.nodes fits_slot (ap (has x.0) (sym e) ∙ x.1) in
          let l : x.0 < C.nodes = w.0 in
          let k = lowest_in 64 x.0 (λ y. has y fit) (omega arith) x.1 in
          of_those first C.nodes fits_slot (ap₂ has low (sym e) ∙ k.1)

      pub first-present : has first present ≡ true
      first-present = fits_full numbers sets bases views present C.nodes q first first_fits.1

      none_before : (p : ℕ) → p < first → fits_slot p ≡ false
      none_before p h =
          let l : p < C.nodes = omega (arith, first_fits.0) in
          let k : p < lowest 64 (λ x. has x fit) = subst (λ (x : ℕ). p < x) low h in
          sym (those_in p C.nodes fits_slot l) ∙ ap (has p) (sym e) ∙ lowest_least 64 p (λ x. has x fit) k

      -- all that fit are equal to the first if they are among those with its vote
      pub enters-with : (votes : ℕ) (v : Vote) (r : Bool) → v ≡ vote_at numbers sets bases views first → votes ≡ spread_at lead same first → r ≡ subset fit votes
          → joiner_decides C q (ballots_of numbers sets bases views present) ≡ cond r (enters_with C (ballots_of numbers sets bases views present) v) Joining
      enters-with votes v r k o f =
          enters_on C q (ballots_of numbers sets bases views present) first v r first_fits.0 none_before first_fits.1
          (slot-full numbers sets bases views present first first-present ∙ ap some (sym k)) (f ∙ ap (subset fit) alike-first ∙ both (subset fit E) (every C.nodes (agrees_at C.nodes q b v)) to from)
        where
          b : Ballots
          b = ballots_of numbers sets bases views present

          E : ℕ
          E = equal_to numbers sets bases views C.nodes voting v

          alike-first : votes ≡ E
          alike-first = o ∙ grouped first first_fits.0 (inside first first-present) ∙ ap (equal_to numbers sets bases views C.nodes voting) (sym k)

          to : subset fit E ≡ true → every C.nodes (agrees_at C.nodes q b v) ≡ true
          to s = every-i C.nodes (agrees_at C.nodes q b v) (λ p h. go p h (fits_at C.nodes q b p) refl)
            where
              go : (p : ℕ) → p < C.nodes → (a : Bool) → fits_at C.nodes q b p ≡ a → (not a || is v (b p)) ≡ true
              go p h true a =
                  let i = of_those p C.nodes (λ x. is v (ballots_of numbers sets bases views voting x)) (subset_in fit E s p (ap (has p) e ∙ in_those p C.nodes fits_slot h a)) in
                  sym (arrived-is numbers sets bases views C.nodes voting present inside v p (fits_full numbers sets bases views present C.nodes q p a)) ∙ i.1
              go p h false a = refl

          from : every C.nodes (agrees_at C.nodes q b v) ≡ true → subset fit E ≡ true
          from s = subset_of fit E (λ p h.
              let w = of_those p C.nodes fits_slot (ap (has p) (sym e) ∙ h) in
              let y : is v (b p) ≡ true = ap (λ (x : Bool). not x || is v (b p)) (sym w.1) ∙ every-e C.nodes p (agrees_at C.nodes q b v) w.0 s in
              in_those p C.nodes (λ x. is v (ballots_of numbers sets bases views voting x)) w.0 (arrived-is numbers sets bases views C.nodes voting present inside v p (fits_full numbers sets bases views present C.nodes q p w.1) ∙ y))

  -- one that enters with the group that the vote v of the member p gives
  pub entrant-with : (p t votes : ℕ) (v : Vote) → p < C.nodes → has p voting ≡ true → v ≡ vote_at numbers sets bases views p → votes ≡ spread_at lead same p → t ≡ votes ∩ present ∩ v.group.set
      → entrant_with C v t ≡ enters_with C (ballots_of numbers sets bases views present) v
  unfolding new_group new_set
  entrant-with p t votes v h m e o k = ap (entrant_with C v) (slot-voters numbers sets bases views C.nodes voting present inside lead same grouped p t votes v h m e o k)

  -- ---- a member

  module _ (q m votes : ℕ) (own : Vote) (l : q < C.nodes) (i : has q voting ≡ true) (e : own ≡ vote_at numbers sets bases views q) (ev : votes ≡ spread_at lead same q)
      (em : m ≡ own_tally votes own.group.set present q) where
    -- the own vote's voters
    mine : m ≡ voters C.nodes (with_own q own (ballots_of numbers sets bases views present)) own
    mine =
        em ∙ ap (λ (x : ℕ). own_tally x own.group.set present q) (ev ∙ grouped q l i ∙ ap (equal_to numbers sets bases views C.nodes voting) (sym e)) ∙ tally-voters numbers sets bases views C.nodes voting (present ∪ single q) with-own own
        ∙ ap (λ (b : Ballots). voters C.nodes b own) (slots_with numbers sets bases views present q ∙ ap (λ (v : Vote). with_own q v (ballots_of numbers sets bases views present)) (sym e))
      where
        with-own : Within (present ∪ single q) voting
        with-own x h = ⊎_elim (inside x) (λ k. let z : x ≡ q = eqb-true (sym (has-single x q) ∙ k) in rw z i) (or-e (has x present) (has x (single q)) (sym (has_union x present (single q)) ∙ h))

    pub own-wins : (u : Bool) → u ≡ quorum m own.group.base → u ≡ wins C.nodes (with_own q own (ballots_of numbers sets bases views present)) own
    own-wins u = wins_by C.nodes m (with_own q own (ballots_of numbers sets bases views present)) own u mine

    pub goes_on : quorum m own.group.base ≡ true → member_with C own m ≡ member_decides C q (vote_at numbers sets bases views q) (ballots_of numbers sets bases views present)
    goes_on enough =
        sym (decides-on C q own (ballots_of numbers sets bases views present) m mine (sym (own-wins _ refl) ∙ enough))
        ∙ ap (λ (v : Vote). member_decides C q v (ballots_of numbers sets bases views present)) e
