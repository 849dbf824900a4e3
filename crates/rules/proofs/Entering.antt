-- Rule 6: which votes fit a joining node, and what it decides. Assumes nothing.
use mathlib.Core.Path.{◌≡◌, refl, sym, ap, ap₂, ◌∙◌}
use mathlib.Core.Bool.{Bool, true, false, not, ◌&&◌, cond, false≢true}
use mathlib.Core.List.{List}
use mathlib.Core.Option.{Option, none, some}
use Prim.Native.Nat.{ℕ, ◌<◌}
use native.Mathlib.Omega.{arith}
use Rattle.sets.specs.Sets.{has, ◌∖◌, lowest, every}
use Rattle.sets.proofs.Booleans.{and_r}
use Rattle.sets.proofs.Membership.{has_diff}
use Rattle.sets.proofs.Nodes.{lowest_in, lowest_least, every-e}
use Rattle.state.specs.declared.State.TheVariants.{Joining}
use Rattle.rules.specs.declared.Vote.{Vote}
use Rattle.rules.specs.declared.Config.{Config}
use Rattle.rules.specs.OneCycle.{Ballots, wins, enters_with, fits, enter_on, joiner_decides}
use Rattle.rules.specs.Ballots.{ballots_of, fits_at, agrees_at}
use Rattle.rules.proofs.Votes.{voters-is}
use Rattle.rules.proofs.Counting.{no, wins_node}
use Rattle.rules.proofs.Slots.{slot-empty}

-- whether a vote fits, from the test r that the node comes in by it
pub fits_test : (N q : ℕ) (b : Ballots) (o : Option Vote) (v : Vote) (d : ℕ) (r : Bool) → o ≡ some v → d ≡ v.view ∖ v.group.set → r ≡ has q d → fits N q b o ≡ (r && wins N b v)
fits_test N q b o v d r e k f =
    ap (fits N q b) e ∙ ap (λ (x : Bool). x && wins N b v) (sym (f ∙ ap (has q) k ∙ has_diff q v.view v.group.set))

-- a slot that fits holds a vote
pub fits_full : (numbers sets bases views : List ℕ) (present N q p : ℕ) → fits_at N q (ballots_of numbers sets bases views present) p ≡ true → has p present ≡ true
fits_full numbers sets bases views present N q p e = go (has p present) refl
  where
    go : (a : Bool) → has p present ≡ a → a ≡ true
    go true h = refl
    go false h = sym (ap (fits N q (ballots_of numbers sets bases views present)) (slot-empty numbers sets bases views present p h)) ∙ e

-- a slot whose vote does not fit leaves every vote the only one
pub agrees_unfit : (N q : ℕ) (b : Ballots) (v : Vote) (p : ℕ) → fits_at N q b p ≡ false → agrees_at N q b v p ≡ true
agrees_unfit N q b v p e = rw e

pub every_no : (n p : ℕ) (f : ℕ → Bool) → p < n → f p ≡ false → every n f ≡ false
every_no n p f h e = no (every n f) (λ k. false≢true (sym e ∙ every-e n p f h k))

-- ---- what a joining node decides

module _ (C : Config) (q : ℕ) (b : Ballots) where
  -- a vote that wins was cast by a sender, so that its slot fits
  pub enters_none : ((p : ℕ) → p < C.nodes → fits_at C.nodes q b p ≡ false) → joiner_decides C q b ≡ Joining
  unfolding joiner_decides
  enters_none f = go (b (lowest C.nodes (fits_at C.nodes q b)))
    where
      unfit : (v : Vote) → fits C.nodes q b (some v) ≡ true → ⊥
      unfit v e =
          let x = wins_node C.nodes b v (and_r (has q v.view && not (has q v.group.set)) (wins C.nodes b v) e) in
          let w = voters-is C.nodes b v x.0 x.1 in
          false≢true (sym (f x.0 w.0) ∙ ap (fits C.nodes q b) w.1 ∙ e)

      go : (o : Option Vote) → enter_on C q b o ≡ Joining
      go none = refl
      go (some v) = rw (no (fits C.nodes q b (some v)) (unfit v))

  pub enters_on : (first : ℕ) (v : Vote) (r : Bool) → first < C.nodes → ((p : ℕ) → p < first → fits_at C.nodes q b p ≡ false) → fits_at C.nodes q b first ≡ true
      → b first ≡ some v → r ≡ every C.nodes (agrees_at C.nodes q b v)
      → joiner_decides C q b ≡ cond r (enters_with C b v) Joining
  unfolding joiner_decides
  enters_on first v r l f t e k = ap (enter_on C q b) (ap b least ∙ e) ∙ ap₂ (λ (x y : Bool). cond (x && y) (enters_with C b v) Joining) (sym (ap (fits C.nodes q b) e) ∙ t) (sym k)
    where
      least : lowest C.nodes (fits_at C.nodes q b) ≡ first
      least =
          let w = lowest_in C.nodes first (fits_at C.nodes q b) l t in
          let up : lowest C.nodes (fits_at C.nodes q b) < first → ⊥ = λ h. false≢true (sym (f (lowest C.nodes (fits_at C.nodes q b)) h) ∙ w.1) in
          let down : first < lowest C.nodes (fits_at C.nodes q b) → ⊥ = λ h. false≢true (sym (lowest_least C.nodes first (fits_at C.nodes q b) h) ∙ t) in
          omega arith

-- a joining node that no vote reached stays joining
pub waits_alone : (C : Config) (q : ℕ) (b : Ballots) → ((p : ℕ) → b p ≡ none) → joiner_decides C q b ≡ Joining
unfolding joiner_decides
waits_alone C q b e = ap (enter_on C q b) (e _)
