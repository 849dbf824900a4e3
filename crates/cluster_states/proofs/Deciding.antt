-- The loop over the nodes: masks and arrays that hold the states of the first q nodes. Assumes nothing.
use mathlib.Core.Path.{◌≡◌, refl, sym, ap, subst, ◌∙◌}
use mathlib.Core.Bool.{cond}
use mathlib.Core.List.{List}
use Prim.Native.Nat.{ℕ, ◌+◌, ◌<◌}
use native.Mathlib.Omega.{arith}
use borrow.Author.Count.{below_none}
use lib.ListN.{length, get_or, set, length-set}
use Rattle.sets.specs.Sets.{has, those}
use Rattle.sets.proofs.Nodes.{those-none, those-next, those_in}
use Rattle.state.specs.declared.Reason.TheVariants.{Stopped, NoQuorum, Outvoted}
use Rattle.state.specs.declared.Group.{Group}
use Rattle.state.specs.declared.State.{State}
use Rattle.state.specs.declared.State.TheVariants.{Out, Joining, Member}
use Rattle.rules.specs.OneCycle.{sends_member, sends_join, asks}
use Rattle.cluster_states.specs.declared.Roles.{Roles}
use Rattle.cluster_states.specs.States.{no_roles, states_of, state_at}
use Rattle.cluster_states.specs.Decided.{held_by, is_no_quorum, is_outvoted, with_state}
use Rattle.rules.proofs.Arrays.{stored}

-- the masks w and the arrays hold the states D of the nodes below q
pub record Holds (D : ℕ → State) (q : ℕ) (w : Roles) (numbers sets bases : List ℕ) : Type 0 where
  pub members : w.members ≡ those q (λ j. sends_member (D j))
  pub asking : w.asking ≡ those q (λ j. asks (D j))
  pub joining : w.joining ≡ those q (λ j. sends_join (D j))
  pub no_quorum : w.no_quorum ≡ those q (λ j. is_no_quorum (D j))
  pub outvoted : w.outvoted ≡ those q (λ j. is_outvoted (D j))
  pub long_numbers : length numbers ≡ 64
  pub long_sets : length sets ≡ 64
  pub long_bases : length bases ≡ 64
  pub number : (j : ℕ) → j < q → get_or numbers j 0 ≡ (held_by (D j)).number
  pub set : (j : ℕ) → j < q → get_or sets j 0 ≡ (held_by (D j)).set
  pub base : (j : ℕ) → j < q → get_or bases j 0 ≡ (held_by (D j)).base

-- what the roles by default are
pub none-by_parts : (w : Roles) → (w.members ≡ 0) × ((w.asking ≡ 0) × ((w.joining ≡ 0) × ((w.no_quorum ≡ 0) × (w.outvoted ≡ 0)))) → w ≡ no_roles
none-by_parts w e =
    λ i. record { members = e.0 i; asking = e.1.0 i; joining = e.1.1.0 i; no_quorum = e.1.1.1.0 i; outvoted = e.1.1.1.1 i }

pub holds_none : (D : ℕ → State) (w : Roles) (numbers sets bases : List ℕ) → w ≡ no_roles → length numbers ≡ 64 → length sets ≡ 64 → length bases ≡ 64 → Holds D 0 w numbers sets bases
holds_none D w numbers sets bases z a b c =
    record {
      members = ap (λ (x : Roles). x.members) z ∙ those-none (λ j. sends_member (D j));
      asking = ap (λ (x : Roles). x.asking) z ∙ those-none (λ j. asks (D j));
      joining = ap (λ (x : Roles). x.joining) z ∙ those-none (λ j. sends_join (D j));
      no_quorum = ap (λ (x : Roles). x.no_quorum) z ∙ those-none (λ j. is_no_quorum (D j));
      outvoted = ap (λ (x : Roles). x.outvoted) z ∙ those-none (λ j. is_outvoted (D j));
      long_numbers = a;
      long_sets = b;
      long_bases = c;
      number = below_none (λ j. get_or numbers j 0 ≡ (held_by (D j)).number);
      set = below_none (λ j. get_or sets j 0 ≡ (held_by (D j)).set);
      base = below_none (λ j. get_or bases j 0 ≡ (held_by (D j)).base);
    }

pub holds_next : (D : ℕ → State) (q : ℕ) (w u : Roles) (numbers sets bases : List ℕ) (d : State) (g : Group) → q < 64 → Holds D q w numbers sets bases → d ≡ D q → g ≡ held_by d → u ≡ with_state w q d
    → Holds D (q + 1) u (set numbers q g.number) (set sets q g.set) (set bases q g.base)
holds_next D q w u numbers sets bases d g l h e k f =
    record {
      members = those-next q (λ j. sends_member (D j)) w.members u.members (sends_member d) h.members (ap sends_member e) (ap (λ (x : Roles). x.members) f);
      asking = those-next q (λ j. asks (D j)) w.asking u.asking (asks d) h.asking (ap asks e) (ap (λ (x : Roles). x.asking) f);
      joining = those-next q (λ j. sends_join (D j)) w.joining u.joining (sends_join d) h.joining (ap sends_join e) (ap (λ (x : Roles). x.joining) f);
      no_quorum = those-next q (λ j. is_no_quorum (D j)) w.no_quorum u.no_quorum (is_no_quorum d) h.no_quorum (ap is_no_quorum e) (ap (λ (x : Roles). x.no_quorum) f);
      outvoted = those-next q (λ j. is_outvoted (D j)) w.outvoted u.outvoted (is_outvoted d) h.outvoted (ap is_outvoted e) (ap (λ (x : Roles). x.outvoted) f);
      long_numbers = simp length-set h.long_numbers;
      long_sets = simp length-set h.long_sets;
      long_bases = simp length-set h.long_bases;
      number = stored (λ j y. y ≡ (held_by (D j)).number) numbers q g.number (subst (λ (x : ℕ). q < x) (sym h.long_numbers) l) h.number (ap (λ (x : Group). x.number) held);
      set = stored (λ j y. y ≡ (held_by (D j)).set) sets q g.set (subst (λ (x : ℕ). q < x) (sym h.long_sets) l) h.set (ap (λ (x : Group). x.set) held);
      base = stored (λ j y. y ≡ (held_by (D j)).base) bases q g.base (subst (λ (x : ℕ). q < x) (sym h.long_bases) l) h.base (ap (λ (x : Group). x.base) held);
    }
  where
    held : g ≡ held_by (D q)
    held = k ∙ ap held_by e

-- a state from what the masks and the arrays hold of it
rebuilt : (d : State) → cond (sends_member d) (Member (held_by d) (asks d)) (cond (sends_join d) Joining (cond (is_no_quorum d) (Out NoQuorum) (cond (is_outvoted d) (Out Outvoted) (Out Stopped)))) ≡ d
rebuilt (Out Stopped) = refl
rebuilt (Out NoQuorum) = refl
rebuilt (Out Outvoted) = refl
rebuilt Joining = refl
rebuilt (Member g a) = refl

pub holds_state : (D : ℕ → State) (n k : ℕ) (w : Roles) (numbers sets bases : List ℕ) → Holds D k w numbers sets bases → k ≡ n → (q : ℕ) → q < n
    → state_at (states_of w numbers sets bases) q ≡ D q
unfolding state_at
holds_state D n k w numbers sets bases h z q l =
    let i : q < k = omega arith in
    let m : has q w.members ≡ sends_member (D q) = ap (has q) h.members ∙ those_in q k (λ j. sends_member (D j)) i in
    let a : has q w.asking ≡ asks (D q) = ap (has q) h.asking ∙ those_in q k (λ j. asks (D j)) i in
    let o : has q w.joining ≡ sends_join (D q) = ap (has q) h.joining ∙ those_in q k (λ j. sends_join (D j)) i in
    let u : has q w.no_quorum ≡ is_no_quorum (D q) = ap (has q) h.no_quorum ∙ those_in q k (λ j. is_no_quorum (D j)) i in
    let v : has q w.outvoted ≡ is_outvoted (D q) = ap (has q) h.outvoted ∙ those_in q k (λ j. is_outvoted (D j)) i in
    rw (m, a, o, u, v, h.number q i, h.set q i, h.base q i) (rebuilt (D q))
