-- What the walks give, said of the row itself; and rows of states against rows of node structs. Assumes nothing.
use mathlib.Core.Path.{◌≡◌, refl, sym, ap, ap₂, subst, ◌∙◌}
use mathlib.Core.Bool.{Bool, true, false, not, ◌&&◌, ◌||◌, cond, false≢true, and-false}
use mathlib.Core.List.{List, [], ◌∷◌}
use Prim.Native.Nat.{ℕ, zero, suc, ◌+◌, ◌^◌, ◌≤◌, ◌<◌}
use native.Mathlib.Nat.{add-zero, zero-add}
use native.Mathlib.Numerals.{add-one}
use native.Mathlib.Omega.{arith}
use lib.Dec.{eqb, ltb}
use lib.ListN.{length, replicate, length-replicate}
use Rattle.sets.specs.Sets.{has, single, ◌∪◌}
use Rattle.sets.proofs.Membership.{has_union, has-single, has-none}
use Rattle.sets.proofs.Booleans.{eqb_self, eqb-true, ltb-true, and_l, and_r, and_i}
use Rattle.state.specs.declared.State.{State}
use Rattle.state.specs.declared.State.TheVariants.{Out, Joining, Member}
use Rattle.state.specs.declared.Node.{Node}
use Rattle.state.specs.State.{formed_sets, formed_place, formed_state, formed}
use Rattle.rules.specs.OneCycle.{stopped, asks}
use Rattle.rules.specs.Faults.{Row, at, tabulate}
use Rattle.rules.proofs.Counting.{no}
use Rattle.rules.proofs.Rows.{get-tabulate, length-tabulate, tabulate-ext}
use Rattle.cluster_states.specs.declared.States.{States}
use Rattle.cluster_states.specs.States.{state_at, row_of}
use Rattle.cluster_states.proofs.Deciding.{Holds, holds_none, holds_next, holds_state}
use Rattle.std.specs.Prelude.{Option, Some, None}
use Rattle.row.specs.Row.{states_in, nodes_of, in_place, in_order}
use Rattle.row.specs.Gathered.{with_node, no_states, nothing_of, push_of, gathered, ordered, node_of, each}
use Rattle.row.proofs.Lists.{one_on}

-- node q of n in state d
abbrev node : ℕ → ℕ → State → Node
node n q d = record { state = d; id = q; nodes = n }

-- ---- rows of states and rows of nodes
pub length_nodes : (n : ℕ) (row : Row) → length (nodes_of n row) ≡ n
unfolding nodes_of
length_nodes n row = length-tabulate n (λ q. node n q (at row q))

-- a row is the row of its entries
entries : (row : Row) → tabulate (length row) (at row) ≡ row
unfolding tabulate
entries [] = refl
entries (d ∷ row) = ap (λ (r : Row). d ∷ r) (entries row)

states_tabulate : (n : ℕ) (f : ℕ → Node) → states_in (tabulate n f) ≡ tabulate n (λ q. (f q).state)
unfolding states_in tabulate
states_tabulate zero f = refl
states_tabulate (suc n) f = ap (λ (r : Row). (f 0).state ∷ r) (states_tabulate n (λ q. f (suc q)))

length_states : (xs : List Node) → length (states_in xs) ≡ length xs
unfolding states_in
length_states [] = refl
length_states (x ∷ xs) = ap suc (length_states xs)

pub states_nodes : (n : ℕ) (row : Row) → length row ≡ n → states_in (nodes_of n row) ≡ row
unfolding nodes_of
states_nodes n row e = states_tabulate n (λ q. node n q (at row q)) ∙ ap (λ (k : ℕ). tabulate k (at row)) (sym e) ∙ entries row

-- ---- entries in their places
placed : (quiet : Bool) (n q : ℕ) (x : Node) → in_place quiet n q x ≡ true → node n q x.state ≡ x
unfolding in_place
placed quiet n q x e =
    let id : x.id ≡ q = eqb-true (and_r (formed quiet x) (eqb x.id q) (and_l (formed quiet x && eqb x.id q) (eqb x.nodes n) e)) in
    let nodes : x.nodes ≡ n = eqb-true (and_r (formed quiet x && eqb x.id q) (eqb x.nodes n) e) in
    ap₂ (λ (i m : ℕ). node m i x.state) (sym id) (sym nodes)

in_place_lem : (quiet : Bool) (n q : ℕ) (d : State) → formed quiet (node n q d) ≡ true → in_place quiet n q (node n q d) ≡ true
unfolding in_place
in_place_lem quiet n q d e =
    and_i (formed quiet (node n q d) && eqb q q) (eqb n n) (and_i (formed quiet (node n q d)) (eqb q q) e (eqb_self q)) (eqb_self n)

place_formed : (quiet : Bool) (n q : ℕ) (x : Node) → in_place quiet n q x ≡ true → formed quiet x ≡ true
unfolding in_place
place_formed quiet n q x e = and_l (formed quiet x) (eqb x.id q) (and_l (formed quiet x && eqb x.id q) (eqb x.nodes n) e)

order_made : (quiet : Bool) (n q k : ℕ) (f : ℕ → Node) → ((i : ℕ) → i < k → in_place quiet n (q + i) (f i) ≡ true) → in_order quiet n q (tabulate k f) ≡ true
unfolding in_order tabulate
order_made quiet n q zero f h = refl
order_made quiet n q (suc k) f h =
    and_i (in_place quiet n q (f 0)) (in_order quiet n (suc q) (tabulate k (λ i. f (suc i)))) (subst (λ (p : ℕ). in_place quiet n p (f 0) ≡ true) (add-zero q) (h 0 (omega arith)))
    (order_made quiet n (suc q) k (λ i. f (suc i)) (λ i l. subst (λ (p : ℕ). in_place quiet n p (f (suc i)) ≡ true) (one_on q i) (h (suc i) (up i l))))
  where
    up : (i : ℕ) → i < k → suc i < suc k
    up i l = omega arith

order_at : (quiet : Bool) (n q k : ℕ) (f : ℕ → Node) → in_order quiet n q (tabulate k f) ≡ true → (i : ℕ) → i < k → in_place quiet n (q + i) (f i) ≡ true
unfolding in_order tabulate
order_at quiet n q zero f h i l = absurd (omega arith)
order_at quiet n q (suc k) f h zero l = subst (λ (p : ℕ). in_place quiet n p (f 0) ≡ true) (sym (add-zero q)) (and_l (in_place quiet n q (f 0)) (in_order quiet n (suc q) (tabulate k (λ i. f (suc i)))) h)
order_at quiet n q (suc k) f h (suc i) l =
    subst (λ (p : ℕ). in_place quiet n p (f (suc i)) ≡ true) (sym (one_on q i))
    (order_at quiet n (suc q) k (λ j. f (suc j)) (and_r (in_place quiet n q (f 0)) (in_order quiet n (suc q) (tabulate k (λ j. f (suc j)))) h) i (omega arith))

pub in_order_lem : (quiet : Bool) (n : ℕ) (row : Row) → ((q : ℕ) → q < n → formed quiet (record { state = at row q; id = q; nodes = n }) ≡ true) → in_order quiet n 0 (nodes_of n row) ≡ true
unfolding nodes_of
in_order_lem quiet n row h =
    order_made quiet n 0 n (λ q. node n q (at row q))
    (λ q l. subst (λ (p : ℕ). in_place quiet n p (node n q (at row q)) ≡ true) (sym (zero-add q)) (in_place_lem quiet n q (at row q) (h q l)))

nodes_from : (quiet : Bool) (n q : ℕ) (xs : List Node) → in_order quiet n q xs ≡ true → tabulate (length xs) (λ i. node n (q + i) (at (states_in xs) i)) ≡ xs
unfolding in_order states_in tabulate
nodes_from quiet n q [] h = refl
nodes_from quiet n q (x ∷ xs) h =
    ap₂ (λ (y : Node) (ys : List Node). y ∷ ys)
    (ap (λ (p : ℕ). node n p x.state) (add-zero q) ∙ placed quiet n q x (and_l (in_place quiet n q x) (in_order quiet n (suc q) xs) h))
    (tabulate-ext (length xs) (λ i. node n (q + suc i) (at (states_in xs) i)) (λ i. node n (suc q + i) (at (states_in xs) i)) (λ i l. ap (λ (p : ℕ). node n p (at (states_in xs) i)) (one_on q i))
    ∙ nodes_from quiet n (suc q) xs (and_r (in_place quiet n q x) (in_order quiet n (suc q) xs) h))

pub nodes_states : (quiet : Bool) (n : ℕ) (xs : List Node) → length xs ≡ n → in_order quiet n 0 xs ≡ true → nodes_of n (states_in xs) ≡ xs
unfolding nodes_of
nodes_states quiet n xs e h =
    tabulate-ext n (λ q. node n q (at (states_in xs) q)) (λ q. node n (0 + q) (at (states_in xs) q)) (λ q l. ap (λ (p : ℕ). node n p (at (states_in xs) q)) (sym (zero-add q)))
    ∙ ap (λ (k : ℕ). tabulate k (λ q. node n (0 + q) (at (states_in xs) q))) (sym e) ∙ nodes_from quiet n 0 xs h

-- ---- what is gathered
and_assoc : (a b c : Bool) → ((a && b) && c) ≡ (a && (b && c))
and_assoc true b c = refl
and_assoc false b c = refl

and-true : (a : Bool) → (a && true) ≡ a
and-true true = refl
and-true false = refl

-- what tells the modes apart is who asks: of a state, and of an entry
state_mode : (id n : ℕ) (s : State) → formed_state false id n s ≡ (formed_state true id n s && not (asks s))
state_mode id n (Out r) = refl
state_mode id n Joining = refl
state_mode id n (Member g a) = go a (ltb g.number (2 ^ 32) && formed_sets id n g.set g.base)
  where
    go : (a f : Bool) → ((false || not a) && f) ≡ (f && not a)
    go true true = refl
    go true false = refl
    go false true = refl
    go false false = refl

place_mode : (n q : ℕ) (x : Node) → in_place false n q x ≡ (in_place true n q x && not (asks x.state))
unfolding in_place formed
place_mode n q x =
    ap (λ (b : Bool). (formed_place x.id x.nodes && b) && eqb x.id q && eqb x.nodes n) (state_mode x.id x.nodes x.state)
    ∙ go (formed_place x.id x.nodes) (formed_state true x.id x.nodes x.state) (not (asks x.state)) (eqb x.id q) (eqb x.nodes n)
  where
    go : (p f r i m : Bool) → ((p && (f && r)) && i && m) ≡ (((p && f) && i && m) && r)
    go true true true true true = refl
    go true true true true false = refl
    go true true true false m = refl
    go true true false true true = refl
    go true true false true false = refl
    go true true false false m = refl
    go true false r i m = refl
    go false f r i m = refl

-- what is in order in one mode is so in a quiet press
place_either : (quiet : Bool) (n q : ℕ) (x : Node) → in_place quiet n q x ≡ true → in_place true n q x ≡ true
place_either true n q x e = e
place_either false n q x e = and_l (in_place true n q x) (not (asks x.state)) (sym (place_mode n q x) ∙ e)

pub order_either : (quiet : Bool) (n q : ℕ) (xs : List Node) → in_order quiet n q xs ≡ true → in_order true n q xs ≡ true
unfolding in_order
order_either quiet n q [] e = refl
order_either quiet n q (x ∷ xs) e =
    and_i (in_place true n q x) (in_order true n (suc q) xs) (place_either quiet n q x (and_l (in_place quiet n q x) (in_order quiet n (suc q) xs) e))
    (order_either quiet n (suc q) xs (and_r (in_place quiet n q x) (in_order quiet n (suc q) xs) e))

-- one more that asks, or not
ask_mode : (q m : ℕ) (a : Bool) → eqb (cond a (single q ∪ m) m) 0 ≡ (eqb m 0 && not a)
ask_mode q m true = no (eqb (single q ∪ m) 0) (λ e. false≢true (sym (ap (has q) (eqb-true e) ∙ has-none q) ∙ has_union q (single q) m ∙ ap (λ (b : Bool). b || has q m) (has-single q q ∙ eqb_self q))) ∙ sym (and-false (eqb m 0))
ask_mode q m false = sym (and-true (eqb m 0))

module _ (n q : ℕ) (s : States) (x : Node) (l : q < 64) where
  -- what one more entry leaves, by whether it is in its place
  push_in : (b : Bool) → in_place true n q x ≡ b → push_of n (Some s) q x ≡ cond b (Some (with_node s q x.state)) None
  unfolding push_of
  push_in b e =
      ap (λ (t : Bool). cond t (cond (in_place true n q x) (Some (with_node s q x.state)) None) (Some s)) (ltb-true l)
      ∙ ap (λ (t : Bool). cond t (Some (with_node s q x.state)) None) e

  pushed : (quiet b : Bool) → in_place true n q x ≡ b → ordered quiet (push_of n (Some s) q x) ≡ (ordered quiet (Some s) && in_place quiet n q x)
  unfolding with_node
  pushed true true e = ap (ordered true) (push_in true e) ∙ sym e
  pushed true false e = ap (ordered true) (push_in false e) ∙ sym e
  pushed false true e =
      ap (ordered false) (push_in true e) ∙ ask_mode q s.roles.asking (asks x.state)
      ∙ ap (λ (b : Bool). eqb s.roles.asking 0 && (b && not (asks x.state))) (sym e) ∙ ap (λ (b : Bool). eqb s.roles.asking 0 && b) (sym (place_mode n q x))
  pushed false false e =
      ap (ordered false) (push_in false e) ∙ sym (and-false (eqb s.roles.asking 0))
      ∙ ap (λ (b : Bool). eqb s.roles.asking 0 && (b && not (asks x.state))) (sym e) ∙ ap (λ (b : Bool). eqb s.roles.asking 0 && b) (sym (place_mode n q x))

push_ordered : (quiet : Bool) (n : ℕ) (g : Option States) (q : ℕ) (x : Node) → q < 64 → ordered quiet (push_of n g q x) ≡ (ordered quiet g && in_place quiet n q x)
unfolding push_of
push_ordered quiet n None q x l = refl
push_ordered quiet n (Some s) q x l = pushed n q s x l quiet (in_place true n q x) refl

ordered_from : (quiet : Bool) (n : ℕ) (g : Option States) (q : ℕ) (xs : List Node) → q + length xs ≤ 64 → ordered quiet (gathered n g q xs) ≡ (ordered quiet g && in_order quiet n q xs)
unfolding gathered in_order
ordered_from quiet n g q [] l = sym (and-true (ordered quiet g))
ordered_from quiet n g q (x ∷ xs) l =
    ordered_from quiet n (push_of n g q x) (suc q) xs (omega arith)
    ∙ ap (λ (b : Bool). b && in_order quiet n (suc q) xs) (push_ordered quiet n g q x (omega arith))
    ∙ and_assoc (ordered quiet g) (in_place quiet n q x) (in_order quiet n (suc q) xs)

pub gathered-ordered : (quiet : Bool) (n : ℕ) (xs : List Node) → length xs ≤ 64 → ordered quiet (gathered n nothing_of 0 xs) ≡ in_order quiet n 0 xs
unfolding nothing_of
gathered-ordered quiet n xs l = ordered_from quiet n nothing_of 0 xs (omega arith) ∙ first quiet
  where
    first : (quiet : Bool) → (ordered quiet nothing_of && in_order quiet n 0 xs) ≡ in_order quiet n 0 xs
    first true = refl
    first false = refl

-- the states s hold those of the nodes below q; what is gathered does, if it is anything
abbrev Has : (ℕ → State) → ℕ → States → Type 0
Has D q s = Holds D q s.roles s.groups.numbers s.groups.sets s.groups.bases

abbrev Keeps : (ℕ → State) → ℕ → Option States → Type 0
Keeps D q g = (s : States) → g ≡ Some s → Has D q s

has-next : (D : ℕ → State) (q : ℕ) (s : States) (d : State) → q < 64 → Has D q s → d ≡ D q → Has D (q + 1) (with_node s q d)
unfolding with_node
has-next D q s d l h e = holds_next D q s.roles (with_node s q d).roles s.groups.numbers s.groups.sets s.groups.bases d _ l h e refl refl

keeps-next : (D : ℕ → State) (n q : ℕ) (g : Option States) (x : Node) → q < 64 → Keeps D q g → x.state ≡ D q → Keeps D (suc q) (push_of n g q x)
unfolding push_of
keeps-next D n q None x l h e s p = cc
keeps-next D n q (Some t) x l h e s p = go (in_place true n q x) refl
  where
    go : (b : Bool) → in_place true n q x ≡ b → Has D (suc q) s
    go true b =
        let same : with_node t q x.state ≡ s = (let k : push_of n (Some t) q x ≡ Some (with_node t q x.state) = push_in n q t x l true b in cc) in
        subst (Has D (suc q)) same (subst (λ (k : ℕ). Has D k (with_node t q x.state)) (add-one q) (has-next D q t x.state l (h t refl) e))
    go false b = let k : push_of n (Some t) q x ≡ None = push_in n q t x l false b in cc

keeps_from : (D : ℕ → State) (n : ℕ) (g : Option States) (q : ℕ) (xs : List Node) → q + length xs ≤ 64 → ((i : ℕ) → i < length xs → at (states_in xs) i ≡ D (q + i))
    → Keeps D q g → Keeps D (q + length xs) (gathered n g q xs)
unfolding gathered states_in
keeps_from D n g q [] l e h = subst (λ (k : ℕ). Keeps D k g) (sym (add-zero q)) h
keeps_from D n g q (x ∷ xs) l e h =
    subst (λ (k : ℕ). Keeps D k (gathered n (push_of n g q x) (suc q) xs)) (sym (one_on q (length xs)))
    (keeps_from D n (push_of n g q x) (suc q) xs (omega arith) (λ i k. e (suc i) (up i k) ∙ ap D (one_on q i))
    (keeps-next D n q g x (omega arith) h (e 0 (omega arith) ∙ ap D (add-zero q))))
  where
    up : (i : ℕ) → i < length xs → suc i < suc (length xs)
    up i k = omega arith

has_nothing : (D : ℕ → State) → Keeps D 0 nothing_of
unfolding nothing_of
has_nothing D s e = subst (Has D 0) (let same : no_states ≡ s = cc in same) (holds_none D _ _ _ _ refl long long long)
  where
    long : length (replicate {A = ℕ} 64 0) ≡ 64
    long = length-replicate {A = ℕ} 64 0

pub gathered_states : (n : ℕ) (xs : List Node) (s : States) → length xs ≤ 64 → gathered n nothing_of 0 xs ≡ Some s → row_of (length xs) s ≡ states_in xs
unfolding row_of
gathered_states n xs s l g =
    tabulate-ext (length xs) (state_at s) (at (states_in xs)) (holds_state (at (states_in xs)) (length xs) (0 + length xs) s.roles s.groups.numbers s.groups.sets s.groups.bases held (zero-add (length xs)))
    ∙ ap (λ (k : ℕ). tabulate k (at (states_in xs))) (sym (length_states xs)) ∙ entries (states_in xs)
  where
    held : Has (at (states_in xs)) (0 + length xs) s
    held = keeps_from (at (states_in xs)) n nothing_of 0 xs (omega arith) (λ i k. ap (at (states_in xs)) (sym (zero-add i))) (has_nothing (at (states_in xs))) s g

-- ---- what is scattered
each_from : (n : ℕ) (s : States) (q : ℕ) (xs : List Node) → q + length xs ≤ 64 → each (node_of n s) q xs ≡ tabulate (length xs) (λ i. node n (q + i) (state_at s (q + i)))
unfolding each node_of tabulate
each_from n s q [] l = refl
each_from n s q (x ∷ xs) l =
    ap₂ (λ (y : Node) (ys : List Node). y ∷ ys)
    (ap (λ (b : Bool). cond b (node n q (state_at s q)) x) (ltb-true (low l)) ∙ ap (λ (p : ℕ). node n p (state_at s p)) (sym (add-zero q)))
    (each_from n s (suc q) xs (omega arith)
    ∙ tabulate-ext (length xs) (λ i. node n (suc q + i) (state_at s (suc q + i))) (λ i. node n (q + suc i) (state_at s (q + suc i))) (λ i k. ap (λ (p : ℕ). node n p (state_at s p)) (sym (one_on q i))))
  where
    low : q + suc (length xs) ≤ 64 → q < 64
    low h = omega arith

pub scattered : (n : ℕ) (s : States) (xs : List Node) → length xs ≡ n → n ≤ 64 → each (node_of n s) 0 xs ≡ nodes_of n (row_of n s)
unfolding nodes_of row_of
scattered n s xs e l =
    each_from n s 0 xs (omega arith) ∙ ap (λ (k : ℕ). tabulate k (λ i. node n (0 + i) (state_at s (0 + i)))) e
    ∙ tabulate-ext n (λ i. node n (0 + i) (state_at s (0 + i))) (λ i. node n i (at (tabulate n (state_at s)) i))
    (λ i k. ap (λ (p : ℕ). node n p (state_at s p)) (zero-add i) ∙ ap (node n i) (sym (get-tabulate n i (state_at s) stopped k)))
