-- Every step leaves a well-formed machine well formed. Assumes nothing.
use mathlib.Core.Path.{◌≡◌, refl, sym, ap, ◌∙◌}
use mathlib.Core.Bool.{Bool, true, false, not, ◌&&◌, ◌||◌, cond}
use mathlib.Core.List.{List}
use mathlib.Core.Option.{none, some}
use Prim.Native.Nat.{ℕ, ◌^◌}
use lib.Dec.{eqb, ltb}
use Rattle.sets.specs.Sets.{has, subset, below}
use Rattle.sets.proofs.Booleans.{and_l, and_r, and_i, eqb-true}
use Rattle.sets.proofs.Membership.{subset_in}
use Rattle.sets.proofs.Nodes.{of_those}
use Rattle.state.specs.declared.State.{State}
use Rattle.state.specs.declared.State.TheVariants.{Out, Joining, Member}
use Rattle.state.specs.declared.Node.{Node}
use Rattle.state.specs.State.{formed, formed_sets, formed_place, formed_state}
use Rattle.state.proofs.Fields.{place_bounds}
use Rattle.rules.specs.declared.Vote.{Vote}
use Rattle.rules.specs.OneCycle.{quiet_in, Ballots, member_decides, silent_decides}
use Rattle.rules.proofs.States.{none-some, some_inj}
use Rattle.theorem_formed.proofs.Formed.{Fair, bound_of, stop_start_formed, member-formed, silent_formed, joiner_formed}
use Rattle.frames.specs.Written.{formed_vote}
use Rattle.entry_slots.specs.Slots.{slot_vote, arrived_in, buffer_ballots}
use Rattle.entry_stop_start.specs.StopStart.{stopped_and_started}
use Rattle.entry_send_vote.specs.Voting.{own_view, press_of, votes_on}
use Rattle.entry_decide.specs.Decide.{decision}
use Rattle.registers.specs.Block.{Machine, formed_machine}
use Rattle.registers.proofs.Written.{node-after}
use Rattle.registers.specs.Steps.{Step, Read, Write, Cycle, WriteCycle, mode_of, commanded, written, decided_node, cycled, stepped}

-- ---- the votes that count are of nodes that there are

vote_fair : (n q : ℕ) (v : Vote) → formed_vote n q v ≡ true → Fair n v
unfolding formed_vote
vote_fair n q v f =
    let own = has q v.group.set && has q v.view in
    let inside = subset v.group.set v.group.base in
    let low = eqb (below n v.group.base) v.group.base in
    let seen = eqb (below n v.view) v.view in
    let h = and_l (own && inside && low) seen f in
    let base = bound_of n v.group.base (eqb-true (and_r (own && inside) low h)) in
    let part = subset_in v.group.set v.group.base (and_r own inside (and_l (own && inside) low h)) in
    record { set = λ x e. base x (part x e); view = bound_of n v.view (eqb-true (and_r (own && inside && low) seen f)) }

ballots_fair : (n q : ℕ) (votes : List ℕ) (arrived p : ℕ) (v : Vote) → buffer_ballots n q votes arrived p ≡ some v → Fair n v
unfolding buffer_ballots arrived_in
ballots_fair n q votes arrived p v = go (has p (arrived_in n q votes arrived)) refl
  where
    counts : ℕ → Bool
    counts x = not (eqb x q) && has x arrived && formed_vote n x (slot_vote votes x)

    go : (b : Bool) → has p (arrived_in n q votes arrived) ≡ b → cond b (some (slot_vote votes p)) none ≡ some v → Fair n v
    go true h e =
        let sound = and_r (not (eqb p q) && has p arrived) (formed_vote n p (slot_vote votes p)) (of_those p n counts h).1 in
        vote_fair n p v (ap (formed_vote n p) (sym (some_inj e)) ∙ sound)
    go false h e = absurd (none-some e)

-- ---- a node

-- one that is well formed is so in a quiet press too
pub formed-quietly : (quiet : Bool) (n : Node) → formed quiet n ≡ true → formed true n ≡ true
unfolding formed
formed-quietly quiet n f =
    let place = formed_place n.id n.nodes in
    let state = formed_state quiet n.id n.nodes n.state in
    and_i place (formed_state true n.id n.nodes n.state) (and_l place state f) (go n.state (and_r place state f))
  where
    go : (t : State) → formed_state quiet n.id n.nodes t ≡ true → formed_state true n.id n.nodes t ≡ true
    go (Out r) h = refl
    go Joining h = refl
    go (Member g a) h = and_r (quiet || not a) (ltb g.number (2 ^ 32) && formed_sets n.id n.nodes g.set g.base) h

module _ (quiet : Bool) (n : Node) (f : formed quiet n ≡ true) where
  held : (formed_place n.id n.nodes ≡ true) × (formed_state quiet n.id n.nodes n.state ≡ true)
  unfolding formed
  held =
      let place = formed_place n.id n.nodes in
      let state = formed_state quiet n.id n.nodes n.state in
      (and_l place state f, and_r place state f)

  -- another state of a node in its place
  with-state : (s : State) → formed_state quiet n.id n.nodes s ≡ true → formed quiet (record { state = s; id = n.id; nodes = n.nodes }) ≡ true
  unfolding formed
  with-state s h = and_i (formed_place n.id n.nodes) (formed_state quiet n.id n.nodes s) held.0 h

  pub command-formed : (v : ℕ) → formed quiet (commanded v n) ≡ true
  command-formed v = go (eqb v 1) (eqb v 2)
    where
      ruled : (stop start : Bool) → formed quiet (stopped_and_started stop start n) ≡ true
      ruled stop start = with-state _ (stop_start_formed stop start quiet n.nodes n.id n.state held.1)

      go : (b c : Bool) → formed quiet (cond b (stopped_and_started true false n) (cond c (stopped_and_started false true n) n)) ≡ true
      go true c = ruled true false
      go false true = ruled false true
      go false false = f

  decision-formed : (heard0 heard1 requests : ℕ) (votes : List ℕ) (arrived : ℕ) (t : State) → formed_state quiet n.id n.nodes t ≡ true
      → formed_state quiet n.id n.nodes (decision quiet n t heard0 heard1 requests votes arrived) ≡ true
  decision-formed heard0 heard1 requests votes arrived (Out r) h = refl
  decision-formed heard0 heard1 requests votes arrived Joining h =
      joiner_formed (press_of quiet n) n.id (buffer_ballots n.nodes n.id votes arrived) (ballots_fair n.nodes n.id votes arrived)
  decision-formed heard0 heard1 requests votes arrived (Member g a) h = go (votes_on quiet n g a heard0 heard1 requests)
    where
      got : Ballots
      got = buffer_ballots n.nodes n.id votes arrived

      go : (b : Bool)
          → formed_state quiet n.id n.nodes (cond b (member_decides (press_of quiet n) n.id (record { group = g; view = own_view n heard0 heard1 g }) got) (silent_decides (press_of quiet n) n.id g got))
          ≡ true
      go true = member-formed (press_of quiet n) n.id heard0 heard1 g a got (place_bounds n.id n.nodes held.0).2 h
      go false = silent_formed (press_of quiet n) n.id g a got h

  pub decided-formed : (heard0 heard1 requests : ℕ) (votes : List ℕ) (arrived : ℕ) → formed quiet (decided_node quiet heard0 heard1 requests votes arrived n) ≡ true
  decided-formed heard0 heard1 requests votes arrived = with-state _ (decision-formed heard0 heard1 _ votes arrived n.state held.1)

-- ---- a machine

pub written-formed : (quiet : Bool) (a v : ℕ) (m : Machine) → formed_machine quiet m ≡ true → formed_machine quiet (written a v m) ≡ true
written-formed quiet a v m f = ap (formed quiet) (node-after a v m) ∙ go (eqb a 27)
  where
    go : (b : Bool) → formed quiet (cond b (commanded v m.node) m.node) ≡ true
    go true = command-formed quiet m.node f v
    go false = f

pub cycled-formed : (quiet : Bool) (heard0 heard1 requests : ℕ) (votes : List ℕ) (arrived : ℕ) (m : Machine) → formed_machine quiet m ≡ true
    → formed_machine quiet (cycled quiet heard0 heard1 requests votes arrived m) ≡ true
unfolding cycled
cycled-formed quiet heard0 heard1 requests votes arrived m f = decided-formed quiet m.node f heard0 heard1 requests votes arrived

-- in the mode of the step
pub stepped-formed : (t : Step) (m : Machine) → formed_machine (quiet_in (mode_of t)) m ≡ true → formed_machine (quiet_in (mode_of t)) (stepped t m) ≡ true
stepped-formed (Read mode a) m f = f
stepped-formed (Write mode a v) m f = written-formed (quiet_in mode) a v m f
stepped-formed (Cycle mode heard0 heard1 requests votes arrived) m f = cycled-formed (quiet_in mode) heard0 heard1 requests votes arrived m f
stepped-formed (WriteCycle mode a v heard0 heard1 requests votes arrived) m f =
    cycled-formed (quiet_in mode) heard0 heard1 requests votes arrived (written a v m) (written-formed (quiet_in mode) a v m f)
