-- A node that a cycle does not disturb: what reaches it. Assumes nothing.
use mathlib.Core.Path.{◌≡◌, refl, sym, ap, ◌∙◌}
use mathlib.Core.Bool.{Bool, true, false, not, ◌&&◌, ◌||◌}
use Prim.Native.Nat.{ℕ}
use lib.Dec.{eqb}
use Rattle.sets.specs.Sets.{has, single, ◌∖◌}
use Rattle.sets.proofs.Booleans.{eqb-true, not_f, or_f_l, or_f_r}
use Rattle.sets.proofs.Membership.{has_diff, has-single, has-none}
use Rattle.rules.specs.declared.Faults.{Faults}
use Rattle.rules.specs.Faults.{heartbeats_missed, votes_missed, reaches, heartbeat_reaches, vote_reaches, misses_other, disturbed}

-- it runs, its frames go out, and it misses no frame of another node
pub record Undisturbed (c : Faults) (q : ℕ) : Type 0 where
  pub runs : has q c.stop ≡ false
  pub beats : has q c.heartbeat_lost ≡ false
  pub votes : has q c.vote_lost ≡ false
  pub hears : (p : ℕ) → eqb p q ≡ false → has p (heartbeats_missed c q) ≡ false
  pub reads : (p : ℕ) → eqb p q ≡ false → has p (votes_missed c q) ≡ false

no_other : (m p q : ℕ) → misses_other q m ≡ false → eqb p q ≡ false → has p m ≡ false
no_other m p q e n =
    let z : m ∖ single q ≡ 0 = eqb-true (not_f (eqb (m ∖ single q) 0) e) in
    let f : (has p m && not (eqb p q)) ≡ false =
    ap (λ (x : Bool). has p m && not x) (sym (has-single p q)) ∙ sym (has_diff p m (single q)) ∙ ap (has p) z ∙ has-none p in
    go (has p m) (ap (λ (x : Bool). has p m && not x) (sym n) ∙ f)
  where
    go : (a : Bool) → (a && true) ≡ false → a ≡ false
    go true e = e
    go false e = refl

pub undisturbed : (c : Faults) (q : ℕ) → disturbed c q ≡ false → Undisturbed c q
unfolding disturbed
undisturbed c q e =
    let a = has q c.stop in
    let b = has q c.heartbeat_lost in
    let d = has q c.vote_lost in
    let h = misses_other q (heartbeats_missed c q) in
    let k = misses_other q (votes_missed c q) in
    let e4 = or_f_l (a || b || d || h) k e in
    let e3 = or_f_l (a || b || d) h e4 in
    let e2 = or_f_l (a || b) d e3 in
    record {
      runs = or_f_l a b e2;
      beats = or_f_r a b e2;
      votes = or_f_r (a || b) d e3;
      hears = λ p n. no_other (heartbeats_missed c q) p q (or_f_r (a || b || d) h e4) n;
      reads = λ p n. no_other (votes_missed c q) p q (or_f_r (a || b || d || h) k e) n;
    }

-- a frame that is not missed arrives unless it is lost in sending
reach : (lost missed p : ℕ) → has p missed ≡ false → reaches lost missed p ≡ not (has p lost)
unfolding reaches
reach lost missed p e = ap (λ (x : Bool). not (has p lost) && not x) e ∙ and-t (not (has p lost))
  where
    and-t : (b : Bool) → (b && true) ≡ b
    and-t true = refl
    and-t false = refl

pub reach_heartbeat : (c : Faults) (p q : ℕ) → Undisturbed c q → eqb p q ≡ false → heartbeat_reaches c p q ≡ not (has p c.heartbeat_lost)
reach_heartbeat c p q u n = reach c.heartbeat_lost (heartbeats_missed c q) p (u.hears p n)

pub reach_vote : (c : Faults) (p q : ℕ) → Undisturbed c q → eqb p q ≡ false → vote_reaches c p q ≡ not (has p c.vote_lost)
reach_vote c p q u n = reach c.vote_lost (votes_missed c q) p (u.reads p n)
