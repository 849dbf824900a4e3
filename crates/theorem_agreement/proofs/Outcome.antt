-- What one cycle that meets the premise gives, from rule 2 on: the steady nodes cast one vote, or the reference group rests. Assumes nothing.
use mathlib.Core.Path.{◌≡◌, sym, ap, ◌∙◌, subst}
use mathlib.Core.Logic.{◌⊎◌, inl, inr, ◌≢◌}
use mathlib.Core.Bool.{true, false, false≢true}
use mathlib.Core.Option.{Option, some}
use Prim.Native.Nat.{ℕ, ◌<◌}
use Rattle.sets.specs.Sets.{has}
use Rattle.sets.specs.Quorum.{quorum}
use Rattle.sets.proofs.Booleans.{bool}
use Rattle.sets.proofs.Membership.{◌⊆◌}
use Rattle.sets.proofs.Quorum.{quorum_part}
use Rattle.state.specs.declared.Group.{Group}
use Rattle.state.specs.declared.State.TheVariants.{Joining}
use Rattle.state.specs.State.{group_of, halted}
use Rattle.rules.specs.declared.Vote.{Vote}
use Rattle.rules.specs.declared.Faults.{Faults}
use Rattle.rules.specs.declared.Config.{Config}
use Rattle.rules.specs.OneCycle.{sends_member, asks, rests}
use Rattle.rules.specs.Faults.{Row, at, own_vote, votes_now}
use Rattle.rules.proofs.Counting.{quorum_node}
use Rattle.rules.proofs.Undisturbed.{Undisturbed}
use Rattle.rules.proofs.States.{some_inj, own_group}
use Rattle.theorem_agreement.proofs.OneVote.{passes, common_vote, cast, voted, done, view_common, in_common, Overruled, Caller, Stirs, Given, OnVote, steady-stays, steady-calls, enters, new-holds, waits, from-vote, from-join, on-base, on-formed, on-calm, voted-inside, vote-halts}
use Rattle.theorem_agreement.proofs.Resting.{casts, Resting, silent_rests, resting_silent, stray-casts, Came, came, rest-only, rest-held, rest-strays}

-- `g` is the reference group before and `n` after. The steady nodes hold `n`; of each member, its set lies in its base, and if it is not disturbed it holds
-- `n`; one that holds another group is overruled by whatever quorum holds `n`, and called to vote in a quiet press; the undisturbed nodes of the new set hold
-- `n`; a member with another group before halts; a joining node waits and is out of the new set, or enters.
pub record Done (C : Config) (c : Faults) (r : Row) (g : Group) (U : ℕ) (n : Group) : Type 0 where
  pub inside : ◌⊆◌ n.set n.base
  pub goes : (q : ℕ) → has q U ≡ true → group_of (at (done C c r) q) ≡ some n
  pub formed : (q : ℕ) (h : Group) → q < C.nodes → group_of (at (done C c r) q) ≡ some h → ◌⊆◌ h.set h.base
  pub overruled : (q : ℕ) (h : Group) → q < C.nodes → group_of (at (done C c r) q) ≡ some h → h ≢ n
      → (W : ℕ) → ◌⊆◌ W n.base → quorum W n.base ≡ true → ((x : ℕ) → has x W ≡ true → group_of (at (done C c r) x) ≡ some n)
      → Overruled C (done C c r) h
  pub calm : (q : ℕ) (h : Group) → q < C.nodes → Undisturbed c q → group_of (at (done C c r) q) ≡ some h → h ≡ n
  pub hold : (q : ℕ) → Undisturbed c q → has q n.set ≡ true → group_of (at (done C c r) q) ≡ some n
  pub stirs : Stirs C (done C c r) n
  pub strays : (q : ℕ) (h : Group) → q < C.nodes → group_of (at r q) ≡ some h → h ≢ g → halted (at (done C c r) q) ≡ true
  pub waits : (q : ℕ) → q < C.nodes → at r q ≡ Joining → has q g.set ≡ true → (at (done C c r) q ≡ Joining) × (has q n.set ≡ false)
  pub enters : (q : ℕ) → q < C.nodes → Undisturbed c q → at r q ≡ Joining → has q g.set ≡ false
      → (group_of (at (done C c r) q) ≡ some n) × (has q n.set ≡ true)

module _ (C : Config) (c : Faults) (r : Row) (g : Group) (U : ℕ) (k : Given C c r g U) where
  rests-formed : (h : Group) → h ≡ rests g → ◌⊆◌ h.set h.base
  rests-formed h e = subst (λ (x : Group). ◌⊆◌ x.set x.base) (sym e) (λ x m. m)

  -- ---- the steady nodes vote

  module _ (awake : Resting C c r g → ⊥) where
    -- they cast one vote
    speak : (q : ℕ) → has q U ≡ true → cast C c r q ≡ some (common_vote C.nodes c r g)
    speak q u =
        casts C c r q g true (k.below q u) (k.hold q u)
        (passes (votes_now C c r q g (asks (at r q))) (λ n. awake (silent_rests C c r g q (k.below q u) (k.calm q u) (k.hold q u) n)))
        ∙ ap {B = Option Vote} some (view_common C.nodes c r g q (k.below q u) (k.calm q u) (k.hold q u) (k.part q u))

    -- a member after the cycle is one on that vote, or was silent, and so disturbed, and keeps g at rest
    abbrev From : ℕ → Group → Type 0
    From q h = OnVote C c r g U k speak q h ⊎ ((h ≡ rests g) × (Undisturbed c q → ⊥))

    from : (q : ℕ) (h : Group) → q < C.nodes → group_of (at (done C c r) q) ≡ some h → From q h
    from q h l e = go (came C c r g U k q h l e)
      where
        go : Came C c r g U k q h → From q h
        go (inl j) = inl (from-join C c r g U k speak q h l j e)
        go (inr (inl w)) = inl (from-vote C c r g U k speak q w.0 h w.1 e)
        go (inr (inr w)) = inr (w.0, λ u. awake (w.1 u))

    formed : (q : ℕ) (h : Group) → From q h → ◌⊆◌ h.set h.base
    formed q h (inl w) = on-formed C c r g U k speak q h w
    formed q h (inr w) = rests-formed h w.0

    calm : (q : ℕ) (h : Group) → Undisturbed c q → From q h → h ≡ voted C c r g
    calm q h u (inl w) = on-calm C c r g U k speak q h w u
    calm q h u (inr w) = absurd (w.1 u)

    -- a member on the vote has the new base, so what is a quorum of that is one of its own; the base of one that was silent is now g's set, where the steady
    -- nodes are a quorum too
    overruled : (q : ℕ) (h : Group) → From q h → h ≢ voted C c r g → (W : ℕ) → ◌⊆◌ W (voted C c r g).base → quorum W (voted C c r g).base ≡ true
        → ((x : ℕ) → has x W ≡ true → group_of (at (done C c r) x) ≡ some (voted C c r g)) → Overruled C (done C c r) h
    overruled q h o d W i m a = go o
      where
        by : (S B : ℕ) → h.base ≡ B → ◌⊆◌ S B → quorum S B ≡ true → ((x : ℕ) → has x S ≡ true → group_of (at (done C c r) x) ≡ some (voted C c r g))
            → Overruled C (done C c r) h
        by S B base j n b =
            record {
              rest = S;
              inside = λ x u. subst (λ (z : ℕ). has x z ≡ true) (sym base) (j x u);
              most = subst (λ (z : ℕ). quorum S z ≡ true) (sym base) n;
              others = λ x l u f. d (some_inj (sym f ∙ b x u));
            }

        go : From q h → Overruled C (done C c r) h
        go (inl w) = by W (voted C c r g).base (on-base C c r g U k speak q h w) i m a
        go (inr w) =
            by U g.set (ap (λ (x : Group). x.base) w.0) k.part (quorum_part U g.set g.base k.part k.inside k.most) (steady-stays C c r g U k speak)

    -- whoever holds another group and does not request has g at rest; then the new group is not that, and the steady nodes request
    stirs : Stirs C (done C c r) (voted C c r g)
    stirs y q h l e d = go (bool (asks (at (done C c r) q)))
      where
        kept : From q h → asks (at (done C c r) q) ≡ false → h ≡ rests g
        kept (inl w) n = w.kept y n
        kept (inr w) n = w.0

        go : (asks (at (done C c r) q) ≡ true) ⊎ (asks (at (done C c r) q) ≡ false) → (asks (at (done C c r) q) ≡ true) ⊎ Caller C (done C c r) (voted C c r g) h
        go (inl a) = inl a
        go (inr n) = let s = kept (from q h l e) n in inr (steady-calls C c r g U k speak y h s (λ x. d (s ∙ sym x)))

    strays : (q : ℕ) (h : Group) → q < C.nodes → group_of (at r q) ≡ some h → h ≢ g → halted (at (done C c r) q) ≡ true
    strays q h l e d = vote-halts C c r g U k speak q (own_vote C.nodes c r q h) (stray-casts C c r g U k q h l e d) (λ x. d (own_group C.nodes c r q h ∙ x))

    by-vote : Done C c r g U (voted C c r g)
    by-vote =
        record {
          inside = voted-inside C c r g U k speak;
          goes = steady-stays C c r g U k speak;
          formed = λ q h l e. formed q h (from q h l e);
          overruled = λ q h l e. overruled q h (from q h l e);
          calm = λ q h l u e. calm q h u (from q h l e);
          hold = new-holds C c r g U k speak;
          stirs = stirs;
          strays = strays;
          waits = waits C c r g U k speak;
          enters = enters C c r g U k speak;
        }

  -- ---- the reference group rests: every member holds it, and no joining node is in M or in V

  by-rest : Resting C c r g → Done C c r g U (rests g)
  by-rest s =
      record {
        inside = λ q m. m;
        goes = λ q u. rest-held C c r g U k s q (k.calm q u) (k.part q u);
        formed = λ q h l e. rests-formed h (only q h l e);
        overruled = λ q h l e d W i m a. absurd (d (only q h l e));
        calm = λ q h l u e. only q h l e;
        hold = rest-held C c r g U k s;
        stirs = λ y q h l e d. absurd (d (only q h l e));
        strays = rest-strays C c r g U k s;
        waits = λ q l e m. absurd (false≢true (sym (ap sends_member e) ∙ (s.set q m).1));
        enters = λ q l u e m. absurd (false≢true (sym m ∙ sym (ap (has q) s.view) ∙ in_common C c r g q l u e m));
      }
    where
      only : (q : ℕ) (h : Group) → q < C.nodes → group_of (at (done C c r) q) ≡ some h → h ≡ rests g
      only = rest-only C c r g U k s

  -- the steady nodes vote all or none, so one of them tells which
  pub whole : (n : Group) × Done C c r g U n
  whole = let one = quorum_node U g.base k.most in go one.0 one.1 (bool (votes_now C c r one.0 g (asks (at r one.0))))
    where
      go : (q : ℕ) → has q U ≡ true → (votes_now C c r q g (asks (at r q)) ≡ true) ⊎ (votes_now C c r q g (asks (at r q)) ≡ false) → (n : Group) × Done C c r g U n
      go q u (inl y) = (
        voted C c r g,
        by-vote (λ s. false≢true (sym (resting_silent C c r g s q (k.below q u) (k.calm q u) (k.hold q u) (k.part q u)) ∙ y)),
      )
      go q u (inr n) = (rests g, by-rest (silent_rests C c r g q (k.below q u) (k.calm q u) (k.hold q u) n))
