-- Of well-formed states: who sends after rule 1 sends frames that a reader takes. Assumes nothing.
use mathlib.Core.Path.{◌≡◌, sym, ap, ◌∙◌}
use mathlib.Core.Bool.{Bool, true, false, not, ◌&&◌, cond, false≢true}
use mathlib.Core.List.{List}
use Prim.Native.Nat.{ℕ, ◌^◌, ◌<◌}
use lib.Dec.{ltb}
use lib.ListN.{get_or}
use Rattle.sets.specs.Sets.{has, ◌∪◌, ◌∖◌, below}
use Rattle.sets.proofs.Booleans.{and_l, and_r, not-e, ltb-lt}
use Rattle.sets.proofs.Membership.{has_diff}
use Rattle.sets.proofs.Nodes.{has-below, of_those}
use Rattle.state.specs.declared.Reason.TheVariants.{Stopped, NoQuorum, Outvoted}
use Rattle.state.specs.declared.State.{State}
use Rattle.state.specs.declared.State.TheVariants.{Out, Joining, Member}
use Rattle.state.specs.State.{formed_state}
use Rattle.rules.specs.declared.Config.{Config}
use Rattle.rules.specs.declared.Faults.{Faults}
use Rattle.rules.specs.Ballots.{vote_at}
use Rattle.frames.specs.Written.{wrong_request, formed_vote}
use Rattle.bus_units.proofs.Delivered.{formed-vote, request_allowed}
use Rattle.cluster_states.specs.declared.Roles.{Roles}
use Rattle.cluster_states.specs.declared.States.{States}
use Rattle.cluster_states.specs.States.{group_at, state_at}
use Rattle.cluster_states.specs.Decided.{roles_after, view_at, votes_at, voting_of}
use Rattle.cluster_states.proofs.Whole.{roles}

-- w are the masks after rule 1
module _ (C : Config) (s : States) (f : Faults) (w : Roles) (e : w ≡ roles C s f) where
  abbrev n : ℕ
  n = C.nodes

  -- a joining node is no member; a member was one before, and is a node
  pub apart : (p : ℕ) → has p w.joining ≡ true → has p w.members ≡ false
  unfolding roles_after
  apart p h =
      let m = below n (s.roles.members ∖ f.stop) in
      let u = f.start ∪ (s.roles.joining ∖ f.stop) in
      let k : (ltb p n && has p (u ∖ m)) ≡ true = sym (has-below p n (u ∖ m)) ∙ sym (ap (λ (x : Roles). has p x.joining) e) ∙ h in
      let z : (has p u && not (has p m)) ≡ true = sym (has_diff p u m) ∙ and_r (ltb p n) (has p (u ∖ m)) k in
      ap (λ (x : Roles). has p x.members) e ∙ not-e (has p m) (and_r (has p u) (not (has p m)) z)

  was-member : (p : ℕ) → has p w.members ≡ true → (p < n) × (has p s.roles.members ≡ true)
  unfolding roles_after
  was-member p h =
      let k : (ltb p n && has p (s.roles.members ∖ f.stop)) ≡ true = sym (has-below p n (s.roles.members ∖ f.stop)) ∙ sym (ap (λ (x : Roles). has p x.members) e) ∙ h in
      let z : (has p s.roles.members && not (has p f.stop)) ≡ true = sym (has_diff p s.roles.members f.stop) ∙ and_r (ltb p n) (has p (s.roles.members ∖ f.stop)) k in
      (ltb-lt (and_l (ltb p n) (has p (s.roles.members ∖ f.stop)) k), and_l (has p s.roles.members) (not (has p f.stop)) z)

  module _ (formed : (q : ℕ) → q < n → formed_state C.quiet q n (state_at s q) ≡ true) where
    -- the state of a member
    abbrev held : ℕ → State
    held p = Member (group_at s p) (has p s.roles.asking)

    member-formed : (p : ℕ) → has p w.members ≡ true → formed_state C.quiet p n (held p) ≡ true
    unfolding state_at
    member-formed p h = let m = was-member p h in go p (has p s.roles.members) m.1 (formed p m.0)
      where
        go : (p : ℕ) (b : Bool) → b ≡ true
            → formed_state C.quiet p n (cond b (held p) (cond (has p s.roles.joining) Joining (cond (has p s.roles.no_quorum) (Out NoQuorum) (cond (has p s.roles.outvoted) (Out Outvoted) (Out Stopped))))) ≡ true
            → formed_state C.quiet p n (held p) ≡ true
        go p true e k = k
        go p false e k = absurd (false≢true e)

    -- a member requests only where it may
    pub requests-allowed : (p : ℕ) → has p w.members ≡ true → (p < n) × (wrong_request C.quiet 0 (cond (has p w.asking) 1 0) ≡ false)
    unfolding roles_after
    requests-allowed p h =
        ((was-member p h).0, ap (λ (x : Roles). wrong_request C.quiet 0 (cond (has p x.asking) 1 0)) e ∙ request_allowed C.quiet n p (group_at s p) (has p s.roles.asking) (member-formed p h))

    -- and whoever votes is a member, and casts a vote that may be
    pub votes-formed : (h0 h1 o d : ℕ) (missed views : List ℕ) → d ≡ voting_of C s.groups.sets views w o missed
        → ((q : ℕ) → q < n → get_or views q 0 ≡ view_at n s.groups.sets h0 h1 missed q)
        → (p : ℕ) → has p d ≡ true → (p < n) × (get_or s.groups.numbers p 0 < 2 ^ 32) × (formed_vote n p (vote_at s.groups.numbers s.groups.sets s.groups.bases views p) ≡ true)
    unfolding voting_of
    votes-formed h0 h1 o d missed views ed seen p h =
        let b = of_those p n (λ q. has q w.members && votes_at C s.groups.sets views w.asking o missed q) (ap (has p) (sym ed) ∙ h) in
        let m : has p w.members ≡ true = and_l (has p w.members) (votes_at C s.groups.sets views w.asking o missed p) b.1 in
        let k = formed-vote C.quiet n p (h0 ∖ get_or missed p 0) (h1 ∖ get_or missed p 0) (group_at s p) (has p s.roles.asking) b.0 (member-formed p m) in
        (b.0, k.0, ap (λ (x : ℕ). formed_vote n p (record { group = group_at s p; view = x })) (seen p b.0) ∙ k.1)
