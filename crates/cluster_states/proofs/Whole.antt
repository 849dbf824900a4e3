-- One whole cycle: the masks after rule 1 and the grouped votes against the rules of a row. Assumes nothing.
use mathlib.Core.Path.{◌≡◌, refl, sym, ap, ap₂, ◌∙◌}
use mathlib.Core.Bool.{Bool, true, false, not, ◌&&◌, ◌||◌, cond, false≢true}
use mathlib.Core.List.{List}
use mathlib.Core.Option.{Option, none, some}
use Prim.Native.Nat.{ℕ, ◌<◌}
use lib.Dec.{ltb}
use lib.ListN.{get_or}
use Rattle.sets.specs.Sets.{has, ◌∪◌, ◌∩◌, ◌∖◌, those, below}
use Rattle.sets.proofs.Booleans.{both, and_l, and_i, ltb-true, ltb-lt, ltb-le}
use Rattle.sets.proofs.Membership.{has_union, has_inter, has_diff, set_ext}
use Rattle.sets.proofs.Nodes.{has-those, those_in, in_those, of_those, has-below}
use Rattle.state.specs.declared.Reason.{Reason}
use Rattle.state.specs.declared.Reason.TheVariants.{Stopped, NoQuorum, Outvoted}
use Rattle.state.specs.declared.Group.{Group}
use Rattle.state.specs.declared.State.{State}
use Rattle.state.specs.declared.State.TheVariants.{Out, Joining, Member}
use Rattle.rules.specs.declared.Vote.{Vote}
use Rattle.rules.specs.declared.Faults.{Faults}
use Rattle.rules.specs.declared.Config.{Config}
use Rattle.rules.specs.OneCycle.{Ballots, stopped, stop_if, start_if, stop_and_start, sends_member, sends_join, asks, view_of, called, will_vote, member_decides, silent_decides, joiner_decides}
use Rattle.rules.specs.Faults.{Row, at, heartbeats_missed, votes_missed, reaches, rule_one, heard, own_vote, votes_now, vote_of, votes, arrive_if, arrived_at, decides, decisions, cycle}
use Rattle.rules.specs.Ballots.{vote_at, ballots_of}
use Rattle.rules.proofs.Rows.{get-tabulate, get-tabulate-out, tabulate-ext}
use Rattle.cluster_states.specs.declared.Roles.{Roles}
use Rattle.cluster_states.specs.declared.States.{States}
use Rattle.cluster_states.specs.States.{roles_of, group_at, state_at, row_of}
use Rattle.cluster_states.specs.Decided.{roles_after, view_at, votes_at, voting_of, out_at, decided_at}

-- a state by its role, its group and its request
abbrev pub by_role : Bool → Bool → Bool → Bool → Group → Bool → State
by_role m j u v g a = cond m (Member g a) (cond j Joining (cond u (Out NoQuorum) (cond v (Out Outvoted) (Out Stopped))))

-- rule 1 by roles
rule_roles : (stop start m j u v : Bool) (g : Group) (a : Bool)
    → start_if start (stop_if stop (by_role m j u v g a)) ≡ by_role (m && not stop) ((start || (j && not stop)) && not (m && not stop)) (u && not stop) (v && not stop) g a
rule_roles stop start m j u v g a = go stop
  where
    and_no : (a : Bool) → (a && false) ≡ false
    and_no true = refl
    and_no false = refl

    and_yes : (a : Bool) → (a && true) ≡ a
    and_yes true = refl
    and_yes false = refl

    out : (start : Bool) → start_if start stopped ≡ by_role false ((start || false) && true) false false g a
    out true = refl
    out false = refl

    runs : (start m j u v : Bool) → start_if start (by_role m j u v g a) ≡ by_role m ((start || j) && not m) u v g a
    runs true true j u v = refl
    runs false true j u v = refl
    runs true false true u v = refl
    runs true false false true v = refl
    runs true false false false true = refl
    runs true false false false false = refl
    runs false false true u v = refl
    runs false false false u v = refl

    go : (stop : Bool) → start_if start (stop_if stop (by_role m j u v g a)) ≡ by_role (m && not stop) ((start || (j && not stop)) && not (m && not stop)) (u && not stop) (v && not stop) g a
    go true = rw (and_no m, and_no j, and_no u, and_no v) (out start)
    go false = rw (and_yes m, and_yes j, and_yes u, and_yes v) (runs start m j u v)

-- who sends what, what each votes and decides, by roles
pub no_member {ℓ} : {A : Type ℓ} (f : State → A) (x : A) → f Joining ≡ x → ((r : Reason) → f (Out r) ≡ x) → (j u v : Bool) (g : Group) (a : Bool) → f (by_role false j u v g a) ≡ x
no_member f x joining out true u v g a = joining
no_member f x joining out false true v g a = out NoQuorum
no_member f x joining out false false true g a = out Outvoted
no_member f x joining out false false false g a = out Stopped

pub member_role : (m j u v : Bool) (g : Group) (a : Bool) → sends_member (by_role m j u v g a) ≡ m
member_role true j u v g a = refl
member_role false j u v g a = no_member sends_member false refl (λ r. refl) j u v g a

asks_role : (m j u v : Bool) (g : Group) (a : Bool) → asks (by_role m j u v g a) ≡ (m && a)
asks_role true j u v g a = refl
asks_role false j u v g a = no_member asks false refl (λ r. refl) j u v g a

join_role : (m x u v : Bool) (g : Group) (a : Bool) → sends_join (by_role m (x && not m) u v g a) ≡ (x && not m)
join_role true true u v g a = refl
join_role true false u v g a = refl
join_role false true u v g a = refl
join_role false false true v g a = refl
join_role false false false true g a = refl
join_role false false false false g a = refl

vote_role : (C : Config) (c : Faults) (r : Row) (p : ℕ) (m j u v : Bool) (g : Group) (a : Bool)
    → vote_of C c r p (by_role m j u v g a) ≡ cond (m && votes_now C c r p g a) (some (own_vote C.nodes c r p g)) none
vote_role C c r p true j u v g a = refl
vote_role C c r p false j u v g a = no_member (vote_of C c r p) none refl (λ z. refl) j u v g a

decides_role : (C : Config) (c : Faults) (r : Row) (q : ℕ) (m j u v : Bool) (g : Group) (a : Bool) (b : Ballots)
    → decides C c r q (by_role m j u v g a) b
    ≡ cond (m && votes_now C c r q g a) (member_decides C q (own_vote C.nodes c r q g) b)
    (cond m (silent_decides C q g b) (cond j (joiner_decides C q b) (cond u (Out NoQuorum) (cond v (Out Outvoted) (Out Stopped)))))
decides_role C c r q true j u v g a b = refl
decides_role C c r q false true u v g a b = refl
decides_role C c r q false false true v g a b = refl
decides_role C c r q false false false true g a b = refl
decides_role C c r q false false false false g a b = refl

-- the nodes that send and reach a receiver, as masks
reached : (n m lost missed : ℕ) (sends : ℕ → Bool) → ((x : ℕ) → x < n → sends x ≡ has x m) → ((x : ℕ) → ltb x n ≡ false → has x m ≡ false)
    → those n (λ p. sends p && reaches lost missed p) ≡ m ∖ lost ∖ missed
unfolding reaches
reached n m lost missed sends e high = set_ext (λ x. has-those x n (λ p. sends p && (not (has p lost) && not (has p missed))) ∙ go x (ltb x n) refl ∙ sym (two x))
  where
    two : (x : ℕ) → has x (m ∖ lost ∖ missed) ≡ ((has x m && not (has x lost)) && not (has x missed))
    two x = has_diff x (m ∖ lost) missed ∙ ap (λ (y : Bool). y && not (has x missed)) (has_diff x m lost)

    assoc : (a b c : Bool) → (a && (b && c)) ≡ ((a && b) && c)
    assoc true b c = refl
    assoc false b c = refl

    go : (x : ℕ) (a : Bool) → ltb x n ≡ a → (a && (sends x && (not (has x lost) && not (has x missed)))) ≡ ((has x m && not (has x lost)) && not (has x missed))
    go x true h = ap (λ (y : Bool). y && (not (has x lost) && not (has x missed))) (e x (ltb-lt h)) ∙ assoc (has x m) (not (has x lost)) (not (has x missed))
    go x false h = sym (ap (λ (y : Bool). (y && not (has x lost)) && not (has x missed)) (high x h))

module _ (C : Config) (s : States) (f : Faults) where
  abbrev n : ℕ
  n = C.nodes

  -- the row and the masks after rule 1
  abbrev pub row : Row
  row = rule_one n f (row_of n s)

  abbrev pub roles : Roles
  roles = roles_after n (roles_of s) f.stop f.start

  -- a state of that row
  abbrev pub state_after : ℕ → State
  state_after q = by_role (has q roles.members) (has q roles.joining) (has q roles.no_quorum) (has q roles.outvoted) (group_at s q) (has q s.roles.asking)

  members-after : (q : ℕ) → q < n → has q roles.members ≡ (has q s.roles.members && not (has q f.stop))
  unfolding roles_after
  members-after q h = has-below q n (s.roles.members ∖ f.stop) ∙ ap₂ (λ (x y : Bool). x && y) (ltb-true h) (has_diff q s.roles.members f.stop)

  joining-after : (q : ℕ) → q < n → has q roles.joining ≡ ((has q f.start || (has q s.roles.joining && not (has q f.stop))) && not (has q roles.members))
  unfolding roles_after
  joining-after q h =
      has-below q n ((f.start ∪ (s.roles.joining ∖ f.stop)) ∖ below n (s.roles.members ∖ f.stop)) ∙ ap (λ (x : Bool). x && has q ((f.start ∪ (s.roles.joining ∖ f.stop)) ∖ below n (s.roles.members ∖ f.stop))) (ltb-true h)
      ∙ has_diff q (f.start ∪ (s.roles.joining ∖ f.stop)) (below n (s.roles.members ∖ f.stop))
      ∙ ap (λ (x : Bool). x && not (has q (below n (s.roles.members ∖ f.stop)))) (has_union q f.start (s.roles.joining ∖ f.stop) ∙ ap (λ (x : Bool). has q f.start || x) (has_diff q s.roles.joining f.stop))

  pub members-high : (q : ℕ) → ltb q n ≡ false → has q roles.members ≡ false
  unfolding roles_after
  members-high q h = has-below q n (s.roles.members ∖ f.stop) ∙ ap (λ (x : Bool). x && has q (s.roles.members ∖ f.stop)) h

  pub joining-high : (q : ℕ) → ltb q n ≡ false → has q roles.joining ≡ false
  unfolding roles_after
  joining-high q h =
      has-below q n ((f.start ∪ (s.roles.joining ∖ f.stop)) ∖ below n (s.roles.members ∖ f.stop)) ∙ ap (λ (x : Bool). x && has q ((f.start ∪ (s.roles.joining ∖ f.stop)) ∖ below n (s.roles.members ∖ f.stop))) h

  out-after : (q : ℕ) → (has q roles.no_quorum ≡ (has q s.roles.no_quorum && not (has q f.stop))) × (has q roles.outvoted ≡ (has q s.roles.outvoted && not (has q f.stop)))
  unfolding roles_after
  out-after q = (has_diff q s.roles.no_quorum f.stop, has_diff q s.roles.outvoted f.stop)

  -- the row holds the states of the masks
  pub after-at : (q : ℕ) → q < n → at row q ≡ state_after q
  unfolding rule_one row_of stop_and_start state_at
  after-at q h =
      get-tabulate n q (λ x. stop_and_start (has x f.stop) (has x f.start) (at (row_of n s) x)) stopped h
      ∙ ap (stop_and_start (has q f.stop) (has q f.start)) (get-tabulate n q (state_at s) stopped h)
      ∙ rule_roles (has q f.stop) (has q f.start) (has q s.roles.members) (has q s.roles.joining) (has q s.roles.no_quorum) (has q s.roles.outvoted) (group_at s q) (has q s.roles.asking)
      ∙ sym (rw (joining-after q h, members-after q h, (out-after q).0, (out-after q).1))

  pub sends-member : (q : ℕ) → q < n → sends_member (at row q) ≡ has q roles.members
  sends-member q h = ap sends_member (after-at q h) ∙ member_role (has q roles.members) (has q roles.joining) (has q roles.no_quorum) (has q roles.outvoted) (group_at s q) (has q s.roles.asking)

  pub sends-join : (q : ℕ) → q < n → sends_join (at row q) ≡ has q roles.joining
  sends-join q h =
      ap sends_join (after-at q h) ∙ ap (λ (x : Bool). sends_join (by_role (has q roles.members) x (has q roles.no_quorum) (has q roles.outvoted) (group_at s q) (has q s.roles.asking))) (joining-after q h)
      ∙ join_role (has q roles.members) (has q f.start || (has q s.roles.joining && not (has q f.stop))) (has q roles.no_quorum) (has q roles.outvoted) (group_at s q) (has q s.roles.asking) ∙ sym (joining-after q h)

  -- the members that request
  abbrev pub asking : ℕ
  asking = roles.members ∩ s.roles.asking

  pub sends-request : (q : ℕ) → q < n → asks (at row q) ≡ has q asking
  sends-request q h =
      ap asks (after-at q h) ∙ asks_role (has q roles.members) (has q roles.joining) (has q roles.no_quorum) (has q roles.outvoted) (group_at s q) (has q s.roles.asking)
      ∙ sym (has_inter q roles.members s.roles.asking)

  pub asking-high : (q : ℕ) → ltb q n ≡ false → has q asking ≡ false
  asking-high q h = has_inter q roles.members s.roles.asking ∙ ap (λ (x : Bool). x && has q s.roles.asking) (members-high q h)

  module _ (views : List ℕ)
      (seen : (p : ℕ) → p < n → get_or views p 0 ≡ view_at n s.groups.sets (roles.members ∖ f.heartbeat_lost) (roles.joining ∖ f.heartbeat_lost) f.heartbeat_missed p) where
    pub own-vote : (q : ℕ) → q < n → own_vote n f row q (group_at s q) ≡ vote_at s.groups.numbers s.groups.sets s.groups.bases views q
    unfolding own_vote heard
    own-vote q h =
        ap (λ (x : ℕ). record { group = group_at s q; view = x })
        (ap₂ (view_of n q (get_or s.groups.sets q 0))
        (reached n roles.members f.heartbeat_lost (heartbeats_missed f q) (λ p. sends_member (at row p)) sends-member members-high)
        (reached n roles.joining f.heartbeat_lost (heartbeats_missed f q) (λ p. sends_join (at row p)) sends-join joining-high)
        ∙ sym (seen q h))

    -- the members that vote
    abbrev pub voting : ℕ
    voting = voting_of C s.groups.sets views roles (asking ∖ f.heartbeat_lost) f.heartbeat_missed

    votes-now : (q : ℕ) → q < n → votes_now C f row q (group_at s q) (has q s.roles.asking) ≡ votes_at C s.groups.sets views s.roles.asking (asking ∖ f.heartbeat_lost) f.heartbeat_missed q
    unfolding votes_now heard
    votes-now q h =
        ap₂ (λ (v : Vote) (x : ℕ). will_vote C (get_or s.groups.sets q 0) v.view (called (get_or s.groups.sets q 0) (has q s.roles.asking) x)) (own-vote q h)
        (reached n asking f.heartbeat_lost (heartbeats_missed f q) (λ p. asks (at row p)) sends-request asking-high)

    has-voting : (q : ℕ) → q < n → has q voting ≡ (has q roles.members && votes_now C f row q (group_at s q) (has q s.roles.asking))
    unfolding voting_of roles_after
    has-voting q h =
        those_in q n (λ p. has p roles.members && votes_at C s.groups.sets views s.roles.asking (asking ∖ f.heartbeat_lost) f.heartbeat_missed p) h
        ∙ ap (λ (x : Bool). has q roles.members && x) (sym (votes-now q h))

    voting-high : (q : ℕ) → ltb q n ≡ false → has q voting ≡ false
    unfolding voting_of
    voting-high q h =
        has-those q n (λ p. has p roles.members && votes_at C s.groups.sets views roles.asking (asking ∖ f.heartbeat_lost) f.heartbeat_missed p)
        ∙ ap (λ (x : Bool). x && (has q roles.members && votes_at C s.groups.sets views roles.asking (asking ∖ f.heartbeat_lost) f.heartbeat_missed q)) h

    pub sent : (p : ℕ) → get_or (votes C f row) p none ≡ ballots_of s.groups.numbers s.groups.sets s.groups.bases views voting p
    unfolding votes ballots_of
    sent p = go (ltb p n) refl
      where
        go : (a : Bool) → ltb p n ≡ a → get_or (votes C f row) p none ≡ ballots_of s.groups.numbers s.groups.sets s.groups.bases views voting p
        go true h =
            let l : p < n = ltb-lt h in
            get-tabulate n p (λ q. vote_of C f row q (at row q)) none l ∙ ap (vote_of C f row p) (after-at p l)
            ∙ vote_role C f row p (has p roles.members) (has p roles.joining) (has p roles.no_quorum) (has p roles.outvoted) (group_at s p) (has p s.roles.asking)
            ∙ ap₂ (λ (x : Bool) (v : Vote). cond x (some v) none) (sym (has-voting p l)) (own-vote p l)
        go false h =
            get-tabulate-out n p (λ q. vote_of C f row q (at row q)) none (ltb-le h)
            ∙ sym (ap (λ (x : Bool). cond x (some (vote_at s.groups.numbers s.groups.sets s.groups.bases views p)) none) (voting-high p h))

    -- what arrives at q
    abbrev pub present_at : ℕ → ℕ
    present_at q = voting ∖ f.vote_lost ∖ get_or f.vote_missed q 0

    arrived : (q : ℕ) → arrived_at f (votes C f row) q ≡ ballots_of s.groups.numbers s.groups.sets s.groups.bases views (present_at q)
    unfolding reaches ballots_of
    arrived q = λ i p. each p i
      where
        cases : (m l u : Bool) (v : Vote) → ◌≡◌ {A = Option Vote} (arrive_if (not l && not u) (cond m (some v) none)) (cond ((m && not l) && not u) (some v) none)
        cases true true u v = refl
        cases true false true v = refl
        cases true false false v = refl
        cases false true u v = refl
        cases false false true v = refl
        cases false false false v = refl

        each : (p : ℕ) → arrived_at f (votes C f row) q p ≡ ballots_of s.groups.numbers s.groups.sets s.groups.bases views (present_at q) p
        each p =
            ap (arrive_if (not (has p f.vote_lost) && not (has p (votes_missed f q)))) (sent p)
            ∙ cases (has p voting) (has p f.vote_lost) (has p (votes_missed f q)) (vote_at s.groups.numbers s.groups.sets s.groups.bases views p)
            ∙ ap (λ (x : Bool). cond x (some (vote_at s.groups.numbers s.groups.sets s.groups.bases views p)) none)
            (sym (has_diff p (voting ∖ f.vote_lost) (votes_missed f q) ∙ ap (λ (x : Bool). x && not (has p (votes_missed f q))) (has_diff p voting f.vote_lost)))

    decided : (q : ℕ) → q < n → decides C f row q (at row q) (arrived_at f (votes C f row) q) ≡ decided_at s.groups.numbers s.groups.sets s.groups.bases views C roles voting (present_at q) q
    unfolding decided_at
    decided q h =
        ap₂ (decides C f row q) (after-at q h) (arrived q)
        ∙ decides_role C f row q (has q roles.members) (has q roles.joining) (has q roles.no_quorum) (has q roles.outvoted) (group_at s q) (has q s.roles.asking) (ballots_of s.groups.numbers s.groups.sets s.groups.bases views (present_at q))
        ∙ ap₂ (λ (x : Bool) (v : Vote).
        cond x (member_decides C q v (ballots_of s.groups.numbers s.groups.sets s.groups.bases views (present_at q)))
        (cond (has q roles.members) (silent_decides C q (group_at s q) (ballots_of s.groups.numbers s.groups.sets s.groups.bases views (present_at q)))
        (cond (has q roles.joining) (joiner_decides C q (ballots_of s.groups.numbers s.groups.sets s.groups.bases views (present_at q))) (out_at roles q))))
        (sym (has-voting q h)) (own-vote q h)

    pub whole : (r : States) → ((q : ℕ) → q < n → state_at r q ≡ decided_at s.groups.numbers s.groups.sets s.groups.bases views C roles voting (present_at q) q) → row_of n r ≡ cycle C f (row_of n s)
    unfolding row_of cycle decisions
    whole r e = tabulate-ext n (state_at r) (λ q. decides C f row q (at row q) (arrived_at f (votes C f row) q)) (λ q h. e q h ∙ sym (decided q h))

-- the masks w after rule 1 hold nodes alone
pub members_below : (C : Config) (s : States) (f : Faults) (w : Roles) → w ≡ roles C s f → (p : ℕ) → has p w.members ≡ true → p < C.nodes
members_below C s f w e q h = go (ltb q C.nodes) refl
  where
    go : (b : Bool) → ltb q C.nodes ≡ b → q < C.nodes
    go true l = ltb-lt l
    go false l = absurd (false≢true (sym (members-high C s f q l) ∙ ap (λ (x : Roles). has q x.members) (sym e) ∙ h))

-- those that vote are nodes; in a press that votes in every cycle they are the members
module _ (C : Config) (sets views : List ℕ) (w : Roles) (requests : ℕ) (missed : List ℕ) where
  abbrev votes_here : ℕ → Bool
  votes_here p = has p w.members && votes_at C sets views w.asking requests missed p

  pub voting-below : (d : ℕ) → d ≡ voting_of C sets views w requests missed → (p : ℕ) → has p d ≡ true → p < C.nodes
  unfolding voting_of
  voting-below d e p h = (of_those p C.nodes votes_here (ap (has p) (sym e) ∙ h)).0

  pub all-vote : C.quiet ≡ false → ((p : ℕ) → has p w.members ≡ true → p < C.nodes) → w.members ≡ voting_of C sets views w requests missed
  unfolding voting_of will_vote
  all-vote e b = set_ext (λ x. both (has x w.members) (has x (those C.nodes votes_here)) (to x) (λ h. and_l (has x w.members) (votes_at C sets views w.asking requests missed x) (of_those x C.nodes votes_here h).1))
    where
      to : (x : ℕ) → has x w.members ≡ true → has x (those C.nodes votes_here) ≡ true
      to x h = in_those x C.nodes votes_here (b x h) (and_i (has x w.members) (votes_at C sets views w.asking requests missed x) h (rw e))

-- the same from the values that the code has on its way: the masks w after rule 1, the heartbeats and requests that go out, the members that vote
pub run_cycle : (C : Config) (s : States) (f : Faults) (w : Roles) (h0 h1 a o d t : ℕ) (views : List ℕ) (r : States)
    → w ≡ roles_after C.nodes (roles_of s) f.stop f.start → h0 ≡ w.members ∖ f.heartbeat_lost → h1 ≡ w.joining ∖ f.heartbeat_lost
    → a ≡ w.members ∩ w.asking → o ≡ a ∖ f.heartbeat_lost → d ≡ voting_of C s.groups.sets views w o f.heartbeat_missed → t ≡ d ∖ f.vote_lost
    → ((p : ℕ) → p < C.nodes → get_or views p 0 ≡ view_at C.nodes s.groups.sets h0 h1 f.heartbeat_missed p)
    → ((q : ℕ) → q < C.nodes → state_at r q ≡ decided_at s.groups.numbers s.groups.sets s.groups.bases views C w d (t ∖ get_or f.vote_missed q 0) q)
    → row_of C.nodes r ≡ cycle C f (row_of C.nodes s)
unfolding roles_after
run_cycle C s f w h0 h1 a o d t views r e e0 e1 ea eo ed et seen made =
    whole C s f views
    (λ p h. seen p h
    ∙ ap₂ (λ (x y : ℕ). view_at C.nodes s.groups.sets x y f.heartbeat_missed p) (e0 ∙ ap (λ (x : Roles). x.members ∖ f.heartbeat_lost) e) (e1 ∙ ap (λ (x : Roles). x.joining ∖ f.heartbeat_lost) e))
    r
    (λ q h. made q h
    ∙ ap₂ (λ (x : Roles) (y : ℕ). decided_at s.groups.numbers s.groups.sets s.groups.bases views C x y (t ∖ get_or f.vote_missed q 0) q) e voted
    ∙ ap (λ (x : ℕ). decided_at s.groups.numbers s.groups.sets s.groups.bases views C (roles C s f) (voting_of C s.groups.sets views (roles C s f) (asking C s f ∖ f.heartbeat_lost) f.heartbeat_missed) (x ∖ get_or f.vote_missed q 0) q) (et ∙ ap (λ (x : ℕ). x ∖ f.vote_lost) voted))
  where
    out : o ≡ asking C s f ∖ f.heartbeat_lost
    out = eo ∙ ap (λ (x : ℕ). x ∖ f.heartbeat_lost) (ea ∙ ap (λ (x : Roles). x.members ∩ x.asking) e)

    voted : d ≡ voting_of C s.groups.sets views (roles C s f) (asking C s f ∖ f.heartbeat_lost) f.heartbeat_missed
    voted = ed ∙ ap₂ (λ (x : Roles) (y : ℕ). voting_of C s.groups.sets views x y f.heartbeat_missed) e out
