-- The frames that a cycle hands out are those of the definition. Assumes nothing.
use mathlib.Core.Path.{◌≡◌, ap, ap₂, ◌∙◌, subst}
use mathlib.Core.Bool.{true}
use mathlib.Core.List.{List}
use Prim.Native.Nat.{ℕ, ◌≤◌, ◌<◌}
use native.Mathlib.Omega.{arith}
use lib.ListN.{length, get_or}
use Rattle.sets.specs.Sets.{◌∩◌, ◌∖◌}
use Rattle.state.specs.State.{formed_state}
use Rattle.rules.specs.declared.Faults.{Faults}
use Rattle.rules.specs.declared.Config.{Config}
use Rattle.rules.specs.OneCycle.{stopped}
use Rattle.rules.specs.Faults.{Row}
use Rattle.rules.proofs.Rows.{get-tabulate}
use Rattle.theorem_formed.proofs.Formed.{FormedRow}
use Rattle.bus_units.specs.Run.{heartbeats_shown, votes_shown, frames_shown, frames_length}
use Rattle.parts.specs.Parts.{with_part}
use Rattle.parts.proofs.Laws.{part_length, four_parts}
use Rattle.cluster_states.specs.declared.Roles.{Roles}
use Rattle.cluster_states.specs.declared.States.{States}
use Rattle.cluster_states.specs.States.{roles_of, state_at, row_of}
use Rattle.cluster_states.specs.Decided.{roles_after, view_at, voting_of}
use Rattle.cluster_states.proofs.Whole.{roles}
use Rattle.bus_channels.specs.Channels.{channel_of, heartbeat_put, vote_put}
use Rattle.bus_units.proofs.Shown.{beats-length, ballots-length}
use Rattle.bus_cycle.proofs.Slots.{heartbeats-shown, votes-shown}

row_formed : (C : Config) (s : States) → ((q : ℕ) → q < C.nodes → formed_state C.quiet q C.nodes (state_at s q) ≡ true) → FormedRow C (row_of C.nodes s)
unfolding row_of
row_formed C s w q l = ap (formed_state C.quiet q C.nodes) (get-tabulate C.nodes q (state_at s) stopped l) ∙ w q l

module _ (C : Config) (count : ℕ) (s : States) (f : Faults) (views frames : List ℕ) (few : C.nodes ≤ 64) (counted : count < 64) (sized : length frames ≡ frames_length)
    (formed : (q : ℕ) → q < C.nodes → formed_state C.quiet q C.nodes (state_at s q) ≡ true) where
  abbrev n : ℕ
  n = C.nodes

  abbrev beats : Roles → ℕ → List ℕ
  beats w channel = channel_of n (heartbeat_put w count channel)

  -- d are the members that vote
  abbrev ballots : ℕ → ℕ → List ℕ
  ballots d channel = channel_of n (vote_put s.groups.numbers s.groups.sets s.groups.bases views d count channel)

  abbrev Seen : Roles → Type 0
  Seen w = (p : ℕ) → p < n → get_or views p 0 ≡ view_at n s.groups.sets (w.members ∖ f.heartbeat_lost) (w.joining ∖ f.heartbeat_lost) f.heartbeat_missed p

  abbrev voting_in : Roles → ℕ
  voting_in w = voting_of C s.groups.sets views w ((w.members ∩ w.asking) ∖ f.heartbeat_lost) f.heartbeat_missed

  -- where the masks are those after rule 1
  module _ (seen : Seen (roles C s f)) where
    abbrev row : Row
    row = row_of n s

    abbrev d : ℕ
    d = voting_in (roles C s f)

    votes-are : (channel : ℕ) → ballots d channel ≡ votes_shown C count f row channel
    unfolding roles_after
    votes-are channel = votes-shown C s f count channel few counted (row_formed C s formed) views seen

    filled : with_part 6912 (ballots d 1) (with_part 4608 (ballots d 0) (with_part 2304 (beats (roles C s f) 1) (with_part 0 (beats (roles C s f) 0) frames))) ≡ frames_shown C count f row
    unfolding frames_shown
    filled =
        ap₂ (λ (x y : List ℕ). with_part 6912 y (with_part 4608 x (with_part 2304 (beats (roles C s f) 1) (with_part 0 (beats (roles C s f) 0) frames)))) (votes-are 0) (votes-are 1)
        ∙ ap₂ (λ (x y : List ℕ). with_part 6912 (votes_shown C count f row 1) (with_part 4608 (votes_shown C count f row 0) (with_part 2304 y (with_part 0 x frames)))) (heartbeats-shown C s f count 0 few) (heartbeats-shown C s f count 1 few)
        ∙ four_parts (heartbeats_shown C count f row 0) (heartbeats_shown C count f row 1) (votes_shown C count f row 0) (votes_shown C count f row 1) frames 2304 4608 6912
        (beats-length C count f row 0) (omega (arith, beats-length C count f row 1)) (omega (arith, ballots-length C count f row 0))
        (omega (arith, ballots-length C count f row 1, sized))

  -- from the values that the code has on its way: the masks w after rule 1, those that vote, and the lent frames after each phase
  pub cycle-shown : (w : Roles) (d : ℕ) (h z : List ℕ) → w ≡ roles_after n (roles_of s) f.stop f.start → Seen w → d ≡ voting_in w
      → h ≡ with_part 2304 (beats w 1) (with_part 0 (beats w 0) frames) → z ≡ with_part 6912 (ballots d 1) (with_part 4608 (ballots d 0) h)
      → z ≡ frames_shown C count f (row_of n s)
  cycle-shown w d h z e seen ed eh ez =
      ez ∙ ap₂ (λ (x : ℕ) (y : List ℕ). with_part 6912 (ballots x 1) (with_part 4608 (ballots x 0) y)) ed eh
      ∙ ap (λ (x : Roles). with_part 6912 (ballots (voting_in x) 1) (with_part 4608 (ballots (voting_in x) 0) (with_part 2304 (beats x 1) (with_part 0 (beats x 0) frames)))) e
      ∙ filled (subst Seen e seen)

  beats-sized : (channel : ℕ) → length (beats (roles C s f) channel) ≡ 2304
  beats-sized channel = ap (λ (x : List ℕ). length x) (heartbeats-shown C s f count channel few) ∙ beats-length C count f (row_of n s) channel

  -- the lent frames keep their length
  pub still-sized : (w : Roles) (h : List ℕ) → w ≡ roles_after n (roles_of s) f.stop f.start → h ≡ with_part 2304 (beats w 1) (with_part 0 (beats w 0) frames) → length h ≡ frames_length
  still-sized w h e eh =
      let la : length (beats w 0) ≡ 2304 = ap (λ (x : Roles). length (beats x 0)) e ∙ beats-sized 0 in
      let lb : length (beats w 1) ≡ 2304 = ap (λ (x : Roles). length (beats x 1)) e ∙ beats-sized 1 in
      let one : length (with_part 0 (beats w 0) frames) ≡ length frames = part_length 0 (beats w 0) frames (omega arith) in
      ap (λ (x : List ℕ). length x) eh ∙ part_length 2304 (beats w 1) (with_part 0 (beats w 0) frames) (omega arith) ∙ one ∙ sized
