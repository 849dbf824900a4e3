-- Request 3 on quiet presses: "A quiet press with no unit touched or started since its beginning sends no vote at all", and what its members hold that do not
-- request. N nodes, begun with group number G and founding set F.
-- Assumes nothing.
use Rattle.std.specs.Prelude.{◌≡◌, Bool, true, false, not, ◌&&◌, ◌||◌, List, [], ◌∷◌, ℕ, ◌<◌}
use Rattle.std.proofs.Math.Option.{Option, none}
use Rattle.sets.specs.Sets.{has, every}
use Rattle.state.specs.declared.Group.{Group}
use Rattle.state.specs.declared.State.TheVariants.{Member}
use Rattle.rules.specs.declared.Vote.{Vote}
use Rattle.rules.specs.declared.Faults.{Faults}
use Rattle.rules.specs.OneCycle.{quietly}
use Rattle.rules.specs.Faults.{Row, at, tabulate, founding, disturbed, rule_one, votes}
use Rattle.rules.specs.Reference.{beginning, after}

-- "no unit touched or started": a start that names a founder does nothing, and may be given
unfoldable pub left_alone : ℕ → ℕ → Faults → Bool
left_alone N F c = every N (λ q. not (disturbed c q) && (has q F || not (has q c.start)))

unfoldable pub all_left : ℕ → ℕ → List Faults → Bool
all_left N F [] = true
all_left N F (c ∷ cs) = left_alone N F c && all_left N F cs

-- the row after the cycles `past`
abbrev pub quiet_row : ℕ → ℕ → ℕ → List Faults → Row
quiet_row N G F past = (after (quietly N) (beginning (quietly N) G F) past).row

-- what all send in the cycle c
abbrev pub sent_in : ℕ → Faults → Row → List (Option Vote)
sent_in N c row = votes (quietly N) c (rule_one N c row)

abbrev pub no_votes : ℕ → List (Option Vote)
no_votes N = tabulate N (λ q. none)

pub record Silence (N G F : ℕ) : Type 0 where
  -- "sends no vote at all"
  pub silent : (past : List Faults) (c : Faults) → all_left N F past ≡ true → left_alone N F c ≡ true → sent_in N c (quiet_row N G F past) ≡ no_votes N
  -- and every unit is as at the beginning
  pub unchanged : (past : List Faults) → all_left N F past ≡ true → quiet_row N G F past ≡ founding N G F

-- After any cycles, touched or not: the base of a member that does not request is its set ("otherwise it keeps G and M, and B becomes M").
abbrev pub RestsBased : ℕ → ℕ → ℕ → Type 0
RestsBased N G F = (past : List Faults) (q : ℕ) (g : Group) → q < N → at (quiet_row N G F past) q ≡ Member g false → g.base ≡ g.set
