-- Votes as the code holds them: four arrays, one slot per sender, and the mask of the slots that hold a vote.
-- Assumes nothing.
use Rattle.std.specs.Prelude.{◌≡◌, Bool, true, not, ◌||◌, cond, List, ℕ, ◌<◌, get_or, set, replicate}
use Rattle.std.proofs.Math.Option.{none, some}
use Rattle.sets.specs.Sets.{has, those}
use Rattle.state.specs.declared.Group.{Group}
use Rattle.rules.specs.declared.Groups.{Groups}
use Rattle.rules.specs.declared.Vote.{Vote}
use Rattle.rules.specs.OneCycle.{Ballots, is, fits}

-- the group and the vote in slot p
abbrev pub group_at : List ℕ → List ℕ → List ℕ → ℕ → Group
group_at numbers sets bases p = record { number = get_or numbers p 0; set = get_or sets p 0; base = get_or bases p 0 }

-- the groups with that of slot p put in, and the same group in every slot
abbrev pub with_group : Groups → ℕ → Group → Groups
with_group s p g = record { numbers = set s.numbers p g.number; sets = set s.sets p g.set; bases = set s.bases p g.base }

abbrev pub one_group : Group → Groups
one_group g = record { numbers = replicate 64 g.number; sets = replicate 64 g.set; bases = replicate 64 g.base }

abbrev pub vote_at : List ℕ → List ℕ → List ℕ → List ℕ → ℕ → Vote
vote_at numbers sets bases views p = record { group = group_at numbers sets bases p; view = get_or views p 0 }

unfoldable pub ballots_of : List ℕ → List ℕ → List ℕ → List ℕ → ℕ → Ballots
ballots_of numbers sets bases views present p = cond (has p present) (some (vote_at numbers sets bases views p)) none

-- the slots whose vote is v
abbrev pub equal_to : List ℕ → List ℕ → List ℕ → List ℕ → ℕ → ℕ → Vote → ℕ
equal_to numbers sets bases views N present v = those N (λ p. is v (ballots_of numbers sets bases views present p))

-- the slots of m below N that hold a vote hold one and the same
abbrev pub OneVote : List ℕ → List ℕ → List ℕ → List ℕ → ℕ → ℕ → ℕ → Type 0
OneVote numbers sets bases views N present m =
    (p x : ℕ) → p < N → x < N → has p present ≡ true → has x present ≡ true → has p m ≡ true → has x m ≡ true
    → vote_at numbers sets bases views p ≡ vote_at numbers sets bases views x

-- whether the vote in slot p fits the joining node q, and whether it leaves v the only one
abbrev pub fits_at : ℕ → ℕ → Ballots → ℕ → Bool
fits_at N q b p = fits N q b (b p)

abbrev pub agrees_at : ℕ → ℕ → Ballots → Vote → ℕ → Bool
agrees_at N q b v p = not (fits_at N q b p) || is v (b p)
