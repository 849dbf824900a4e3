-- The premise of silence can be met: cycles in which nothing happens, and those in which founders alone are started. Assumes nothing.
use mathlib.Core.Path.{◌≡◌, refl, sym, ap, ap₂, ◌∙◌}
use mathlib.Core.Bool.{Bool, true, false, not, ◌&&◌, ◌||◌}
use Prim.Native.Nat.{ℕ}
use lib.Dec.{eqb}
use Rattle.sets.specs.Sets.{has, single, ◌∖◌}
use Rattle.sets.proofs.Booleans.{eqb_self}
use Rattle.sets.proofs.Membership.{◌⊆◌, has_diff, has-none, set_ext}
use Rattle.sets.proofs.Nodes.{every-i}
use Rattle.rules.specs.declared.Faults.{Faults}
use Rattle.rules.specs.Faults.{tabulate, misses_other, disturbed}
use Rattle.theorem_silence.specs.Silence.{left_alone}
use Rattle.theorem_silence.proofs.Silence.{same-there}

-- the nodes of s are started, and nothing else happens
abbrev starting : ℕ → Faults
starting s =
    record { stop = 0; start = s; heartbeat_lost = 0; vote_lost = 0; heartbeat_missed = tabulate 64 (λ q. 0); vote_missed = tabulate 64 (λ q. 0) }

misses_none : (q m : ℕ) → m ≡ 0 → misses_other q m ≡ false
misses_none q m e = ap (misses_other q) e ∙ ap (λ (x : ℕ). not (eqb x 0)) nobody ∙ ap not (eqb_self 0)
  where
    nobody : 0 ∖ single q ≡ 0
    nobody = set_ext (λ x. has_diff x 0 (single q) ∙ ap (λ (b : Bool). b && not (has x (single q))) (has-none x) ∙ sym (has-none x))

nobody_disturbed : (s q : ℕ) → disturbed (starting s) q ≡ false
unfolding disturbed
nobody_disturbed s q =
    ap₂ (λ (a b : Bool). a || a || a || b || b) (has-none q) (misses_none q _ (same-there 64 q 0))

pub founders_started : (N F s : ℕ) → ◌⊆◌ s F → left_alone N F (starting s) ≡ true
unfolding left_alone
founders_started N F s inside = every-i N (λ q. not (disturbed (starting s) q) && (has q F || not (has q s))) (λ q l. ap (λ (b : Bool). not b && (has q F || not (has q s))) (nobody_disturbed s q) ∙ go (has q F) (has q s) (inside q))
  where
    go : (founder started : Bool) → (started ≡ true → founder ≡ true) → (founder || not started) ≡ true
    go true started k = refl
    go false true k = k refl
    go false false k = refl
