use mathlib.Core.Path.{◌≡◌}
use Prim.Native.Nat.{ℕ, ◌<◌, ◌≤◌}
use native.Mathlib.Omega.{arith}
use lib.ListN.{replicate, get_or-replicate}
use Rattle.sets.proofs.Membership.{has-none}
use Rattle.state.specs.State.{initial}
use Rattle.rules.specs.Faults.{founding}
use Rattle.rules.proofs.Rows.{tabulate-ext}
use Rattle.cluster_states.specs.declared.States.{States}
use Rattle.cluster_states.specs.States.{state_at, row_of}
use Rattle.cluster_states.proofs.begin.Goals as goal

-- the founders hold the founding group, and nobody else is anything
abbrev founders : ℕ → States
founders F =
    record { roles = record { members = F; asking = 0; joining = 0; no_quorum = 0; outvoted = 0 }; groups = record { numbers = replicate 64 0; sets = replicate 64 F; bases = replicate 64 F } }

at_first : (F q : ℕ) → q < 64 → state_at (founders F) q ≡ initial 0 F q
unfolding state_at
at_first F q h = rw (has-none q, get_or-replicate {A = ℕ} 64 q 0 0 h, get_or-replicate {A = ℕ} 64 q F 0 h)

founded : (n F : ℕ) → n ≤ 64 → row_of n (founders F) ≡ founding n 0 F
unfolding row_of founding
founded n F h = tabulate-ext n (state_at (founders F)) (initial 0 F) (λ q l. at_first F q (less q l))
  where
    less : (q : ℕ) → q < n → q < 64
    less q l = omega arith

pub returns : goal.returns
returns c =
    let zeros = c.default.ensures in
    rw (zeros.1.0, zeros.1.1.0, zeros.1.1.1.0, zeros.1.1.1.1, c.all.ensures) (founded c.args.n c.args.founding c.requires)
