-- `row_press::call` as it is compiled: it meets its contract, the contract tells `Told` of each call, and so demand 3 holds over any list of its calls.
-- Assumes nothing.
use mathlib.Core.Path.{◌≡◌, refl, sym, ap, ◌∙◌, subst}
use mathlib.Core.Logic.{◌⊎◌, inl, inr}
use mathlib.Core.Bool.{true, true≢false}
use mathlib.Core.List.{List, [], ◌∷◌}
use Prim.Native.Nat.{ℕ}
use seplogic.Ra.Ura.{Ura}
use base.Logic.{SProp, ent, sep, ex, ex_i, ex_e, via, mono_r, fst∗, snd∗}
use base.Fml.{Lft}
use prog.Memory.{Memory}
use prog.Routine.{Routine}
use types.Logic.{Logic, sem}
use contract.Monad.{Fun, fact, fact_mono, fact_use}
use denote.Ref.{Bor}
use denote.MutBor.{MutBor}
use denote.Triple.Clauses.{Lasts, lasts}
use Rattle.std.specs.Prelude.{Result}
use Rattle.sets.specs.Sets.{below}
use Rattle.refusal.specs.declared.Refusal.{Refusal}
use Rattle.refusal.specs.Codes.{status_of}
use Rattle.state.specs.declared.Node.{Node}
use Rattle.row.specs.Row.{nodes_of}
use Rattle.bus_units.specs.Run.{frames_length}
use Rattle.row_calls.specs.declared.Task.{Task}
use Rattle.row_calls.specs.Histories.{Call, status, left, nodes_after, history_after, AllIn, ruled, Begun, at_beginning, Promised}
use Rattle.rules.specs.OneCycle.{wrong_mode}
use Rattle.row_calls.proofs.OverCalls.{over_calls}
use Rattle.row_calls.proofs.Counts.{mode_known}
use Rattle.row_press.specs.contracts.call as call
use Rattle.row_press.proofs.call.Statement as call-says
use Rattle.row_press.proofs.call.Met as call_met
use Rattle.theorem_entries.specs.Rows.{Told, Done, none, call as one_more, OverRows}

-- the compiled entry meets the contract that its callers read
pub code : {M : Type 1} → call-says.statement M
code {M} = call_met.met

-- ---- what that contract ensures of a call

both_facts : {M : Type 1} (𝓤 : Ura M) (P Q : Type 0) → ent 𝓤 (sep 𝓤 (fact 𝓤 P) (fact 𝓤 Q)) (fact 𝓤 (P × Q))
both_facts 𝓤 P Q =
    fact_use 𝓤 P (fst∗ 𝓤 (fact 𝓤 P) (fact 𝓤 Q)) (λ p. via 𝓤 (fact 𝓤 Q) (snd∗ 𝓤 (fact 𝓤 P) (fact 𝓤 Q)) (fact_mono 𝓤 Q (P × Q) (λ q. (p, q))))

-- a call of the routine with the task t, the number n, the mode m, the row x and the bytes b, that answers r, whose number is the status
module _ {M : Type 1} {𝓤 : Ura M} (𝓛 : Logic 𝓤) (mem : Memory → SProp 𝓤) (run : Routine → Fun 𝓤)
    (κ κ₁ : Lft) (t : Task) (n m : ℕ) (x : MutBor (List Node)) (b : Bor (List ℕ)) (r : Result (Unit {0}) Refusal) where
  abbrev κs : Lft × (Lft × Unit {0})
  κs = (κ, (κ₁, tt))

  abbrev a : Task × (ℕ × (ℕ × (MutBor (List Node) × (Bor (List ℕ) × Unit {0}))))
  a = (t, (n, (m, (x, (b, tt)))))

  abbrev made : Call
  made = record { task = t; count = n; mode = m; room = frames_length; bytes = b.now }

  -- the parameters' last values, of which the row has the one, and that they are the last
  abbrev Ends : Type 0
  Ends = Lasts call.ended κs a

  abbrev last_row : Ends → List Node
  last_row ws = ws.1.1.1.0

  abbrev Last : Ends → SProp 𝓤
  Last ws = sem 𝓛 (lasts call.ended κs a ws)

  -- the contract's `ensures` is `Told` of the row's last value
  pub tells : ent 𝓤 ((call.spec 𝓛 mem run κs a).ensures tt r) (ex 𝓤 (λ (ws : Ends). sep 𝓤 (Last ws) (fact 𝓤 (Told made x.now (status_of r) (last_row ws)))))
  tells =
      ex_e 𝓤 _ (λ ws.
      via 𝓤 _ (mono_r 𝓤 (Last ws) (both_facts 𝓤 (status_of r ≡ status made x.now) (last_row ws ≡ left made x.now)))
      (via 𝓤 _ (mono_r 𝓤 (Last ws) (fact_mono 𝓤 ((status_of r ≡ status made x.now) × (last_row ws ≡ left made x.now)) (Told made x.now (status_of r) (last_row ws)) (λ k. (refl, k.0, k.1))))
      (ex_i 𝓤 (λ (ws : Ends). sep 𝓤 (Last ws) (fact 𝓤 (Told made x.now (status_of r) (last_row ws)))) ws)))

-- ---- a list of calls

done_rows : {cs : List Call} {x z : List Node} → Done cs x z → z ≡ nodes_after cs x
unfolding nodes_after
done_rows none = refl
done_rows (one_more {c} {cs} {x} {y} {z} r told rest) = done_rows rest ∙ ap (λ (v : List Node). nodes_after cs v) told.2

pub over_rows : OverRows
over_rows mode n h cs x z all b d = subst (λ (v : List Node). Promised mode n v (history_after cs x h)) (sym (done_rows d)) (over_calls mode n x h cs all b)

-- ---- the premises can be met: any calls in the mode or in none, with the room for frames that the entry has, from the beginning of any founding set

abbrev pub Roomed : List Call → Type 0
Roomed [] = Unit {0}
Roomed (c ∷ cs) = (c.room ≡ frames_length) × Roomed cs

abbrev pub EachIn : (mode : ℕ) → List Call → Type 0
EachIn mode [] = Unit {0}
EachIn mode (c ∷ cs) = ((c.mode ≡ mode) ⊎ (wrong_mode c.mode ≡ true)) × EachIn mode cs

made_there : (cs : List Call) (x : List Node) → Roomed cs → Done cs x (nodes_after cs x)
unfolding nodes_after
made_there [] x k = none
made_there (c ∷ cs) x k = one_more (status c x) (k.0, refl, refl) (made_there cs (left c x) k.1)

-- a call in no mode is refused, so that it may stand among those of the press
pub each_in : (mode : ℕ) (cs : List Call) (x : List Node) → EachIn mode cs → AllIn mode cs x
unfolding AllIn
each_in mode [] x e = tt
each_in mode (c ∷ cs) x e = (own e.0, each_in mode cs (left c x) e.1)
  where
    own : (c.mode ≡ mode) ⊎ (wrong_mode c.mode ≡ true) → status c x ≡ 0 → c.mode ≡ mode
    own (inl same) z = same
    own (inr wrong) z = absurd (true≢false (sym wrong ∙ mode_known c.task c.count c.mode x c.room c.bytes z))

pub rows_there : (mode n F : ℕ) (cs : List Call) → below n F ≡ F → Roomed cs → EachIn mode cs
    → (x : List Node) × (z : List Node) × AllIn mode cs x × Begun mode n x (record { founding = F; cycles = [] }) cs × Done cs x z
rows_there mode n F cs founders k e =
    let x = nodes_of n (ruled mode n (record { founding = F; cycles = [] })) in
    (x, nodes_after cs x, each_in mode cs x e, at_beginning (record { holds = refl; founders = founders }) refl, made_there cs x k)
