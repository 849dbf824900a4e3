-- Frames on a channel: each stands in its sender's slot when all nodes have sent. Assumes nothing.
use mathlib.Core.Path.{◌≡◌, refl, sym, ap, ◌∙◌, subst}
use mathlib.Core.Logic.{◌⊎◌, inl, inr}
use mathlib.Core.Bool.{true, false}
use mathlib.Core.List.{List}
use mathlib.Core.Option.{Option, none, some}
use Prim.Native.Nat.{ℕ, zero, suc, ◌+◌, ◌*◌, ◌≤◌, ◌<◌}
use native.Mathlib.Numerals.{add-one}
use native.Mathlib.Omega.{arith}
use lib.Dec.{eqb}
use lib.ListN.{length, take, drop, replicate, length-replicate}
use borrow.Author.Tests.{eqb-false}
use Rattle.parts.proofs.Laws.{part_length, part-there, part-kept}
use Rattle.sets.proofs.Booleans.{bool, eqb-true}
use Rattle.bus_channels.specs.Channels.{with_frame, with_sent, channel_of}

-- a channel on which the first n nodes have sent
pub record Carries (n : ℕ) (sent : ℕ → Option (List ℕ)) (c : List ℕ) : Type 0 where
  pub sized : length c ≡ 2304
  pub there : (p : ℕ) (x : List ℕ) → p < n → sent p ≡ some x → take (length x) (drop (36 * p) c) ≡ x

module _ (sent : ℕ → Option (List ℕ)) (short : (q : ℕ) (x : List ℕ) → sent q ≡ some x → length x ≤ 36) where
  -- node n sends too
  next : (n : ℕ) (c : List ℕ) → n < 64 → Carries n sent c → (o : Option (List ℕ)) → sent n ≡ o → Carries (suc n) sent (with_sent n o c)
  next n c l h none e = record { sized = h.sized; there = λ p x k f. go p x k f (bool (eqb p n)) }
    where
      not_none : {x : List ℕ} → none ≡ some x → ⊥
      not_none z = let y : ◌≡◌ {A = ℕ} 0 1 = cc in omega arith

      go : (p : ℕ) (x : List ℕ) → p < suc n → sent p ≡ some x → (eqb p n ≡ true) ⊎ (eqb p n ≡ false) → take (length x) (drop (36 * p) c) ≡ x
      go p x k f (inl i) = absurd (not_none (sym e ∙ ap sent (sym (eqb-true i)) ∙ f))
      go p x k f (inr i) = let z : p ≡ n → ⊥ = eqb-false p n i in h.there p x (omega arith) f
  next n c l h (some y) e = record { sized = part_length (36 * n) y c room ∙ h.sized; there = λ p x k f. go p x k f (bool (eqb p n)) }
    where
      room : 36 * n + length y ≤ length c
      room = let a : length y ≤ 36 = short n y e in let b : length c ≡ 2304 = h.sized in omega arith

      same : {x y : List ℕ} → some y ≡ some x → y ≡ x
      same z = cc

      go : (p : ℕ) (x : List ℕ) → p < suc n → sent p ≡ some x → (eqb p n ≡ true) ⊎ (eqb p n ≡ false) → take (length x) (drop (36 * p) (with_frame n y c)) ≡ x
      go p x k f (inl i) =
          let z : p ≡ n = eqb-true i in
          let w : y ≡ x = same (sym e ∙ ap sent (sym z) ∙ f) in
          subst (λ (v : List ℕ). take (length v) (drop (36 * p) (with_frame n y c)) ≡ v) w
          (ap (λ (m : ℕ). take (length y) (drop (36 * m) (with_frame n y c))) z ∙ part-there (36 * n) y c (omega (arith, room)))
      go p x k f (inr i) =
          let z : p ≡ n → ⊥ = eqb-false p n i in
          let a : length x ≤ 36 = short p x f in
          part-kept (36 * n) y c (omega (arith, room)) (36 * p) (length x) (omega arith) ∙ h.there p x (omega arith) f

  pub carries : (n : ℕ) → n ≤ 64 → Carries n sent (channel_of n sent)
  unfolding channel_of
  carries zero l = record { sized = length-replicate {A = ℕ} 2304 0; there = λ p x k f. absurd (none_below p k) }
    where
      none_below : (p : ℕ) → p < 0 → ⊥
      none_below p k = omega arith
  carries (suc n) l = next n (channel_of n sent) (omega arith) (carries n (omega arith)) (sent n) refl

-- how a loop puts the frames on a channel
pub channel_none : (sent : ℕ → Option (List ℕ)) → replicate 2304 0 ≡ channel_of 0 sent
unfolding channel_of
channel_none sent = refl

pub channel_next : (n : ℕ) (sent : ℕ → Option (List ℕ)) (c r : List ℕ) → c ≡ channel_of n sent → r ≡ with_sent n (sent n) c → r ≡ channel_of (n + 1) sent
unfolding channel_of
channel_next n sent c r e f = f ∙ ap (with_sent n (sent n)) e ∙ ap (λ (m : ℕ). channel_of m sent) (sym (add-one n))
