-- Flags, enables and the byte that follows from both, looked at and written. Assumes nothing.
use mathlib.Core.Path.{◌≡◌, refl, sym, ap, ap₂, ◌∙◌}
use mathlib.Core.Bool.{Bool, true, false, ◌&&◌}
use mathlib.Core.List.{List, [], ◌∷◌, ◌++◌}
use Prim.Native.Nat.{ℕ, suc}
use native.Mathlib.Omega.{arith}
use lib.Dec.{eqb, ltb}
use lib.ListN.{get_or, length, take, drop, set, take-append-drop}
use lib.Seq.{drop-cons, length-take-le}
use Rattle.registers.specs.Block.{flags_in, pending_byte, all_zero, reads_so}
use Rattle.registers.proofs.Bits.{byte_back}
use Rattle.registers.proofs.Written.{pending_byte_lem}
use Rattle.register_block.specs.Bytes.{shares, with_flags}

-- of two bytes below 8 it is byte 26
pub shares_pending : (f e : ℕ) → ltb f 8 ≡ true → ltb e 8 ≡ true → shares f e ≡ pending_byte (flags_in f) (flags_in e)
shares_pending f e a b = sym (pending_byte_lem (flags_in f) (flags_in e) ∙ ap₂ shares (byte_back f a) (byte_back e b))

pub reads_so_lem : (s : List ℕ) (p : ℕ) (z : Bool) → p ≡ shares (get_or s 24 0) (get_or s 25 0) → z ≡ all_zero (drop 27 s)
    → (ltb (get_or s 24 0) 8 && ltb (get_or s 25 0) 8 && eqb (get_or s 26 0) p && z) ≡ reads_so s
unfolding reads_so
reads_so_lem s p z e k = go (ltb (get_or s 24 0) 8) (ltb (get_or s 25 0) 8) refl refl
  where
    go : (a b : Bool) → ltb (get_or s 24 0) 8 ≡ a → ltb (get_or s 25 0) 8 ≡ b
        → (a && b && eqb (get_or s 26 0) p && z) ≡ (a && b && eqb (get_or s 26 0) (pending_byte (flags_in (get_or s 24 0)) (flags_in (get_or s 25 0))) && all_zero (drop 27 s))
    go true true f g = ap₂ (λ (q : ℕ) (t : Bool). eqb (get_or s 26 0) q && t) (e ∙ shares_pending (get_or s 24 0) (get_or s 25 0) f g) k
    go true false f g = refl
    go false b f g = refl

-- three bytes behind a front
set_three : (front r : List ℕ) (k x y z f e p : ℕ) → length front ≡ k
    → set (set (set (front ++ x ∷ y ∷ z ∷ r) k f) (suc k) e) (suc (suc k)) p ≡ front ++ f ∷ e ∷ p ∷ r
set_three [] r k x y z f e p l = ap (λ (i : ℕ). set (set (set (x ∷ y ∷ z ∷ r) i f) (suc i) e) (suc (suc i)) p) (sym l)
set_three (a ∷ front) r k x y z f e p l =
    ap (λ (i : ℕ). set (set (set (a ∷ (front ++ x ∷ y ∷ z ∷ r)) i f) (suc i) e) (suc (suc i)) p) (sym l)
    ∙ ap (λ (t : List ℕ). a ∷ t) (set_three front r (length front) x y z f e p refl)

pub flags_put : (s : List ℕ) (f e p : ℕ) → length s ≡ 64 → p ≡ shares f e → set (set (set s 24 f) 25 e) 26 p ≡ with_flags f e s
unfolding with_flags
flags_put s f e p l k =
    let rest : drop 24 s ≡ get_or s 24 0 ∷ get_or s 25 0 ∷ get_or s 26 0 ∷ drop 27 s =
    drop-cons s 24 0 (omega arith) ∙ ap (λ (t : List ℕ). get_or s 24 0 ∷ t) (drop-cons s 25 0 (omega arith) ∙ ap (λ (t : List ℕ). get_or s 25 0 ∷ t) (drop-cons s 26 0 (omega arith))) in
    ap (λ (t : List ℕ). set (set (set t 24 f) 25 e) 26 p) (sym (take-append-drop 24 s) ∙ ap (λ (t : List ℕ). take 24 s ++ t) rest)
    ∙ set_three (take 24 s) (drop 27 s) 24 (get_or s 24 0) (get_or s 25 0) (get_or s 26 0) f e p (length-take-le 24 s (omega arith))
    ∙ ap (λ (q : ℕ). take 24 s ++ f ∷ e ∷ q ∷ drop 27 s) k
