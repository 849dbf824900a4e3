-- The four entries of a block as they are compiled: they meet their contracts, and so any series of their calls shows what the plain machine shows. Assumes nothing.
use mathlib.Core.Path.{◌≡◌, refl, sym, ap, ap₂, ◌∙◌}
use mathlib.Core.Bool.{Bool, true, false}
use mathlib.Core.List.{List, ◌∷◌}
use mathlib.Core.Option.{Option, none, some}
use Prim.Native.Nat.{ℕ}
use lib.Dec.{eqb}
use borrow.Author.Tests.{eqb-true, eqb-false}
use Rattle.refusal.specs.Refusal.{unless}
use Rattle.refusal.proofs.Laws.{unless-done, unless-refused}
use Rattle.registers.specs.Block.{Machine, block_of, formed_machine}
use Rattle.registers.specs.Steps.{Step, Read, read_in, step_status, step_left, step_read, step_value}
use Rattle.registers.specs.Series.{Shown, next, block_shows, block_after}
use Rattle.registers.proofs.Found.{accepted, refused-read, done-read, done_value, reads_none}
use Rattle.registers.proofs.Series.{left-of, next-formed, read_keeps, series}
use Rattle.gm.proofs.gm_register_read.Statement as gm-register-read-says
use Rattle.gm.proofs.gm_register_read.Met as gm-register-read-met
use Rattle.gm.proofs.gm_register_write.Statement as gm-register-write-says
use Rattle.gm.proofs.gm_register_write.Met as gm-register-write-met
use Rattle.gm.proofs.gm_register_cycle.Statement as gm-register-cycle-says
use Rattle.gm.proofs.gm_register_cycle.Met as gm-register-cycle-met
use Rattle.gm.proofs.gm_register_write_cycle.Statement as gm-register-write-cycle-says
use Rattle.gm.proofs.gm_register_write_cycle.Met as gm-register-write-cycle-met
use Rattle.theorem_registers.specs.Calls.{Done, none_more, read, write, cycle, write_cycle, OverBlocks}

-- ---- the compiled entries meet the contracts that their callers read

pub read_code : {M : Type 1} → gm-register-read-says.statement M
read_code {M} = gm-register-read-met.met

pub write_code : {M : Type 1} → gm-register-write-says.statement M
write_code {M} = gm-register-write-met.met

pub cycle_code : {M : Type 1} → gm-register-cycle-says.statement M
cycle_code {M} = gm-register-cycle-met.met

pub write_cycle_code : {M : Type 1} → gm-register-write-cycle-says.statement M
write_cycle_code {M} = gm-register-write-cycle-met.met

-- ---- what the caller sees is what the definitions say

-- the byte that a caller sees of a read
byte_seen : (mode a : ℕ) (x : List ℕ) (before r v : ℕ) → r ≡ step_status (Read mode a) x → v ≡ step_value (Read mode a) x before → unless r (some v) none ≡ step_read (Read mode a) x
byte_seen mode a x before r v e k = go (eqb r 0) refl
  where
    go : (b : Bool) → eqb r 0 ≡ b → unless r (some v) none ≡ step_read (Read mode a) x
    go true h =
        let z = eqb-true r 0 h in
        let m = accepted (Read mode a) x (sym e ∙ z) in
        unless-done r (some v) none z ∙ ap some (k ∙ done_value mode a x before m.0 m.1 (sym e ∙ z)) ∙ sym (done-read (Read mode a) x m.0 m.1 (sym e ∙ z))
    go false h =
        let n = eqb-false r 0 h in
        unless-refused r (some v) none n ∙ sym (refused-read (Read mode a) x (λ z. n (e ∙ z)))

-- one more call: t on x, which answers k, shows o and leaves y
one_more : (t : Step) (ts : List Step) (vs : List Shown) (x y z : List ℕ) (k : ℕ) (o : Option ℕ) → k ≡ step_status t x → o ≡ step_read t x → y ≡ step_left t x
    → (vs ≡ block_shows y ts) × (z ≡ block_after y ts) → (◌≡◌ {A = List Shown} (record { status = k; byte = o } ∷ vs) (block_shows x (t ∷ ts))) × (z ≡ block_after x (t ∷ ts))
unfolding block_shows block_after
one_more t ts vs x y z k o e d l rest = (
  ap₂ (λ (v : Shown) (w : List Shown). v ∷ w) (λ i. record { status = e i; byte = d i }) (rest.0 ∙ ap (λ (s : List ℕ). block_shows s ts) l),
  rest.1 ∙ ap (λ (s : List ℕ). block_after s ts) l,
)

-- a call that writes the block: lent at x₀, which is x, it came back at y₀, which is y
by_step : (t : Step) (ts : List Step) (vs : List Shown) (x₀ x y₀ y z : List ℕ) (r : ℕ) → ((m : Machine) → read_in t m ≡ none) → r ≡ step_status t x₀ → y₀ ≡ step_left t x₀ → x₀ ≡ x → y₀ ≡ y
    → (m : Machine) → formed_machine true m ≡ true → x ≡ block_of m
    → ((m : Machine) → formed_machine true m ≡ true → y ≡ block_of m → (vs ≡ block_shows y ts) × (z ≡ block_after y ts))
    → (◌≡◌ {A = List Shown} (record { status = r; byte = none } ∷ vs) (block_shows x (t ∷ ts))) × (z ≡ block_after x (t ∷ ts))
by_step t ts vs x₀ x y₀ y z r silent e l p q m f h rest =
    let left : y ≡ step_left t x = sym q ∙ l ∙ ap (step_left t) p in
    one_more t ts vs x y z r none (e ∙ ap (step_status t) p) (sym (reads_none t silent x)) left
    (rest (next t m) (next-formed t m f) (left ∙ ap (step_left t) h ∙ left-of t m f))

done_shows : {ts : List Step} {vs : List Shown} {x z : List ℕ} → Done ts vs x z → (m : Machine) → formed_machine true m ≡ true → x ≡ block_of m
    → (vs ≡ block_shows x ts) × (z ≡ block_after x ts)
unfolding block_shows block_after
done_shows none_more m f h = (refl, refl)
done_shows (read {ts} {vs} {x} {z} κs a r s l p rest) m f h =
    one_more t ts vs x x z r _ (l.0 ∙ ap (step_status t) p)
    (byte_seen a.0 a.1.1.0 x a.1.1.1.0.now r s.1.1.1.0.now (l.0 ∙ ap (step_status t) p) (l.1 ∙ ap (λ (y : List ℕ). step_value t y a.1.1.1.0.now) p))
    (h ∙ sym (read_keeps a.0 a.1.1.0 m f) ∙ ap (step_left t) (sym h)) (done_shows rest m f h)
  where
    t : Step
    t = Read a.0 a.1.1.0
done_shows (write {ts} {vs} {x} {y} {z} κs a r s l p q rest) m f h = by_step _ ts vs a.1.0.now x s.1.0.now y z r (λ m. refl) l.0 l.1 p q m f h (λ n g e. done_shows rest n g e)
done_shows (cycle {ts} {vs} {x} {y} {z} κs a r s l p q rest) m f h = by_step _ ts vs a.1.0.now x s.1.0.now y z r (λ m. refl) l.0 l.1 p q m f h (λ n g e. done_shows rest n g e)
done_shows (write_cycle {ts} {vs} {x} {y} {z} κs a r s l p q rest) m f h = by_step _ ts vs a.1.0.now x s.1.0.now y z r (λ m. refl) l.0 l.1 p q m f h (λ n g e. done_shows rest n g e)

pub over_blocks : OverBlocks
over_blocks m ts vs z f d =
    let seen = done_shows d m f refl in
    let same = series m ts f in
    (seen.0 ∙ same.0, seen.1 ∙ same.1)
