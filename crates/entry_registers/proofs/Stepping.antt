-- What a step answers and leaves, by what the code looked at. Assumes nothing.
use mathlib.Core.Path.{◌≡◌, refl, sym, ap, ◌∙◌}
use mathlib.Core.Bool.{Bool, true, false, not, cond}
use mathlib.Core.List.{List}
use Prim.Native.Nat.{ℕ, ◌≤◌, ◌<◌}
use native.Mathlib.Omega.{arith}
use lib.Dec.{eqb}
use lib.ListN.{get_or, length, take}
use lib.Seq.{length-take-le}
use borrow.Author.Tests.{eq-eqb, eqb-true}
use Rattle.bigendian.proofs.Laws.{Bytes}
use Rattle.sets.proofs.Booleans.{and_l}
use Rattle.state.specs.declared.Node.{Node}
use Rattle.std.specs.Prelude.{Result, Ok, Err}
use Rattle.refusal.specs.declared.Refusal.{Refusal}
use Rattle.refusal.specs.declared.Refusal.TheVariants.{Image}
use Rattle.refusal.specs.Codes.{code_of, status_of}
use Rattle.refusal.proofs.Codes.{numbered}
use Rattle.state.specs.State.{formed, formed_place, formed_state}
use Rattle.state.specs.Image.{decoded, well_formed, node_at}
use Rattle.state.proofs.Fields.{place_bounds}
use Rattle.refusal.proofs.Laws.{here}
use Rattle.rules.specs.OneCycle.{wrong_mode, quiet_in}
use Rattle.registers.specs.Block.{Machine, LentBlock, Holds, WrongLength, Malformed, flags_in, block_of, reads_so, machine_in, registers_at}
use Rattle.registers.specs.Steps.{Step, Read, Write, WriteCycle, mode_of, written, cycled, stepped, wrong_address, wrong_votes, found_by, step_status, step_left, step_value}
use Rattle.registers.proofs.Blocks.{block_back, held_block, shown_is_byte}
use Rattle.registers.proofs.Found.{status_in, status-found, accepted, done-left, done_value, refused_left, refused-value}
use Rattle.registers.proofs.Formed.{written-formed}
use Rattle.registers.proofs.Written.{ignored}
use Rattle.register_block.specs.Bytes.{rest_status}
use Rattle.entry_registers.specs.InPlace.{block_status, refusal_of}

-- ---- a lent block

-- apart from its state it is refused, or not
pub rest_refused : (quiet : Bool) (s : List ℕ) → (rest_status s ≡ 0 → ⊥) → rest_status s ≡ block_status (registers_at quiet s)
unfolding rest_status registers_at
rest_refused quiet s h = go (eqb (length s) 64) (reads_so s) h
  where
    go : (b c : Bool) → (◌≡◌ {A = ℕ} (cond b (cond c 0 4) 3) 0 → ⊥) → ◌≡◌ {A = ℕ} (cond b (cond c 0 4) 3) (block_status (cond b (cond c (machine_in (decoded quiet (take 24 s)) s) Malformed) WrongLength))
    go true true h = absurd (h refl)
    go true false h = refl
    go false c h = refl

pub rest_passed : (s : List ℕ) → rest_status s ≡ 0 → (length s ≡ 64) × (reads_so s ≡ true)
unfolding rest_status
rest_passed s = go (eqb (length s) 64) (reads_so s) refl
  where
    go : (b c : Bool) → eqb (length s) 64 ≡ b → ◌≡◌ {A = ℕ} (cond b (cond c 0 4) 3) 0 → (length s ≡ 64) × (c ≡ true)
    go true true e h = (eqb-true (length s) 64 e, refl)
    go true false e h = let z : ◌≡◌ {A = ℕ} 4 0 = h in absurd (omega arith)
    go false c e h = let z : ◌≡◌ {A = ℕ} 3 0 = h in absurd (omega arith)

-- then the state decides: its 24 bytes are an image or none
pub by_state : (quiet : Bool) (s : List ℕ) → rest_status s ≡ 0 → registers_at quiet s ≡ machine_in (decoded quiet (take 24 s)) s
unfolding registers_at
by_state quiet s z = let l = rest_passed s z in rw (eq-eqb (length s) 64 l.0, l.1)

pub state_status : (quiet : Bool) (s : List ℕ) → rest_status s ≡ 0 → status_of (decoded quiet (take 24 s)) ≡ block_status (registers_at quiet s)
unfolding decoded
state_status quiet s z = rw (by_state quiet s z, eq-eqb (length (take 24 s)) 24 (length-take-le 24 s (let l = (rest_passed s z).0 in omega arith))) (go (well_formed quiet (take 24 s)))
  where
    go : (b : Bool) → status_of (cond b (Ok (node_at (take 24 s))) (Err Image)) ≡ block_status (machine_in (cond b (Ok (node_at (take 24 s))) (Err Image)) s)
    go true = refl
    go false = refl

-- and the node that is found is that of the machine
pub machine_of : (quiet : Bool) (s : List ℕ) (n : Node) → 0 ≡ block_status (registers_at quiet s) → decoded quiet (take 24 s) ≡ Ok n
    → registers_at quiet s ≡ Holds (record { node = n; flags = flags_in (get_or s 24 0); enables = flags_in (get_or s 25 0) })
unfolding registers_at
machine_of quiet s n z d = go (eqb (length s) 64) (reads_so s) z ∙ ap (λ (x : Result Node Refusal). machine_in x s) d
  where
    go : (b c : Bool) → 0 ≡ block_status (cond b (cond c (machine_in (decoded quiet (take 24 s)) s) Malformed) WrongLength)
        → cond b (cond c (machine_in (decoded quiet (take 24 s)) s) Malformed) WrongLength ≡ machine_in (decoded quiet (take 24 s)) s
    go true true e = refl
    go true false e = absurd (let y : ◌≡◌ {A = ℕ} 0 4 = e in omega arith)
    go false c e = absurd (let y : ◌≡◌ {A = ℕ} 0 3 = e in omega arith)

-- 2, 3 and 4 are those of the block where the mode is one
pub in_mode_lem : (mode : ℕ) (s : List ℕ) → wrong_mode mode ≡ false → refusal_of mode s ≡ block_status (registers_at (quiet_in mode) s)
in_mode_lem mode s w = rw w

-- a block that is not refused holds a machine, in a mode
pub holds : (mode : ℕ) (s : List ℕ) (k : ℕ) → k ≡ refusal_of mode s → k ≡ 0 → (m : Machine) × (registers_at (quiet_in mode) s ≡ Holds m) × (wrong_mode mode ≡ false)
holds mode s k e z = go (wrong_mode mode) (registers_at (quiet_in mode) s) refl (sym e ∙ z)
  where
    go : (b : Bool) (d : LentBlock) → registers_at (quiet_in mode) s ≡ d → cond b 2 (block_status d) ≡ 0
        → (m : Machine) × (registers_at (quiet_in mode) s ≡ Holds m) × (b ≡ false)
    go true d h x = let y : ◌≡◌ {A = ℕ} 2 0 = x in absurd (omega arith)
    go false (Holds m) h x = (m, h, refl)
    go false WrongLength h x = let y : ◌≡◌ {A = ℕ} 3 0 = x in absurd (omega arith)
    go false Malformed h x = let y : ◌≡◌ {A = ℕ} 4 0 = x in absurd (omega arith)

-- the place of its node
pub placed : (quiet : Bool) (s : List ℕ) (m : Machine) → Bytes s → registers_at quiet s ≡ Holds m → (n : Node) → n ≡ m.node → (n.nodes ≤ 64) × (n.id < n.nodes)
unfolding formed
placed quiet s m b e n k =
    let f : formed quiet n ≡ true = ap (formed quiet) k ∙ (held_block quiet s m b e).0 in
    let p = place_bounds n.id n.nodes (and_l (formed_place n.id n.nodes) (formed_state quiet n.id n.nodes n.state) f) in
    (p.1, p.2)

-- ---- the status of an entry, and what it leaves

module _ (t : Step) (s : List ℕ) where
  pub wrong-mode : wrong_mode (mode_of t) ≡ true → 2 ≡ step_status t s
  unfolding step_status
  wrong-mode w = sym (here (wrong_mode (mode_of t)) 2 _ w)

  pub block_refused : wrong_votes t ≡ false → (k : ℕ) → k ≡ refusal_of (mode_of t) s → (k ≡ 0 → ⊥) → k ≡ step_status t s
  block_refused v k e n = e ∙ by (wrong_mode (mode_of t)) (found_by t s) (λ z. n (e ∙ z)) ∙ sym (status-found t s (found_by t s) refl)
    where
      by : (b : Bool) (d : LentBlock) → (cond b 2 (block_status d) ≡ 0 → ⊥) → cond b 2 (block_status d) ≡ cond b 2 (status_in t d)
      by true d n = refl
      by false (Holds m) n = absurd (n refl)
      by false WrongLength n = refl
      by false Malformed n = rw v

  module _ (w : wrong_mode (mode_of t) ≡ false) where
    pub other-votes : wrong_votes t ≡ true → 3 ≡ step_status t s
    other-votes v = sym (status-found t s (found_by t s) refl ∙ rw w (by (found_by t s)))
      where
        by : (d : LentBlock) → status_in t d ≡ 3
        by (Holds m) = rw v
        by WrongLength = refl
        by Malformed = rw v

    pub past_the_end : (m : Machine) → wrong_votes t ≡ false → found_by t s ≡ Holds m → wrong_address t ≡ true → 14 ≡ step_status t s
    past_the_end m v e a = sym (status-found t s (Holds m) e ∙ rw (w, v, a))

    pub passed : (m : Machine) → wrong_votes t ≡ false → found_by t s ≡ Holds m → wrong_address t ≡ false → 0 ≡ step_status t s
    passed m v e a = sym (status-found t s (Holds m) e ∙ rw (w, v, a))

  pub kept : (k : ℕ) → (k ≡ 0 → ⊥) → k ≡ step_status t s → (k ≡ step_status t s) × (s ≡ step_left t s)
  kept k n h = (h, sym (refused_left t s (λ z. n (h ∙ z))))

  pub value-kept : (before k : ℕ) → (k ≡ 0 → ⊥) → k ≡ step_status t s → (k ≡ step_status t s) × (before ≡ step_value t s before)
  value-kept before k n h = (h, sym (refused-value t s before (λ z. n (h ∙ z))))

  pub done : (m : Machine) (left : List ℕ) → found_by t s ≡ Holds m → 0 ≡ step_status t s → left ≡ block_of (stepped t m) → (0 ≡ step_status t s) × (left ≡ step_left t s)
  done m left e h l = (h, l ∙ sym (done-left t s m e (sym h)))

pub byte_read : (mode a : ℕ) (s : List ℕ) (before : ℕ) (m : Machine) (value : ℕ) → Bytes s → registers_at (quiet_in mode) s ≡ Holds m → 0 ≡ step_status (Read mode a) s
    → value ≡ get_or s a 0 → (0 ≡ step_status (Read mode a) s) × (value ≡ step_value (Read mode a) s before)
byte_read mode a s before m value b e h l =
    (h, l ∙ ap (λ (x : List ℕ). get_or x a 0) (held_block (quiet_in mode) s m b e).1 ∙ sym (done_value mode a s before m e (sym h) ∙ shown_is_byte m a))

-- votes of another length, and those that are due
pub unequal : (r : Refusal) (b : Bool) (k : ℕ) → code_of r ≡ cond b 0 k → (b ≡ false) × (code_of r ≡ k)
unequal r true k e = absurd (numbered r e)
unequal r false k e = (refl, e)

pub equal : (b : Bool) → 0 ≡ cond {A = ℕ} b 0 3 → not b ≡ false
equal true e = refl
equal false e = absurd (let y : ◌≡◌ {A = ℕ} 0 3 = e in omega arith)

-- ---- a command and a cycle together: the command, and then a cycle with a write that does nothing

module _ (mode a v heard0 heard1 requests : ℕ) (votes : List ℕ) (arrived : ℕ) (s : List ℕ) (b : Bytes s) (w : wrong_mode mode ≡ false) (l : wrong_votes (WriteCycle mode a v heard0 heard1 requests votes arrived) ≡ false) where
  abbrev joint : ℕ → Step
  joint i = WriteCycle mode i v heard0 heard1 requests votes arrived

  -- it is refused as its write is
  as-write : step_status (joint 27) s ≡ step_status (Write mode 27 v) s
  unfolding step_status
  as-write = rw l

  command-then : step_status (Write mode 27 v) s ≡ 0
      → (step_status (joint 28) (step_left (Write mode 27 v) s) ≡ step_status (joint 27) s) × (step_left (joint 28) (step_left (Write mode 27 v) s) ≡ step_left (joint 27) s)
  command-then z =
      let m = accepted (Write mode 27 v) s z in
      let x = written 27 v m.0 in
      let y = done-left (Write mode 27 v) s m.0 m.1 z in
      let held : registers_at (quiet_in mode) (step_left (Write mode 27 v) s) ≡ Holds x =
      ap (registers_at (quiet_in mode)) y ∙ block_back (quiet_in mode) x (written-formed (quiet_in mode) 27 v m.0 (held_block (quiet_in mode) s m.0 b m.1).0) in
      let then = passed (joint 28) (step_left (Write mode 27 v) s) w x l held refl in
      let whole = passed (joint 27) s w m.0 l m.1 refl in (
        sym then ∙ whole,
        done-left (joint 28) (step_left (Write mode 27 v) s) x held (sym then)
            ∙ ap (λ (z : Machine). block_of (cycled (quiet_in mode) heard0 heard1 requests votes arrived z)) (ignored 28 v x (λ k. omega arith) (λ k. omega arith) (λ k. omega arith))
            ∙ sym (done-left (joint 27) s m.0 m.1 (sym whole)),
      )

  module _ (r : ℕ) (y : List ℕ) (e : r ≡ cond (eqb a 27) (step_status (Write mode 27 v) s) 0) (k : y ≡ cond (eqb a 27) (step_left (Write mode 27 v) s) s) where
    pub command-refused : (r ≡ 0 → ⊥) → (r ≡ step_status (joint a) s) × (y ≡ step_left (joint a) s)
    command-refused n = go (eqb a 27) refl e k
      where
        go : (t : Bool) → eqb a 27 ≡ t → r ≡ cond t (step_status (Write mode 27 v) s) 0 → y ≡ cond t (step_left (Write mode 27 v) s) s → (r ≡ step_status (joint a) s) × (y ≡ step_left (joint a) s)
        go true h e k =
            let at : step_status (joint a) s ≡ step_status (Write mode 27 v) s = ap (λ (i : ℕ). step_status (joint i) s) (eqb-true a 27 h) ∙ as-write in
            (e ∙ sym at, k ∙ refused_left (Write mode 27 v) s (λ z. n (e ∙ z)) ∙ sym (refused_left (joint a) s (λ z. n (e ∙ sym at ∙ z))))
        go false h e k = absurd (n e)

    pub command-done : r ≡ 0 → (left status : ℕ) (x : List ℕ) → left ≡ cond (eqb a 27) 28 a → status ≡ step_status (joint left) y → x ≡ step_left (joint left) y
        → (status ≡ step_status (joint a) s) × (x ≡ step_left (joint a) s)
    command-done z left status x d p q = go (eqb a 27) refl e k d
      where
        go : (t : Bool) → eqb a 27 ≡ t → r ≡ cond t (step_status (Write mode 27 v) s) 0 → y ≡ cond t (step_left (Write mode 27 v) s) s → left ≡ cond t 28 a
            → (status ≡ step_status (joint a) s) × (x ≡ step_left (joint a) s)
        go true h e k d =
            let same = command-then (sym e ∙ z) in
            let at = sym (eqb-true a 27 h) in (
              p ∙ (λ i. step_status (joint (d i)) (k i)) ∙ same.0 ∙ ap (λ (i : ℕ). step_status (joint i) s) at,
              q ∙ (λ i. step_left (joint (d i)) (k i)) ∙ same.1 ∙ ap (λ (i : ℕ). step_left (joint i) s) at,
            )
        go false h e k d = (p ∙ (λ i. step_status (joint (d i)) (k i)), q ∙ (λ i. step_left (joint (d i)) (k i)))
