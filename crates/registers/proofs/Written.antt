-- What writes and cycles do to the flags, and how it looks in the bytes. Assumes nothing.
use mathlib.Core.Path.{◌≡◌, refl, sym, ap, ◌∙◌}
use mathlib.Core.Bool.{Bool, true, false, not, ◌&&◌, ◌||◌, cond}
use mathlib.Core.List.{List}
use Prim.Native.Nat.{ℕ, ◌%◌, ◌<◌}
use native.Mathlib.Nat.{mod-lt}
use native.Mathlib.Omega.{arith}
use lib.Dec.{eqb, lit<}
use lib.Bits.{and_le_l, or_lt}
use borrow.Author.Tests.{eq-eqb, ne_eqb, lt-ltb, eqb-true, eqb-false}
use Rattle.sets.specs.Sets.{has, ◌∪◌, ◌∩◌, ◌∖◌, below}
use Rattle.sets.proofs.Booleans.{ltb-lt}
use Rattle.sets.proofs.Membership.{has_union, has_inter, has_diff}
use Rattle.sets.proofs.Nodes.{has-below}
use Rattle.state.specs.declared.Group.{Group}
use Rattle.state.specs.declared.State.{State}
use Rattle.state.specs.declared.State.TheVariants.{Out, Joining, Member}
use Rattle.state.specs.State.{halted}
use Rattle.rules.specs.OneCycle.{start_if, stop_and_start}
use Rattle.registers.specs.Block.{Flags, Machine, flags_byte, flags_in, pending_byte}
use Rattle.registers.specs.Steps.{Cycle, WriteCycle, cleared, commanded, written, raised_by, raised, cycled, stepped}
use Rattle.registers.proofs.Bits.{three, flags_back, flags_few, byte_back}

-- ---- by address

-- "Writes to bytes 0 to 23 and to 26 do nothing. .. Bytes 28 to 63 .. ignore writes."
pub ignored : (a v : ℕ) (m : Machine) → (a ≡ 24 → ⊥) → (a ≡ 25 → ⊥) → (a ≡ 27 → ⊥) → written a v m ≡ m
unfolding written
ignored a v m f e c = rw (ne_eqb a 24 f, ne_eqb a 25 e, ne_eqb a 27 c)

-- only a command changes the node
pub node_kept : (a v : ℕ) (m : Machine) → (a ≡ 27 → ⊥) → (written a v m).node ≡ m.node
unfolding written
node_kept a v m c = rw (ne_eqb a 27 c) (go (eqb a 24) (eqb a 25) _ _ refl refl)
  where
    go : (b d : Bool) (x y : Machine) → x.node ≡ m.node → y.node ≡ m.node → (cond b x (cond d y m)).node ≡ m.node
    go true d x y p q = p
    go false true x y p q = q
    go false false x y p q = refl

by_command : (v : ℕ) (m : Machine) → (written 27 v m).node ≡ commanded v m.node
unfolding written
by_command v m = refl

-- so that a cycle alone is one together with such a write
pub cycle_alone : (mode heard0 heard1 requests : ℕ) (votes : List ℕ) (arrived : ℕ) (m : Machine)
    → stepped (Cycle mode heard0 heard1 requests votes arrived) m ≡ stepped (WriteCycle mode 28 0 heard0 heard1 requests votes arrived) m
unfolding written
cycle_alone mode heard0 heard1 requests votes arrived m = refl

-- ---- what a step does to the flags and the node

-- "A flag raised in the same step as it is cleared stays set."
pub stays_set : (mode a v heard0 heard1 requests : ℕ) (votes : List ℕ) (arrived : ℕ) (m : Machine) (flag : Flags → Bool) → ((f g : Flags) → flag (raised f g) ≡ (flag f || flag g))
    → flag (raised_by (written a v m).node.state (stepped (WriteCycle mode a v heard0 heard1 requests votes arrived) m).node.state) ≡ true
    → flag (stepped (WriteCycle mode a v heard0 heard1 requests votes arrived) m).flags ≡ true
unfolding cycled
stays_set mode a v heard0 heard1 requests votes arrived m flag each e = each _ _ ∙ ap (λ (b : Bool). flag (written a v m).flags || b) e ∙ or_yes (flag (written a v m).flags)
  where
    or_yes : (b : Bool) → (b || true) ≡ true
    or_yes true = refl
    or_yes false = refl

-- a member that keeps its set raises none, whether it requests or not
pub kept_raises_none : (g h : Group) (a b : Bool) → g.set ≡ h.set → raised_by (Member g a) (Member h b) ≡ three false false false
unfolding raised_by
kept_raises_none g h a b e = λ i. three (not (eq-eqb g.set h.set e i)) false false

and_no : (b : Bool) → (b && false) ≡ false
and_no true = refl
and_no false = refl

-- one cycle raises at most one flag
pub at_most_one : (s t : State) → let f = raised_by s t in ((f.changed && f.halted) ≡ false) × ((f.changed && f.entered) ≡ false) × ((f.halted && f.entered) ≡ false)
unfolding raised_by
at_most_one (Out r) t = (refl, refl, refl)
at_most_one Joining t = (refl, refl, refl)
at_most_one (Member g a) (Out r) = (refl, refl, and_no (halted (Out r)))
at_most_one (Member g a) Joining = (refl, refl, refl)
at_most_one (Member g a) (Member h b) = (and_no (not (eqb g.set h.set)), and_no (not (eqb g.set h.set)), refl)

-- "raising no flag": a stop, also together with a cycle
pub stop_raises_none : (mode heard0 heard1 requests : ℕ) (votes : List ℕ) (arrived : ℕ) (m : Machine) → (stepped (WriteCycle mode 27 1 heard0 heard1 requests votes arrived) m).flags ≡ m.flags
unfolding written cycled raised_by stop_and_start
stop_raises_none mode heard0 heard1 requests votes arrived m = λ i. three (or-none m.flags.changed i) (or-none m.flags.halted i) (or-none m.flags.entered i)
  where
    or-none : (b : Bool) → (b || false) ≡ b
    or-none true = refl
    or-none false = refl

-- "as rule 1 says": a start leaves a member
pub start_leaves_member : (m : Machine) (g : Group) (a : Bool) → m.node.state ≡ Member g a → written 27 2 m ≡ m
unfolding written stop_and_start
start_leaves_member m g a e =
    let of : State → Machine = λ s. record { node = record { state = s; id = m.node.id; nodes = m.node.nodes }; flags = m.flags; enables = m.enables } in
    ap (λ (s : State). of (start_if true s)) e ∙ sym (ap of e)

-- ---- in bytes

-- a byte below 8 is known by its three bits
by_bits : (b : ℕ) (f : Flags) → b < 8 → has 0 b ≡ f.changed → has 1 b ≡ f.halted → has 2 b ≡ f.entered → flags_byte f ≡ b
by_bits b f l c h e = ap flags_byte (λ i. three (sym c i) (sym h i) (sym e i)) ∙ byte_back b (lt-ltb b 8 l)

few : (f : Flags) → flags_byte f < 8
few f = ltb-lt (flags_few f)

-- a flag is its bit of the byte
bit0 : (f : Flags) → has 0 (flags_byte f) ≡ f.changed
bit0 f = ap (λ (g : Flags). g.changed) (flags_back f)

bit1 : (f : Flags) → has 1 (flags_byte f) ≡ f.halted
bit1 f = ap (λ (g : Flags). g.halted) (flags_back f)

bit2 : (f : Flags) → has 2 (flags_byte f) ≡ f.entered
bit2 f = ap (λ (g : Flags). g.entered) (flags_back f)

-- "A one written to a flag clears it, a zero does nothing.": byte 24 without the bits of the value
pub cleared_byte : (v : ℕ) (f : Flags) → flags_byte (cleared v f) ≡ flags_byte f ∖ v
unfolding ◌∖◌
cleared_byte v f =
    let x = flags_byte f in
    let l = few f in
    by_bits (x ∖ v) (cleared v f) (omega arith) (without 0 f.changed (bit0 f)) (without 1 f.halted (bit1 f)) (without 2 f.entered (bit2 f))
  where
    without : (q : ℕ) (b : Bool) → has q (flags_byte f) ≡ b → has q (flags_byte f ∖ v) ≡ (b && not (has q v))
    without q b e = has_diff q (flags_byte f) v ∙ ap (λ (t : Bool). t && not (has q v)) e

-- "Byte 25 .. keeps only its low three bits"
pub low_three : (v : ℕ) → flags_byte (flags_in v) ≡ v % 8
unfolding below
low_three v = by_bits (below 3 v) (flags_in v) (mod-lt v (lit< tt)) (has-below 0 3 v) (has-below 1 3 v) (has-below 2 3 v)

-- flags stay set until they are cleared: byte 24 with the bits that the cycle raised
pub raised_byte : (f g : Flags) → flags_byte (raised f g) ≡ flags_byte f ∪ flags_byte g
unfolding ◌∪◌
raised_byte f g =
    by_bits (flags_byte f ∪ flags_byte g) (raised f g) (or_lt 3 (flags_byte f) (flags_byte g) (few f) (few g))
    (one 0 f.changed g.changed (bit0 f) (bit0 g)) (one 1 f.halted g.halted (bit1 f) (bit1 g)) (one 2 f.entered g.entered (bit2 f) (bit2 g))
  where
    one : (q : ℕ) (b c : Bool) → has q (flags_byte f) ≡ b → has q (flags_byte g) ≡ c → has q (flags_byte f ∪ flags_byte g) ≡ (b || c)
    one q b c d e = has_union q (flags_byte f) (flags_byte g) ∙ (λ i. d i || e i)

-- "byte 26 is 1 exactly when an enabled flag is set, else 0": when the two bytes share a bit
pub pending_byte_lem : (f e : Flags) → pending_byte f e ≡ cond (eqb (flags_byte f ∩ flags_byte e) 0) 0 1
unfolding ◌∩◌
pending_byte_lem f e =
    some (f.changed && e.changed) (f.halted && e.halted) (f.entered && e.entered)
    ∙ ap (λ (b : ℕ). cond (eqb b 0) 0 1)
    (by_bits (flags_byte f ∩ flags_byte e) (three (f.changed && e.changed) (f.halted && e.halted) (f.entered && e.entered)) less
    (one 0 f.changed e.changed (bit0 f) (bit0 e)) (one 1 f.halted e.halted (bit1 f) (bit1 e)) (one 2 f.entered e.entered (bit2 f) (bit2 e)))
  where
    less : flags_byte f ∩ flags_byte e < 8
    less = let l = few f in let k = and_le_l (flags_byte f) (flags_byte e) in omega arith

    one : (q : ℕ) (b c : Bool) → has q (flags_byte f) ≡ b → has q (flags_byte e) ≡ c → has q (flags_byte f ∩ flags_byte e) ≡ (b && c)
    one q b c d k = has_inter q (flags_byte f) (flags_byte e) ∙ (λ i. d i && k i)

    some : (c h n : Bool) → ◌≡◌ {A = ℕ} (cond (c || h || n) 1 0) (cond (eqb (flags_byte (three c h n)) 0) 0 1)
    some true true true = refl
    some true true false = refl
    some true false true = refl
    some true false false = refl
    some false true true = refl
    some false true false = refl
    some false false true = refl
    some false false false = refl

-- ---- the bytes and the node after a write

module _ (a v : ℕ) (m : Machine) where
  pub flags-after : flags_byte (written a v m).flags ≡ cond (eqb a 24) (flags_byte m.flags ∖ v) (flags_byte m.flags)
  unfolding written
  flags-after = go (eqb a 24) (eqb a 25) (eqb a 27) _ _ _ (cleared_byte v m.flags) refl refl
    where
      go : (b c d : Bool) (x y z : Machine) → flags_byte x.flags ≡ flags_byte m.flags ∖ v → y.flags ≡ m.flags → z.flags ≡ m.flags
          → flags_byte (cond b x (cond c y (cond d z m))).flags ≡ cond b (flags_byte m.flags ∖ v) (flags_byte m.flags)
      go true c d x y z p q r = p
      go false true d x y z p q r = ap flags_byte q
      go false false true x y z p q r = ap flags_byte r
      go false false false x y z p q r = refl

  pub enables-after : flags_byte (written a v m).enables ≡ cond (eqb a 25) (v % 8) (flags_byte m.enables)
  unfolding written
  enables-after = go (eqb a 24) (eqb a 25) (eqb a 27) _ _ _ refl refl refl (low_three v) refl
    where
      go : (b c d : Bool) (x y z : Machine) → eqb a 24 ≡ b → eqb a 25 ≡ c → x.enables ≡ m.enables → flags_byte y.enables ≡ v % 8 → z.enables ≡ m.enables
          → flags_byte (cond b x (cond c y (cond d z m))).enables ≡ cond c (v % 8) (flags_byte m.enables)
      go true true d x y z e f p q r = let h = eqb-true a 24 e in let k = eqb-true a 25 f in absurd (omega arith)
      go true false d x y z e f p q r = ap flags_byte p
      go false true d x y z e f p q r = q
      go false false true x y z e f p q r = ap flags_byte r
      go false false false x y z e f p q r = refl

  pub node-after : (written a v m).node ≡ cond (eqb a 27) (commanded v m.node) m.node
  node-after = go (eqb a 27) refl
    where
      go : (b : Bool) → eqb a 27 ≡ b → (written a v m).node ≡ cond b (commanded v m.node) m.node
      go true e = ap (λ (x : ℕ). (written x v m).node) (eqb-true a 27 e) ∙ by_command v m
      go false e = node_kept a v m (eqb-false a 27 e)
