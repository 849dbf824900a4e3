-- The bytes that the code writes are those of the machine after the step. Assumes nothing.
use mathlib.Core.Path.{◌≡◌, refl, sym, ap, ap₂, ◌∙◌}
use mathlib.Core.Bool.{Bool, true, false, cond}
use mathlib.Core.List.{List, ◌∷◌, ◌++◌}
use Prim.Native.Nat.{ℕ}
use native.Mathlib.Nat.{zero-add}
use lib.Dec.{eqb}
use lib.ListN.{get_or, length, take, drop, replicate}
use borrow.Author.Tests.{eq-eqb, ne_eqb}
use Rattle.sets.specs.Sets.{◌∪◌}
use Rattle.parts.specs.Parts.{with_part}
use Rattle.state.specs.declared.State.{State}
use Rattle.state.specs.declared.Node.{Node}
use Rattle.state.specs.State.{formed}
use Rattle.state.specs.Image.{image_of}
use Rattle.state.proofs.RoundTrip.{image_length, round_trip}
use Rattle.rules.specs.OneCycle.{wrong_mode, quiet_in}
use Rattle.std.specs.Prelude.{Result, Ok}
use Rattle.refusal.specs.declared.Refusal.{Refusal}
use Rattle.entry_lent.specs.Found.{lent_state}
use Rattle.entry_stop_start.specs.StopStart.{stopped_and_started, rule_one_of, stop_left, start_left}
use Rattle.entry_decide.specs.Decide.{decision}
use Rattle.registers.specs.Block.{Flags, Machine, flags_byte, block_of, formed_machine}
use Rattle.registers.specs.Steps.{commanded, written, raised_by, raised, decided_node, cycled}
use Rattle.registers.proofs.Blocks.{image_part, rest_part, rest_at, flags_at, enables_at}
use Rattle.registers.proofs.Written.{node_kept, flags-after, enables-after, node-after, raised_byte, pending_byte_lem}
use Rattle.register_block.specs.Bytes.{shares, with_flags, flags_after, enables_after}
use Rattle.entry_registers.specs.InPlace.{command_left, write_left, cycled_left, cycle_left}

-- ---- parts of a block replaced

abbrev machine : Node → Flags → Flags → Machine
machine n f e = record { node = n; flags = f; enables = e }

flags_replaced : (x : Machine) (f e : Flags) → with_flags (flags_byte f) (flags_byte e) (block_of x) ≡ block_of (machine x.node f e)
unfolding with_flags block_of
flags_replaced x f e =
    ap₂ (λ (p q : List ℕ). p ++ (flags_byte f ∷ flags_byte e ∷ shares (flags_byte f) (flags_byte e) ∷ q)) (image_part x) (rest_at x)
    ∙ ap (λ (b : ℕ). image_of x.node ++ (flags_byte f ∷ flags_byte e ∷ b ∷ replicate 37 0)) (sym (pending_byte_lem f e))

node_replaced : (x : Machine) (n : Node) → image_of n ++ drop 24 (block_of x) ≡ block_of (machine n x.flags x.enables)
unfolding block_of
node_replaced x n = ap (λ (r : List ℕ). image_of n ++ r) (rest_part x)

-- ---- a write

-- the image of a well-formed node holds it
lent_image : (mode : ℕ) (n : Node) → wrong_mode mode ≡ false → formed (quiet_in mode) n ≡ true → lent_state mode (image_of n) ≡ Ok n
unfolding lent_state
lent_image mode n w f = rw (w, round_trip (quiet_in mode) n f)

-- a command on the state in a block is rule 1 on its node
command_is : (mode v : ℕ) (x : Machine) → wrong_mode mode ≡ false → formed_machine (quiet_in mode) x ≡ true → command_left mode v (block_of x) ≡ block_of (machine (commanded v x.node) x.flags x.enables)
unfolding stop_left start_left
command_is mode v x w f =
    ap (λ (p : List ℕ). p ++ drop 24 (block_of x)) (go (eqb v 1) (eqb v 2)) ∙ node_replaced x (commanded v x.node)
  where
    front : lent_state mode (take 24 (block_of x)) ≡ Ok x.node
    front = ap (lent_state mode) (image_part x) ∙ lent_image mode x.node w f

    ruled : (stop start : Bool) → rule_one_of stop start (lent_state mode (take 24 (block_of x))) (take 24 (block_of x)) ≡ rule_one_of stop start (Ok x.node) (take 24 (block_of x))
    ruled stop start = ap (λ (d : Result Node Refusal). rule_one_of stop start d (take 24 (block_of x))) front

    go : (b c : Bool)
        → cond b (rule_one_of true false (lent_state mode (take 24 (block_of x))) (take 24 (block_of x)))
        (cond c (rule_one_of false true (lent_state mode (take 24 (block_of x))) (take 24 (block_of x))) (take 24 (block_of x)))
        ≡ image_of (cond b (stopped_and_started true false x.node) (cond c (stopped_and_started false true x.node) x.node))
    go true c = ruled true false
    go false true = ruled false true
    go false false = image_part x

-- bytes 24 and 25 after a write are those of the machine after it
module _ (a v : ℕ) (s : List ℕ) (m : Machine) (same : s ≡ block_of m) where
  flags-then : flags_after a v (get_or s 24 0) ≡ flags_byte (written a v m).flags
  flags-then = ap (λ (b : ℕ). flags_after a v b) (ap (λ (t : List ℕ). get_or t 24 0) same ∙ flags_at m) ∙ sym (flags-after a v m)

  enables-then : enables_after a v (get_or s 25 0) ≡ flags_byte (written a v m).enables
  enables-then = ap (λ (b : ℕ). enables_after a v b) (ap (λ (t : List ℕ). get_or t 25 0) same ∙ enables_at m) ∙ sym (enables-after a v m)

-- the block of a machine, written at an address
pub write_is : (mode a v : ℕ) (s : List ℕ) (m : Machine) → wrong_mode mode ≡ false → formed_machine (quiet_in mode) m ≡ true → s ≡ block_of m → write_left mode a v s ≡ block_of (written a v m)
unfolding write_left
write_is mode a v s m w f same =
    let then = written a v m in
    let x = machine m.node then.flags then.enables in
    let placed : with_flags (flags_after a v (get_or s 24 0)) (enables_after a v (get_or s 25 0)) s ≡ block_of x =
    (λ i. with_flags (flags-then a v s m same i) (enables-then a v s m same i) (same i)) ∙ flags_replaced m then.flags then.enables in
    ap (λ (t : List ℕ). cond (eqb a 27) (command_left mode v t) t) placed ∙ go x (eqb a 27) f
    ∙ ap (λ (n : Node). block_of (machine n then.flags then.enables)) (sym (node-after a v m))
  where
    go : (x : Machine) (b : Bool) → formed_machine (quiet_in mode) x ≡ true
        → cond b (command_left mode v (block_of x)) (block_of x) ≡ block_of (machine (cond b (commanded v x.node) x.node) x.flags x.enables)
    go x true h = command_is mode v x w h
    go x false h = refl

-- ---- a cycle

-- after a write that is no command, of which the flags and the enables are known
pub cycle-is : (quiet q : Bool) (a v : ℕ) (n : Node) (flags enables heard0 heard1 requests : ℕ) (votes : List ℕ) (arrived : ℕ) (s : List ℕ) (m : Machine) → q ≡ quiet → s ≡ block_of m
    → n ≡ m.node → (a ≡ 27 → ⊥) → flags ≡ flags_after a v (get_or s 24 0) → enables ≡ enables_after a v (get_or s 25 0)
    → cycle_left q n flags enables heard0 heard1 requests votes arrived s ≡ block_of (cycled quiet heard0 heard1 requests votes arrived (written a v m))
unfolding cycle_left cycled
cycle-is quiet q a v n flags enables heard0 heard1 requests votes arrived s m eq same en c ef ee =
    let x = written a v m in
    let next = decided_node quiet heard0 heard1 requests votes arrived x.node in
    let raises = raised_by x.node.state next.state in
    (λ i. cycle_left (eq i) ((en ∙ sym (node_kept a v m c)) i) ((ef ∙ flags-then a v s m same) i) ((ee ∙ enables-then a v s m same) i) heard0 heard1 requests votes arrived (same i))
    ∙ ap₂ (λ (b : ℕ) (t : List ℕ). with_flags b (flags_byte x.enables) t) (sym (raised_byte x.flags raises)) (node_replaced m next)
    ∙ flags_replaced (machine next m.flags m.enables) (raised x.flags raises) x.enables

-- ---- what the code leaves

-- of a block whose flags are put, and on which a command is done then
module _ (mode a v : ℕ) (s put : List ℕ) (flags enables : ℕ) (ef : flags ≡ flags_after a v (get_or s 24 0)) (ee : enables ≡ enables_after a v (get_or s 25 0)) (p : put ≡ with_flags flags enables s) where
  flags-first : put ≡ with_flags (flags_after a v (get_or s 24 0)) (enables_after a v (get_or s 25 0)) s
  flags-first = p ∙ (λ i. with_flags (ef i) (ee i) s)

  pub with-command : (left : List ℕ) → a ≡ 27 → left ≡ command_left mode v put → left ≡ write_left mode a v s
  unfolding write_left
  with-command left e l = l ∙ ap (command_left mode v) flags-first ∙ rw (eq-eqb a 27 e)

  pub without-command : (a ≡ 27 → ⊥) → put ≡ write_left mode a v s
  unfolding write_left
  without-command e = flags-first ∙ rw (ne_eqb a 27 e)

pub cycled-left : (n : Node) (flags enables : ℕ) (s image put left : List ℕ) (t : State) (r : ℕ) → image ≡ image_of (record { state = t; id = n.id; nodes = n.nodes }) → put ≡ with_part 0 image s
    → r ≡ flags_byte (raised_by n.state t) → left ≡ with_flags (flags ∪ r) enables put → left ≡ cycled_left n t flags enables s
unfolding with_part
cycled-left n flags enables s image put left t r ei ep er el =
    let size : length image ≡ 24 = ap length ei ∙ image_length (record { state = t; id = n.id; nodes = n.nodes }) in
    el ∙ ap₂ (λ (b : ℕ) (x : List ℕ). with_flags (flags ∪ b) enables x) er
    (ep ∙ ap (λ (k : ℕ). image ++ drop k s) (zero-add (length image) ∙ size) ∙ ap (λ (x : List ℕ). x ++ drop 24 s) ei)

-- by the state that was decided
pub cycle-left : (quiet : Bool) (n : Node) (flags enables heard0 heard1 requests : ℕ) (votes : List ℕ) (arrived : ℕ) (s left : List ℕ) (t : State)
    → t ≡ decision quiet n n.state heard0 heard1 requests votes arrived → left ≡ cycled_left n t flags enables s → left ≡ cycle_left quiet n flags enables heard0 heard1 requests votes arrived s
unfolding cycle_left
cycle-left quiet n flags enables heard0 heard1 requests votes arrived s left t et el = el ∙ ap (λ (x : State). cycled_left n x flags enables s) et
