-- A block is accepted exactly if it is that of a machine, and a read shows its byte. Assumes nothing.
use mathlib.Core.Path.{◌≡◌, refl, sym, ap, ap₂, ◌∙◌}
use mathlib.Core.Bool.{Bool, true, false, ◌&&◌, cond, true≢false}
use mathlib.Core.List.{List, [], ◌∷◌, ◌++◌}
use Prim.Native.Nat.{ℕ, zero, suc, ◌+◌, ◌-◌, ◌≤◌, ◌<◌}
use native.Mathlib.Omega.{arith}
use lib.Dec.{eqb, ltb, lit<}
use lib.ListN.{get_or, length, take, drop, replicate, length-append, take-append-drop, length-drop, get_or-append}
use lib.Seq.{take_at, drop_at, drop-append-add, get_or-append-add, drop-cons}
use borrow.Author.Tests.{eq-eqb, ne_eqb, ltb-false}
use Rattle.sets.specs.Sets.{has}
use Rattle.sets.proofs.Booleans.{eqb_self, eqb-true, ltb-lt, and_l, and_r, and_i}
use Rattle.bigendian.proofs.Laws.{Bytes}
use Rattle.state.specs.declared.State.{State}
use Rattle.state.specs.declared.State.TheVariants.{Out, Joining, Member}
use Rattle.state.specs.declared.Node.{Node}
use Rattle.std.specs.Prelude.{Result, Ok, Err}
use Rattle.refusal.specs.declared.Refusal.{Refusal}
use Rattle.refusal.specs.declared.Refusal.TheVariants.{Image}
use Rattle.state.specs.State.{formed_place, formed_state, formed}
use Rattle.state.specs.Image.{image_of, decoded}
use Rattle.state.proofs.Fields.{of_member}
use Rattle.state.proofs.RoundTrip.{image_length, round_trip, image_back, decoded-formed}
use Rattle.registers.specs.Block.{Machine, Holds, WrongLength, Malformed, flags_byte, flags_in, pending_byte, block_of, shown, formed_machine, all_zero, reads_so, machine_in, registers_at}
use Rattle.registers.proofs.Bits.{three, flags_back, flags_few, byte_back}

-- ---- the parts of a block

-- what stands behind the image
abbrev pub behind : Machine → List ℕ
behind m = flags_byte m.flags ∷ flags_byte m.enables ∷ pending_byte m.flags m.enables ∷ replicate 37 0

pub block_length : (m : Machine) → length (block_of m) ≡ 64
unfolding block_of
block_length m = length-append (image_of m.node) (behind m) ∙ ap (λ (k : ℕ). k + 40) (image_length m.node)

pub image_part : (m : Machine) → take 24 (block_of m) ≡ image_of m.node
unfolding block_of
image_part m = take_at (image_of m.node) (behind m) 24 (image_length m.node)

pub rest_part : (m : Machine) → drop 24 (block_of m) ≡ behind m
unfolding block_of
rest_part m = drop_at (image_of m.node) (behind m) 24 (image_length m.node)

at_behind : (m : Machine) (k : ℕ) → get_or (block_of m) (24 + k) 0 ≡ get_or (behind m) k 0
unfolding block_of
at_behind m k =
    ap (λ (l : ℕ). get_or (image_of m.node ++ behind m) (l + k) 0) (sym (image_length m.node)) ∙ get_or-append-add (image_of m.node) (behind m) k 0

pub flags_at : (m : Machine) → get_or (block_of m) 24 0 ≡ flags_byte m.flags
flags_at m = at_behind m 0

pub enables_at : (m : Machine) → get_or (block_of m) 25 0 ≡ flags_byte m.enables
enables_at m = at_behind m 1

pending_at : (m : Machine) → get_or (block_of m) 26 0 ≡ pending_byte m.flags m.enables
pending_at m = at_behind m 2

pub rest_at : (m : Machine) → drop 27 (block_of m) ≡ replicate 37 0
unfolding block_of
rest_at m =
    ap (λ (l : ℕ). drop (l + 3) (image_of m.node ++ behind m)) (sym (image_length m.node)) ∙ drop-append-add (image_of m.node) (behind m) 3

-- ---- from a block to its machine and back

zero_list : (s : List ℕ) → all_zero s ≡ true → s ≡ replicate (length s) 0
zero_list [] h = refl
zero_list (b ∷ s) h = ap₂ (λ (x : ℕ) (l : List ℕ). x ∷ l) (eqb-true (and_l (eqb b 0) (all_zero s) h)) (zero_list s (and_r (eqb b 0) (all_zero s) h))

bytes_take : (k : ℕ) (s : List ℕ) → Bytes s → Bytes (take k s)
bytes_take zero s b i = lit< tt
bytes_take (suc k) [] b i = lit< tt
bytes_take (suc k) (x ∷ s) b zero = b 0
bytes_take (suc k) (x ∷ s) b (suc i) = bytes_take k s (λ j. b (suc j)) i

-- the bytes 24 to 63 of a block that reads so
behind_back : (s : List ℕ) → length s ≡ 64 → reads_so s ≡ true
    → drop 24 s ≡ flags_byte (flags_in (get_or s 24 0)) ∷ flags_byte (flags_in (get_or s 25 0)) ∷ pending_byte (flags_in (get_or s 24 0)) (flags_in (get_or s 25 0)) ∷ replicate 37 0
unfolding reads_so
behind_back s l h =
    let f = get_or s 24 0 in
    let e = get_or s 25 0 in
    let p = eqb (get_or s 26 0) (pending_byte (flags_in f) (flags_in e)) in
    let h3 = and_l (ltb f 8 && ltb e 8 && p) (all_zero (drop 27 s)) h in
    let h2 = and_l (ltb f 8 && ltb e 8) p h3 in
    let rest : drop 27 s ≡ replicate 37 0 =
    zero_list (drop 27 s) (and_r (ltb f 8 && ltb e 8 && p) (all_zero (drop 27 s)) h) ∙ ap (λ (k : ℕ). replicate k 0) (length-drop 27 s ∙ ap (λ (k : ℕ). k - 27) l) in
    drop-cons s 24 0 (omega arith)
    ∙ ap₂ (λ (x : ℕ) (r : List ℕ). x ∷ r) (sym (byte_back f (and_l (ltb f 8) (ltb e 8) h2)))
    (drop-cons s 25 0 (omega arith)
    ∙ ap₂ (λ (x : ℕ) (r : List ℕ). x ∷ r) (sym (byte_back e (and_r (ltb f 8) (ltb e 8) h2)))
    (drop-cons s 26 0 (omega arith) ∙ ap₂ (λ (x : ℕ) (r : List ℕ). x ∷ r) (eqb-true (and_r (ltb f 8 && ltb e 8) p h3)) rest))

pub held_block : (quiet : Bool) (s : List ℕ) (m : Machine) → Bytes s → registers_at quiet s ≡ Holds m → (formed_machine quiet m ≡ true) × (s ≡ block_of m)
unfolding registers_at block_of
held_block quiet s m b = go (eqb (length s) 64) (reads_so s) (decoded quiet (take 24 s)) refl refl refl
  where
    front : Bytes (take 24 s)
    front = bytes_take 24 s b

    -- the machine that was read
    of : (n : Node) → length s ≡ 64 → reads_so s ≡ true → decoded quiet (take 24 s) ≡ Ok n
        → (x : Machine) → record { node = n; flags = flags_in (get_or s 24 0); enables = flags_in (get_or s 25 0) } ≡ x → (formed_machine quiet x ≡ true) × (s ≡ image_of x.node ++ behind x)
    of n l r e x k = (
      ap (formed_machine quiet) (sym k) ∙ decoded-formed quiet (take 24 s) n front e,
      sym (take-append-drop 24 s) ∙ ap₂ (λ (p q : List ℕ). p ++ q) (sym (image_back quiet (take 24 s) n front e)) (behind_back s l r)
          ∙ ap (λ (y : Machine). image_of y.node ++ behind y) k,
    )

    go : (sized so : Bool) (d : Result Node Refusal) → eqb (length s) 64 ≡ sized → reads_so s ≡ so → decoded quiet (take 24 s) ≡ d
        → cond sized (cond so (machine_in d s) Malformed) WrongLength ≡ Holds m → (formed_machine quiet m ≡ true) × (s ≡ image_of m.node ++ behind m)
    go true true (Ok n) l r e h = of n (eqb-true l) r e m cc
    go true true (Err x) l r e h = let z : ◌≡◌ {A = ℕ} 0 1 = cc in absurd (omega arith)
    go true false d l r e h = let z : ◌≡◌ {A = ℕ} 0 1 = cc in absurd (omega arith)
    go false so d l r e h = let z : ◌≡◌ {A = ℕ} 0 1 = cc in absurd (omega arith)

-- ---- from a machine to its block and back

block_reads : (m : Machine) → reads_so (block_of m) ≡ true
unfolding reads_so
block_reads m =
    let f = m.flags in
    let e = m.enables in
    let same : pending_byte (flags_in (flags_byte f)) (flags_in (flags_byte e)) ≡ pending_byte f e = ap₂ pending_byte (flags_back f) (flags_back e) in
    and_i _ _ (and_i _ _ (and_i _ _ (ap (λ (b : ℕ). ltb b 8) (flags_at m) ∙ flags_few f) (ap (λ (b : ℕ). ltb b 8) (enables_at m) ∙ flags_few e))
    (ap₂ eqb (pending_at m) (ap₂ (λ (a b : ℕ). pending_byte (flags_in a) (flags_in b)) (flags_at m) (enables_at m) ∙ same) ∙ eqb_self (pending_byte f e)))
    (ap all_zero (rest_at m))

pub block_back : (quiet : Bool) (m : Machine) → formed_machine quiet m ≡ true → registers_at quiet (block_of m) ≡ Holds m
unfolding registers_at
block_back quiet m f =
    let machine : ℕ → ℕ → Machine = λ a b. record { node = m.node; flags = flags_in a; enables = flags_in b } in
    rw (block_length m, block_reads m, image_part m, round_trip quiet m.node f)
    (ap Holds (ap₂ machine (flags_at m) (enables_at m) ∙ (λ i. record { node = m.node; flags = flags_back m.flags i; enables = flags_back m.enables i })))

-- in a press that votes in every cycle a block whose node requests is none
no_image : (t : State) (id n : ℕ) → formed_place id n ≡ true → formed_state true id n t ≡ true → formed_state false id n t ≡ false
    → decoded false (image_of (record { state = t; id = id; nodes = n })) ≡ Err Image
unfolding image_of
no_image (Out r) id n p f e = absurd (true≢false e)
no_image Joining id n p f e = absurd (true≢false e)
no_image (Member g true) id n p f e = of_member false _ (image_length (record { state = Member g true; id = id; nodes = n })) p refl
no_image (Member g false) id n p f e = absurd (true≢false (sym f ∙ e))

pub block_read : (quiet : Bool) (m : Machine) → formed_machine true m ≡ true → registers_at quiet (block_of m) ≡ cond (formed_machine quiet m) (Holds m) Malformed
unfolding registers_at formed
block_read quiet m f = go quiet (formed_machine quiet m) refl
  where
    go : (q b : Bool) → formed_machine q m ≡ b → registers_at q (block_of m) ≡ cond b (Holds m) Malformed
    go q true e = block_back q m e
    go true false e = absurd (true≢false (sym f ∙ e))
    go false false e =
        let n = m.node in
        let place = formed_place n.id n.nodes in
        let p = and_l place (formed_state true n.id n.nodes n.state) f in
        rw (
          block_length m,
          block_reads m,
          image_part m,
          no_image n.state n.id n.nodes p (and_r place (formed_state true n.id n.nodes n.state) f)
              (sym (ap (λ (b : Bool). b && formed_state false n.id n.nodes n.state) p) ∙ e),
        )

-- Accepted is exactly what is the block of a well-formed machine, and it is read as that machine: no accepted block hides a byte that the machine has not.
pub accepted_is_a_block : (quiet : Bool) (s : List ℕ) (m : Machine) → Bytes s
    → (registers_at quiet s ≡ Holds m → (formed_machine quiet m ≡ true) × (s ≡ block_of m)) × ((formed_machine quiet m ≡ true) × (s ≡ block_of m) → registers_at quiet s ≡ Holds m)
accepted_is_a_block quiet s m b = (held_block quiet s m b, λ h. ap (registers_at quiet) h.1 ∙ block_back quiet m h.0)

-- ---- the beginning, and a read

zeros_show : (n i : ℕ) → get_or {A = ℕ} (replicate n 0) i 0 ≡ 0
zeros_show zero i = refl
zeros_show (suc n) zero = refl
zeros_show (suc n) (suc i) = zeros_show n i

-- 24 bytes that hold a node, and 40 zero bytes, are its block with no flag and no enable set
pub begins : (quiet : Bool) (s : List ℕ) (n : Node) → length s ≡ 24 → decoded quiet s ≡ Ok n
    → registers_at quiet (s ++ replicate 40 0) ≡ Holds (record { node = n; flags = three false false false; enables = three false false false })
unfolding registers_at reads_so has
begins quiet s n l e =
    rw (length-append s (replicate 40 0), l, zero-at 0, zero-at 1, zero-at 2, zero_rest, take_at s (replicate 40 0) 24 l, e)
    (ap Holds (λ i. record { node = n; flags = flags_in (zero-at 0 i); enables = flags_in (zero-at 1 i) }))
  where
    zero-at : (k : ℕ) → get_or (s ++ replicate 40 0) (24 + k) 0 ≡ 0
    zero-at k = ap (λ (i : ℕ). get_or (s ++ replicate 40 0) (i + k) 0) (sym l) ∙ get_or-append-add s (replicate 40 0) k 0 ∙ zeros_show 40 k

    zero_rest : drop 27 (s ++ replicate 40 0) ≡ replicate 37 0
    zero_rest = ap (λ (i : ℕ). drop (i + 3) (s ++ replicate 40 0)) (sym l) ∙ drop-append-add s (replicate 40 0) 3

-- what stands at a place behind 24 bytes
shows_behind : (f e p a k : ℕ) → a ≡ 24 + k
    → cond (eqb a 24) f (cond (eqb a 25) e (cond (eqb a 26) p 0)) ≡ get_or (f ∷ e ∷ p ∷ replicate 37 0) k 0
shows_behind f e p a zero h = rw (eq-eqb a 24 h)
shows_behind f e p a (suc zero) h = rw (ne_eqb a 24 (λ z. omega arith), eq-eqb a 25 h)
shows_behind f e p a (suc (suc zero)) h = rw (ne_eqb a 24 (λ z. omega arith), ne_eqb a 25 (λ z. omega arith), eq-eqb a 26 h)
shows_behind f e p a (suc (suc (suc k))) h =
    rw (ne_eqb a 24 (λ z. omega arith), ne_eqb a 25 (λ z. omega arith), ne_eqb a 26 (λ z. omega arith)) (sym (zeros_show 37 k))

-- what a read shows is the block's byte, at every address
pub shown_is_byte : (m : Machine) (a : ℕ) → shown m a ≡ get_or (block_of m) a 0
unfolding shown
shown_is_byte m a = go (ltb a 24) refl
  where
    within : a < 24 → get_or (block_of m) a 0 ≡ get_or (image_of m.node) a 0
    within l = ap (λ (s : List ℕ). get_or s a 0) (sym (take-append-drop 24 (block_of m)) ∙ ap (λ (s : List ℕ). s ++ drop 24 (block_of m)) (image_part m))
        ∙ get_or-append (image_of m.node) (drop 24 (block_of m)) 0 a (rw (image_length m.node) l)

    go : (b : Bool) → ltb a 24 ≡ b
        → cond b (get_or (image_of m.node) a 0)
        (cond (eqb a 24) (flags_byte m.flags) (cond (eqb a 25) (flags_byte m.enables) (cond (eqb a 26) (pending_byte m.flags m.enables) 0)))
        ≡ get_or (block_of m) a 0
    go true h = sym (within (ltb-lt h))
    go false h =
        let far : 24 ≤ a = ltb-false a 24 h in
        let k : a ≡ 24 + (a - 24) = omega arith in
        shows_behind (flags_byte m.flags) (flags_byte m.enables) (pending_byte m.flags m.enables) a (a - 24) k
        ∙ sym (at_behind m (a - 24)) ∙ ap (λ (i : ℕ). get_or (block_of m) i 0) (sym k)
