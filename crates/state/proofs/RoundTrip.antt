-- A well-formed node is what its image is read as, and what is read as a node is that node's image. Assumes nothing.
use Rattle.std.proofs.Common.{◌≡◌, ℕ, zero, suc, ◌%◌, ◌^◌, ◌<◌, ◌≤◌, Bool, true, false, cond, not, ◌&&◌, ◌||◌, eqb, ltb, ◌⊎◌, List, [], ◌∷◌, ◌++◌, length, get_or, drop, sym, refl, ap, ◌∙◌, inl, inr, append-nil, mod-lt, arith, lit<, Ok, Err, drop_of_length-le, drop-cons, pow_pos, pow_mono}
use mathlib.Core.Bool.{false≢true}
use lib.Bits.{bit_and, and_le_r}
use Rattle.sets.specs.Sets.{has, ◌∩◌, subset, below}
use Rattle.sets.proofs.Booleans.{eqb-true, ltb-true, ltb-lt, and_l, and_r, and_i, or-e, not-i}
use Rattle.bigendian.specs.BigEndian.{bytes_of}
use Rattle.bigendian.proofs.Laws.{Bytes, number_at_lem, number_lt, bytes_rest}
use Rattle.state.specs.declared.Reason.{Reason}
use Rattle.state.specs.declared.Reason.TheVariants.{Stopped, NoQuorum, Outvoted}
use Rattle.state.specs.declared.Group.{Group}
use Rattle.state.specs.declared.State.{State}
use Rattle.state.specs.declared.State.TheVariants.{Out, Joining, Member}
use Rattle.state.specs.declared.Node.{Node}
use Rattle.refusal.specs.declared.Refusal.TheVariants.{Length, Image}
use Rattle.state.specs.State.{reason_code, formed_sets, formed_place, formed_state, formed}
use Rattle.state.specs.Image.{kind_code, reason_byte, no_group, group_bytes, layout, image_of}
use Rattle.state.specs.Image.{kind_at, reason_at, group_at, is_zero, member_reason, formed_reason, well_formed, reason_of, state_of, node_if, node_at, decoded}
use Rattle.state.proofs.Fields.{member_bound, place_bounds, of_out, of_joining, of_member}

pub image_length : (n : Node) → length (image_of n) ≡ 24
unfolding image_of bytes_of
image_length n = refl

-- ---- from a node to its image and back

-- the sets of a member fit eight bytes
pub sets_fit : (id n M B : ℕ) → n ≤ 64 → formed_sets id n M B ≡ true → (M < 2 ^ 64) × (B < 2 ^ 64)
unfolding formed_sets subset ◌∩◌ below
sets_fit id n M B h e =
    let part : bit_and M B ≡ M = eqb-true (and_r (has id M) (subset M B) (and_l (has id M && subset M B) (eqb (below n B) B) e)) in
    let low : B % 2 ^ n ≡ B = eqb-true (and_r (has id M && subset M B) (eqb (below n B) B) e) in
    let less : B % 2 ^ n < 2 ^ n = mod-lt B (pow_pos n) in
    let top : 2 ^ n ≤ 2 ^ 64 = pow_mono h in
    let in-base : bit_and M B ≤ B = and_le_r M B in
    (omega arith, omega arith)

group_back : (kind reason id n : ℕ) (g : Group) → g.number < 2 ^ 32 → g.set < 2 ^ 64 → g.base < 2 ^ 64
    → group_at (layout kind reason id n g) ≡ g
unfolding bytes_of
group_back kind reason id n g hG hM hB = λ i. record { number = eG i; set = eM i; base = eB i }
  where
    eG : (group_at (layout kind reason id n g)).number ≡ g.number
    eG = number_at_lem (kind ∷ reason ∷ id ∷ n ∷ []) (bytes_of 8 g.set ++ bytes_of 8 g.base) 4 4 g.number refl hG

    eM : (group_at (layout kind reason id n g)).set ≡ g.set
    eM = number_at_lem (kind ∷ reason ∷ id ∷ n ∷ bytes_of 4 g.number) (bytes_of 8 g.base) 8 8 g.set refl hM

    eB : (group_at (layout kind reason id n g)).base ≡ g.base
    eB = number_at_lem (kind ∷ reason ∷ id ∷ n ∷ (bytes_of 4 g.number ++ bytes_of 8 g.set)) [] 16 8 g.base refl hB

reason_back : (r : Reason) → (ltb (reason_code r) 3 ≡ true) × (reason_of (reason_code r) ≡ r)
reason_back Stopped = (refl, refl)
reason_back NoQuorum = (refl, refl)
reason_back Outvoted = (refl, refl)

-- a member's reason says whether it requests
request_back : (quiet a : Bool) (id n : ℕ) (g : Group) → (quiet || not a) ≡ true
    → node_if (member_reason quiet (cond a 1 0) && true) (Member g (eqb (cond a 1 0) 1)) id n ≡ Ok (record { state = Member g a; id = id; nodes = n })
request_back true true id n g e = refl
request_back true false id n g e = refl
request_back false true id n g e = absurd (false≢true e)
request_back false false id n g e = refl

from_state : (quiet : Bool) (t : State) (id n : ℕ) → formed_place id n ≡ true → formed_state quiet id n t ≡ true
    → decoded quiet (image_of (record { state = t; id = id; nodes = n })) ≡ Ok (record { state = t; id = id; nodes = n })
unfolding image_of
from_state quiet (Out r) id n p f =
    of_out quiet _ (image_length (record { state = Out r; id = id; nodes = n })) p refl
    ∙ ap (λ (g : Group). node_if (ltb (reason_code r) 3 && is_zero g) (Out (reason_of (reason_code r))) id n) (group_back 0 (reason_code r) id n no_group (lit< tt) (lit< tt) (lit< tt))
    ∙ rw ((reason_back r).0, (reason_back r).1)
from_state quiet Joining id n p f =
    of_joining quiet _ (image_length (record { state = Joining; id = id; nodes = n })) p refl
    ∙ ap (λ (g : Group). node_if (is_zero g) Joining id n) (group_back 1 0 id n no_group (lit< tt) (lit< tt) (lit< tt))
from_state quiet (Member g a) id n p f =
    let group = and_r (quiet || not a) (ltb g.number (2 ^ 32) && formed_sets id n g.set g.base) f in
    let sets : formed_sets id n g.set g.base ≡ true = and_r (ltb g.number (2 ^ 32)) (formed_sets id n g.set g.base) group in
    let fit = sets_fit id n g.set g.base (place_bounds id n p).1 sets in
    of_member quiet _ (image_length (record { state = Member g a; id = id; nodes = n })) p refl
    ∙ ap (λ (h : Group). node_if (member_reason quiet (cond a 1 0) && formed_sets id n h.set h.base) (Member h (eqb (cond a 1 0) 1)) id n)
    (group_back 2 (cond a 1 0) id n g (ltb-lt (and_l (ltb g.number (2 ^ 32)) (formed_sets id n g.set g.base) group)) fit.0 fit.1)
    ∙ rw sets (request_back quiet a id n g (and_l (quiet || not a) (ltb g.number (2 ^ 32) && formed_sets id n g.set g.base) f))

pub round_trip : (quiet : Bool) (n : Node) → formed quiet n ≡ true → decoded quiet (image_of n) ≡ Ok n
unfolding formed
round_trip quiet n f =
    let place = formed_place n.id n.nodes in
    let state = formed_state quiet n.id n.nodes n.state in
    from_state quiet n.state n.id n.nodes (and_l place state f) (and_r place state f)

-- ---- from an image to its node and back

-- the sentence on well-formed images, part by part
record Sound (quiet : Bool) (s : List ℕ) : Type 0 where
  whole : length s ≡ 24
  kind : ltb (kind_at s) 3 ≡ true
  reason : ltb (reason_at s) 3 ≡ true
  place : formed_place (get_or s 2 0) (get_or s 3 0) ≡ true
  no_reason : formed_reason quiet (kind_at s) (reason_at s) ≡ true
  no_group : (eqb (kind_at s) 2 || is_zero (group_at s)) ≡ true
  sets : (not (eqb (kind_at s) 2) || formed_sets (get_or s 2 0) (get_or s 3 0) (group_at s).set (group_at s).base) ≡ true

and6 : (a b c d e f : Bool) → (a && b && c && d && e && f) ≡ true
    → (a ≡ true) × (b ≡ true) × (c ≡ true) × (d ≡ true) × (e ≡ true) × (f ≡ true)
and6 a b c d e f h =
    let h5 = and_l (a && b && c && d && e) f h in
    let h4 = and_l (a && b && c && d) e h5 in
    let h3 = and_l (a && b && c) d h4 in
    let h2 = and_l (a && b) c h3 in
    (and_l a b h2, and_r a b h2, and_r (a && b) c h3, and_r (a && b && c) d h4, and_r (a && b && c && d) e h5, and_r (a && b && c && d && e) f h)

sound : (quiet : Bool) (s : List ℕ) → length s ≡ 24 → well_formed quiet s ≡ true → Sound quiet s
unfolding well_formed
sound quiet s l w =
    let r = and6 _ _ _ _ _ _ w in
    record { whole = l; kind = r.0; reason = r.1; place = r.2; no_reason = r.3; no_group = r.4; sets = r.5 }

good_sound : (quiet : Bool) (s : List ℕ) (n : Node) → decoded quiet s ≡ Ok n → Sound quiet s × (node_at s ≡ n)
unfolding decoded
good_sound quiet s n = go (eqb (length s) 24) (well_formed quiet s) refl refl
  where
    go : (b c : Bool) → eqb (length s) 24 ≡ b → well_formed quiet s ≡ c → cond b (cond c (Ok (node_at s)) (Err Image)) (Err Length) ≡ Ok n → Sound quiet s × (node_at s ≡ n)
    go true true l w e = (sound quiet s (eqb-true l) w, cc)
    go true false l w e = let z : ◌≡◌ {A = ℕ} 0 1 = cc in absurd (omega arith)
    go false c l w e = let z : ◌≡◌ {A = ℕ} 0 1 = cc in absurd (omega arith)

layout_back : (s : List ℕ) → length s ≡ 24 → Bytes s → layout (kind_at s) (reason_at s) (get_or s 2 0) (get_or s 3 0) (group_at s) ≡ s
layout_back s l b =
    let last : bytes_of 8 (group_at s).base ≡ drop 16 s =
    sym (append-nil _) ∙ ap (λ (r : List ℕ). bytes_of 8 (group_at s).base ++ r) (sym (drop_of_length-le s {i = 24} (omega arith))) ∙ bytes_rest s 16 8 b (omega arith) in
    ap (λ (r : List ℕ). kind_at s ∷ reason_at s ∷ get_or s 2 0 ∷ get_or s 3 0 ∷ r)
    (ap (λ (r : List ℕ). bytes_of 4 (group_at s).number ++ (bytes_of 8 (group_at s).set ++ r)) last
    ∙ ap (λ (r : List ℕ). bytes_of 4 (group_at s).number ++ r) (bytes_rest s 8 8 b (omega arith))
    ∙ bytes_rest s 4 4 b (omega arith))
    ∙ sym (drop-cons s 0 0 (omega arith) ∙ ap (λ (r : List ℕ). kind_at s ∷ r) (drop-cons s 1 0 (omega arith)
    ∙ ap (λ (r : List ℕ). reason_at s ∷ r) (drop-cons s 2 0 (omega arith)
    ∙ ap (λ (r : List ℕ). get_or s 2 0 ∷ r) (drop-cons s 3 0 (omega arith)))))

code_back : (r : ℕ) → ltb r 3 ≡ true → reason_code (reason_of r) ≡ r
code_back zero h = refl
code_back (suc zero) h = refl
code_back (suc (suc zero)) h = refl
code_back (suc (suc (suc r))) h = let l : suc (suc (suc r)) < 3 = ltb-lt h in absurd (omega arith)

zero-group : (g : Group) → is_zero g ≡ true → no_group ≡ g
zero-group g e =
    let zG = eqb g.number 0 in
    let zM = eqb g.set 0 in
    let zB = eqb g.base 0 in
    let h = and_l (zG && zM) zB e in
    let eG : g.number ≡ 0 = eqb-true (and_l zG zM h) in
    let eM : g.set ≡ 0 = eqb-true (and_r zG zM h) in
    let eB : g.base ≡ 0 = eqb-true (and_r (zG && zM) zB e) in
    λ i. record { number = sym eG i; set = sym eM i; base = sym eB i }

-- the fields of the state that was read are those of the image
-- the reason of a member says whether it requests
reason_of_member : (r : ℕ) → r < 2 → cond (eqb r 1) 1 0 ≡ r
reason_of_member zero h = refl
reason_of_member (suc zero) h = refl
reason_of_member (suc (suc r)) h = absurd (omega arith)

state_back : (quiet : Bool) (k r : ℕ) (g : Group) → ltb k 3 ≡ true → ltb r 3 ≡ true → formed_reason quiet k r ≡ true → (eqb k 2 || is_zero g) ≡ true
    → (kind_code (state_of k r g) ≡ k) × (reason_byte (state_of k r g) ≡ r) × (group_bytes (state_of k r g) ≡ g)
state_back quiet zero r g hk hr er eg = (refl, code_back r hr, zero-group g eg)
state_back quiet (suc zero) r g hk hr er eg = (refl, sym (eqb-true er), zero-group g eg)
state_back quiet (suc (suc zero)) r g hk hr er eg = (refl, reason_of_member r (member_bound quiet r er), refl)
state_back quiet (suc (suc (suc k))) r g hk hr er eg = let l : suc (suc (suc k)) < 3 = ltb-lt hk in absurd (omega arith)

may_request : (quiet : Bool) (r : ℕ) → formed_reason quiet 2 r ≡ true → (quiet || not (eqb r 1)) ≡ true
may_request true r e = refl
may_request false r e = not-i (eqb r 1) (no_one (or-e (eqb r 0) false e))
  where
    no_one : (eqb r 0 ≡ true) ⊎ (false ≡ true) → eqb r 1 ≡ false
    no_one (inl h) = let z : r ≡ 0 = eqb-true h in rw z
    no_one (inr h) = absurd (false≢true h)

state_formed : (quiet : Bool) (k r id n : ℕ) (g : Group) → formed_reason quiet k r ≡ true → g.number < 2 ^ 32 → (not (eqb k 2) || formed_sets id n g.set g.base) ≡ true → ltb k 3 ≡ true
    → formed_state quiet id n (state_of k r g) ≡ true
state_formed quiet zero r id n g er h e hk = refl
state_formed quiet (suc zero) r id n g er h e hk = refl
state_formed quiet (suc (suc zero)) r id n g er h e hk =
    and_i (quiet || not (eqb r 1)) (ltb g.number (2 ^ 32) && formed_sets id n g.set g.base) (may_request quiet r er)
    (and_i (ltb g.number (2 ^ 32)) (formed_sets id n g.set g.base) (ltb-true h) e)
state_formed quiet (suc (suc (suc k))) r id n g er h e hk = let l : suc (suc (suc k)) < 3 = ltb-lt hk in absurd (omega arith)

pub image_back : (quiet : Bool) (s : List ℕ) (n : Node) → Bytes s → decoded quiet s ≡ Ok n → image_of n ≡ s
unfolding image_of
image_back quiet s n b e =
    let r = good_sound quiet s n e in
    let w = r.0 in
    let same = state_back quiet (kind_at s) (reason_at s) (group_at s) w.kind w.reason w.no_reason w.no_group in
    ap image_of (sym r.1) ∙ rw (same.0, same.1, same.2) (layout_back s w.whole b)

pub decoded-formed : (quiet : Bool) (s : List ℕ) (n : Node) → Bytes s → decoded quiet s ≡ Ok n → formed quiet n ≡ true
unfolding formed
decoded-formed quiet s n b e =
    let r = good_sound quiet s n e in
    let w = r.0 in
    ap (formed quiet) (sym r.1)
    ∙ and_i (formed_place (get_or s 2 0) (get_or s 3 0)) _ w.place
    (state_formed quiet (kind_at s) (reason_at s) (get_or s 2 0) (get_or s 3 0) (group_at s) w.no_reason (number_lt s 4 4 b) w.sets w.kind)
