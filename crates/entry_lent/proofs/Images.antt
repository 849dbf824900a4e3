-- What reading a lent image says of its length and of the node in it, and the refusals of a call that is lent an image and another buffer. Assumes nothing.
use Rattle.std.specs.Result.{is_err}
use Rattle.std.proofs.Common.{◌≡◌, ℕ, ◌<◌, ◌≤◌, Bool, true, false, not, cond, eqb, List, length, refl, ap, ◌∙◌, arith, Result, Ok, Err, eq-eqb, ne_eqb}
use mathlib.Core.Bool.{or-false, or-true}
use Rattle.bigendian.proofs.Laws.{Bytes}
use Rattle.state.specs.declared.Node.{Node}
use Rattle.state.specs.State.{formed, formed_place, formed_state}
use Rattle.state.specs.Image.{decoded, refusal, well_formed, node_at}
use Rattle.state.proofs.Fields.{place_bounds}
use Rattle.state.proofs.RoundTrip.{decoded-formed}
use Rattle.sets.proofs.Booleans.{and_l}
use Rattle.refusal.specs.declared.Refusal.{Refusal}
use Rattle.refusal.specs.declared.Refusal.TheVariants.{Number, Length, Image}
use Rattle.refusal.specs.Codes.{status_of}
use Rattle.refusal.specs.Refusal.{first}
use Rattle.refusal.proofs.Codes.{numbered}
use Rattle.rules.specs.OneCycle.{wrong_mode, quiet_in}
use Rattle.entry_lent.specs.Refusals.{wrong_length, lent_conditions}
use Rattle.entry_lent.specs.Found.{lent_state, image_status}
use Rattle.entry_lent.proofs.Bounds.{length-is}

-- what holds of a node, of a malformed image and of one of another length holds of what reading an image finds
pub by_decoded : (quiet : Bool) (s : List ℕ) (P : Result Node Refusal → Type 0) → P (Ok (node_at s)) → P (Err Image) → P (Err Length) → P (decoded quiet s)
unfolding decoded
by_decoded quiet s P good malformed short = go (eqb (length s) 24) (well_formed quiet s)
  where
    go : (b c : Bool) → P (cond b (cond c (Ok (node_at s)) (Err Image)) (Err Length))
    go true true = good
    go true false = malformed
    go false c = short

-- the length of a lent image, by what reading it finds
abbrev pub is_wrong : Result Node Refusal → Bool
is_wrong d = eqb (status_of d) 3

pub length_read : (quiet : Bool) (s : List ℕ) → wrong_length 24 s ≡ is_wrong (decoded quiet s)
unfolding decoded
length_read quiet s = go (eqb (length s) 24) (well_formed quiet s)
  where
    go : (b c : Bool) → not b ≡ is_wrong (cond b (cond c (Ok (node_at s)) (Err Image)) (Err Length))
    go true true = refl
    go true false = refl
    go false c = refl

pub good_length : (quiet : Bool) (s : List ℕ) (n : Node) → decoded quiet s ≡ Ok n → length s ≡ 24
good_length quiet s n e = length-is 24 s (length_read quiet s ∙ ap is_wrong e)

-- the node that is found is the one of its bytes
pub good_node : (quiet : Bool) (s : List ℕ) (n : Node) → decoded quiet s ≡ Ok n → node_at s ≡ n
good_node quiet s n = by_decoded quiet s (λ (d : Result Node Refusal). d ≡ Ok n → node_at s ≡ n) (λ e. cc) (λ e. cc) (λ e. cc)

pub good_place : (quiet : Bool) (s : List ℕ) (n : Node) → Bytes s → decoded quiet s ≡ Ok n → (n.nodes ≤ 64) × (n.id < n.nodes)
unfolding formed
good_place quiet s n b e =
    let p = place_bounds n.id n.nodes (and_l (formed_place n.id n.nodes) (formed_state quiet n.id n.nodes n.state) (decoded-formed quiet s n b e)) in
    (p.1, p.2)

pub other_length : (quiet : Bool) (s f : List ℕ) (k : ℕ) → (length f ≡ k → ⊥) → 3 ≡ first (lent_conditions quiet s k f)
unfolding first
other_length quiet s f k h = simp (ne_eqb (length f) k h, or-true)

-- past the other buffer the image decides
pub by_image : (quiet : Bool) (s f : List ℕ) (k : ℕ) → length f ≡ k → refusal (decoded quiet s) ≡ first (lent_conditions quiet s k f)
unfolding first
by_image quiet s f k l =
    simp (eq-eqb (length f) k l, or-false, length_read quiet s)
    (by_decoded quiet s (λ (d : Result Node Refusal). status_of d ≡ cond (is_wrong d) 3 (cond (eqb (status_of d) 4) 4 0)) refl refl refl)

-- what a mode says, and of what is none
pub mode_found : (mode : ℕ) (quiet : Bool) → Ok quiet ≡ cond (wrong_mode mode) (Err Number) (Ok (quiet_in mode)) → (wrong_mode mode ≡ false) × (quiet ≡ quiet_in mode)
mode_found mode quiet = go (wrong_mode mode)
  where
    go : (b : Bool) → Ok quiet ≡ cond b (Err Number) (Ok (quiet_in mode)) → (b ≡ false) × (quiet ≡ quiet_in mode)
    go true e = cc
    go false e = (refl, cc)

pub mode_refused : (mode : ℕ) (r : Refusal) → Err r ≡ cond (wrong_mode mode) (Err Number) (Ok (quiet_in mode)) → (wrong_mode mode ≡ true) × (r ≡ Number)
mode_refused mode r = go (wrong_mode mode)
  where
    go : (b : Bool) → Err r ≡ cond b (Err Number) (Ok (quiet_in mode)) → (b ≡ true) × (r ≡ Number)
    go true e = (refl, cc)
    go false e = cc

-- that a mode is none, by whether looking at it refuses
pub mode_wrong : (mode : ℕ) (w : Bool) (r : Result Bool Refusal) → w ≡ is_err r → r ≡ cond (wrong_mode mode) (Err Number) (Ok (quiet_in mode)) → w ≡ wrong_mode mode
mode_wrong mode w r e h = e ∙ ap is_err h ∙ go (wrong_mode mode)
  where
    go : (b : Bool) → is_err (cond b (Err Number) (Ok (quiet_in mode))) ≡ b
    go true = refl
    go false = refl

-- that a number is wrong, by whether looking at it refuses
pub number_wrong : (w b : Bool) (r : Result Unit Refusal) → w ≡ is_err r → status_of r ≡ cond b 2 0 → w ≡ b
number_wrong w b r e h = e ∙ go r b h
  where
    go : (r : Result Unit Refusal) (b : Bool) → status_of r ≡ cond b 2 0 → is_err r ≡ b
    go (Err x) true h = refl
    go (Ok u) false h = refl
    go (Err x) false h = absurd (numbered x h)
    go (Ok u) true h = absurd (omega arith)

-- a call that is lent a state alone finds a node in a mode that there is
pub found_state : (mode : ℕ) (s : List ℕ) (n : Node) → lent_state mode s ≡ Ok n → (wrong_mode mode ≡ false) × (decoded (quiet_in mode) s ≡ Ok n)
unfolding lent_state
found_state mode s n = go (wrong_mode mode)
  where
    go : (b : Bool) → cond b (Err Number) (decoded (quiet_in mode) s) ≡ Ok n → (b ≡ false) × (decoded (quiet_in mode) s ≡ Ok n)
    go true e = cc
    go false e = (refl, e)

-- what is left of such a call is what it was before, if it is that where nothing is found
pub state_kept : {A : Type 0} (left : Result Node Refusal → A) (before : A) (mode : ℕ) (s : List ℕ) → ((r : Refusal) → left (Err r) ≡ before)
    → (image_status mode s ≡ 0 → ⊥) → left (lent_state mode s) ≡ before
unfolding image_status
state_kept left before mode s kept refused = by (lent_state mode s) refused
  where
    by : (d : Result Node Refusal) → (status_of d ≡ 0 → ⊥) → left d ≡ before
    by (Ok n) refused = absurd (refused refl)
    by (Err r) refused = kept r
