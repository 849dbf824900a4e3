-- The payload of a frame, and the drive's part of a heartbeat's. Assumes nothing.
use mathlib.Core.Path.{◌≡◌, refl, sym, ap, ap₂, ◌∙◌}
use mathlib.Core.List.{List, [], ◌∷◌, ◌++◌, append_assoc}
use mathlib.Core.Bool.{false}
use Prim.Native.Nat.{ℕ, zero, suc, ◌+◌, ◌-◌, ◌/◌, ◌%◌, ◌≤◌, ◌<◌}
use native.Mathlib.Omega.{arith}
use lib.Dec.{eqb, ltb}
use lib.ListN.{length, take, drop, get_or, length-append, length-drop, take-append-drop}
use lib.Seq.{length-take-le, take_at, drop_at, drop-cons, drop-drop, get_or-take, get_or-drop}
use borrow.Author.Tests.{eqb-false, ne_eqb, ltb-false, le-ltb}
use Rattle.sets.proofs.Booleans.{or_f_l, or_f_r}
use Rattle.bigendian.proofs.Laws.{length_bytes}
use Rattle.crc.specs.Crc.{channel_start}
use Rattle.frames.specs.Written.{header, frame, first_byte, heartbeat_frame, wrong_drive}
use Rattle.frames.specs.Read.{payload_of, drive_of}
use Rattle.frames.proofs.Lengths.{length-header}

-- ---- drive bytes to be written

pub drive_bounds : (drive : List ℕ) → wrong_drive drive ≡ false → (length drive % 2 ≡ 0) × (length drive ≤ 252)
unfolding wrong_drive
drive_bounds drive e =
    let odd : length drive % 2 ≡ 1 → ⊥ = eqb-false _ 1 (or_f_l (eqb (length drive % 2) 1) (ltb 252 (length drive)) e) in
    (omega arith, ltb-false 252 (length drive) (or_f_r (eqb (length drive % 2) 1) (ltb 252 (length drive)) e))

pub drive_good : (drive : List ℕ) → length drive % 2 ≡ 0 → length drive ≤ 252 → wrong_drive drive ≡ false
unfolding wrong_drive
drive_good drive e l = let odd : length drive % 2 ≡ 1 → ⊥ = λ x. omega arith in rw (ne_eqb (length drive % 2) 1 odd) (le-ltb 252 (length drive) l)

pub none_wrong : wrong_drive [] ≡ false
unfolding wrong_drive
none_wrong = refl

-- ---- a frame that is written

-- between five bytes and three
between : (h p t : List ℕ) → length h ≡ 5 → length t ≡ 3 → payload_of ((h ++ p) ++ t) ≡ p
unfolding payload_of
between h p t l m =
    let w : length ((h ++ p) ++ t) ≡ length (h ++ p) + length t = length-append (h ++ p) t in
    let n : length (h ++ p) ≡ length h + length p = length-append h p in
    let k : length p ≡ length ((h ++ p) ++ t) - 8 = omega arith in
    ap (take (length ((h ++ p) ++ t) - 8)) (ap (drop 5) (append_assoc h p t) ∙ drop_at h (p ++ t) 5 l) ∙ take_at p t (length ((h ++ p) ++ t) - 8) k

payload_written : (start : ℕ) (h p : List ℕ) → length h ≡ 5 → payload_of (frame start (h ++ p)) ≡ p
unfolding frame
payload_written start h p l = between h p _ l (length_bytes 3 _)

module _ (q join request sync startup cycle channel : ℕ) (drive : List ℕ) where
  pub heartbeat-payload : payload_of (heartbeat_frame q join request sync startup cycle channel drive) ≡ first_byte join request ∷ 0 ∷ drive
  unfolding heartbeat_frame
  heartbeat-payload = payload_written (channel_start channel) (header sync startup (q + 1) (1 + length drive / 2) cycle) (first_byte join request ∷ 0 ∷ drive) (length-header sync startup (q + 1) (1 + length drive / 2) cycle)

  pub heartbeat-drive : drive_of (heartbeat_frame q join request sync startup cycle channel drive) ≡ drive
  unfolding drive_of
  heartbeat-drive = ap (drop 2) heartbeat-payload

-- ---- a frame with a first word

module _ (s : List ℕ) (l : 10 ≤ length s) where
  room : length s - 8 ≤ length (drop 5 s)
  room = let d = length-drop 5 s in omega arith

  length-payload-of : length (payload_of s) ≡ length s - 8
  unfolding payload_of
  length-payload-of = length-take-le (length s - 8) (drop 5 s) room

  pub length-drive : length (drive_of s) ≡ length s - 10
  unfolding drive_of
  length-drive = let a = length-drop 2 (payload_of s) in let b = length-payload-of in omega arith

  -- the bytes of the first word
  pub byte : (i : ℕ) → i < 2 → get_or (payload_of s) i 0 ≡ get_or s (5 + i) 0
  unfolding payload_of
  byte i h = get_or-take (length s - 8) (drop 5 s) i 0 (omega arith) ∙ get_or-drop 5 s i 0

  pub payload-split : payload_of s ≡ get_or s 5 0 ∷ get_or s 6 0 ∷ drive_of s
  unfolding drive_of
  payload-split =
      let n = length-payload-of in
      drop-cons (payload_of s) 0 0 (omega arith)
      ∙ ap₂ (λ (x : ℕ) (xs : List ℕ). x ∷ xs) (byte 0 (omega arith)) (drop-cons (payload_of s) 1 0 (omega arith) ∙ ap (λ (x : ℕ). x ∷ drop 2 (payload_of s)) (byte 1 (omega arith)))

  -- and what follows it
  pub payload-rest : payload_of s ++ drop (length s - 3) s ≡ drop 5 s
  unfolding payload_of
  payload-rest =
      let e : 5 + (length s - 8) ≡ length s - 3 = omega arith in
      ap (λ (k : ℕ). take (length s - 8) (drop 5 s) ++ drop k s) (sym e) ∙ ap (λ (x : List ℕ). take (length s - 8) (drop 5 s) ++ x) (sym (drop-drop (length s - 8) 5 s)) ∙ take-append-drop (length s - 8) (drop 5 s)

-- ---- where they stand in a frame

drop-take : (k m : ℕ) (l : List ℕ) → drop k (take m l) ≡ take (m - k) (drop k l)
drop-take zero m l = let e : m ≡ m - 0 = omega arith in ap (λ (n : ℕ). take n l) e
drop-take (suc k) zero l = let e : 0 ≡ 0 - suc k = omega arith in ap (λ (n : ℕ). take n (drop (suc k) l)) e
drop-take (suc k) (suc m) [] = go (suc m - suc k)
  where
    go : (n : ℕ) → [] ≡ take {A = ℕ} n []
    go zero = refl
    go (suc n) = refl
drop-take (suc k) (suc m) (x ∷ xs) = let e : m - k ≡ suc m - suc k = omega arith in drop-take k m xs ∙ ap (λ (n : ℕ). take n (drop k xs)) e

pub payload_part : (s : List ℕ) → take (length s - 3 - 5) (drop 5 s) ≡ payload_of s
unfolding payload_of
payload_part s = let e : length s - 3 - 5 ≡ length s - 8 = omega arith in ap (λ (n : ℕ). take n (drop 5 s)) e

pub drive_part : (s : List ℕ) → take (length s - 3 - 7) (drop 7 s) ≡ drive_of s
unfolding drive_of payload_of
drive_part s =
    let e : length s - 3 - 7 ≡ length s - 8 - 2 = omega arith in
    ap₂ (λ (n : ℕ) (l : List ℕ). take n l) e (sym (drop-drop 2 5 s)) ∙ sym (drop-take 2 (length s - 8) (drop 5 s))
