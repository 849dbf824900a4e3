-- What is written reads back, and a frame that is accepted is, byte for byte, the one that would be written. Assumes nothing.
use mathlib.Core.Path.{◌≡◌, refl, sym, ap, ap₂, ◌∙◌, subst}
use mathlib.Core.Logic.{◌⊎◌, inl, inr}
use mathlib.Core.Bool.{Bool, true, false, not, ◌&&◌, cond, true≢false}
use mathlib.Core.List.{List, [], ◌∷◌, ◌++◌, append_assoc, append-nil}
use Prim.Native.Nat.{ℕ, ◌+◌, ◌-◌, ◌*◌, ◌/◌, ◌%◌, ◌^◌, ◌≤◌, ◌<◌}
use native.Mathlib.Nat.{mod-lt, add-zero}
use native.Mathlib.Omega.{arith}
use lib.Dec.{eqb, lit<}
use lib.ListN.{length, take, drop, get_or, length-append, drop_of_length-le}
use lib.Pow.{pow_pos, pow_mono}
use lib.Bits.{and_le_r}
use lib.Seq.{take_at, get_or_at}
use borrow.Author.Tests.{ne_eqb, le-leb, leb-true}
use Rattle.std.specs.Prelude.{Option, None, Some, Result, Ok, Err}
use Rattle.sets.specs.Sets.{has, subset, below, ◌∩◌}
use Rattle.sets.proofs.Booleans.{and_l, and_r, eqb-true}
use Rattle.sets.proofs.Membership.{bit2}
use Rattle.bigendian.specs.BigEndian.{bytes_of, number_at}
use Rattle.bigendian.proofs.Laws.{Bytes, length_bytes, number_at_lem, number_lt, bytes_rest}
use Rattle.crc.specs.Crc.{header_check, frame_check, channel_start}
use Rattle.crc.proofs.Laws.{header-lt, frame-lt, start_lt}
use Rattle.rules.specs.declared.Vote.{Vote}
use Rattle.frames.specs.declared.Heartbeat.{Heartbeat}
use Rattle.frames.specs.declared.Heartbeat.TheVariants.{Alive, Join, Request}
use Rattle.frames.specs.declared.Fault.{Fault}
use Rattle.frames.specs.declared.Fault.TheVariants.{Content}
use Rattle.frames.specs.Written.{header, frame, first_byte, wrong_request, heartbeat_frame, wrong_drive, vote_payload, vote_frame, formed_vote}
use Rattle.frames.specs.Read.{sync_of, startup_of, words_of, heartbeat_words, vote_words, fault_of, heartbeat_indicators, vote_indicators, drive_of, heartbeat_of, heartbeat_content, heartbeat_unless, read_heartbeat, is_good, payload_vote, vote_unless, read_vote, join_of, request_of}
use Rattle.frames.proofs.Faults.{Clean, clean, clean-none, vote-length, heartbeat-length, all_five}
use Rattle.frames.proofs.Lengths.{length-header, length-frame, length_with, length_payload}
use Rattle.frames.proofs.Payloads.{drive_bounds, drive_good, heartbeat-drive, length-drive, payload-split, payload-rest}
use Rattle.frames.proofs.Headers.{word, Fields, word_lt, word_fields, fields-word}

-- ---- the check at a frame's end

module _ (start : ℕ) (s : List ℕ) where
  place : length (frame start s) - 3 ≡ length s
  place = let l = length-frame start s in omega arith

  front : take (length (frame start s) - 3) (frame start s) ≡ s
  unfolding frame
  front = take_at s _ (length (frame start s) - 3) (sym place)

  at-end : start < 2 ^ 24 → number_at (frame start s) (length (frame start s) - 3) 3 ≡ frame_check start s
  unfolding frame
  at-end l =
      ap (λ (t : List ℕ). number_at (s ++ t) (length (frame start s) - 3) 3) (sym (append-nil (bytes_of 3 (frame_check start s))))
      ∙ number_at_lem s [] (length (frame start s) - 3) 3 (frame_check start s) (sym place) (frame-lt start s l)

-- ---- a written header

abbrev sent : ℕ → ℕ → ℕ → ℕ → ℕ → ℕ → List ℕ → List ℕ
sent sync startup number words cycle channel payload = frame (channel_start channel) (header sync startup number words cycle ++ payload)

module _ (sync startup number words cycle channel : ℕ) (payload : List ℕ) (a : sync < 2) (b : startup < 2) (c : number < 2 ^ 11) (d : words < 2 ^ 7)
    (e : cycle < 2 ^ 6) where
  head : number_at (sent sync startup number words cycle channel payload) 0 5 ≡ word sync startup number words (header_check sync startup number words) cycle
  unfolding frame header
  head =
      ap (λ (l : List ℕ). number_at l 0 5) (append_assoc (header sync startup number words cycle) payload _)
      ∙ number_at_lem
      []
      _
      0
      5
      (word sync startup number words (header_check sync startup number words) cycle)
      refl
      (word_lt sync startup number words (header_check sync startup number words) cycle a b c d (header-lt sync startup number words) e)

  sent-fields : Fields (number_at (sent sync startup number words cycle channel payload) 0 5) sync startup number words (header_check sync startup number words) cycle
  sent-fields =
      subst
      (λ (x : ℕ). Fields x sync startup number words (header_check sync startup number words) cycle)
      (sym head)
      (word_fields sync startup number words (header_check sync startup number words) cycle a b c d (header-lt sync startup number words) e)

  sent-clean : {due indicators : Bool} → length payload ≡ 2 * words → due ≡ true → indicators ≡ true
      → Clean number cycle due indicators channel (sent sync startup number words cycle channel payload)
  sent-clean l o i =
      let f = sent-fields in
      let s = sent sync startup number words cycle channel payload in
      let n : length s ≡ 5 + 2 * words + 3 = length_with (channel_start channel) sync startup number words cycle (2 * words) payload l in
      let w : words_of s ≡ words = f.worded in
      record {
        sized = omega arith;
        checked = rw (f.synced, f.started, f.numbered, f.worded) f.checked;
        framed = at-end _ _ (start_lt channel) ∙ ap (frame_check (channel_start channel)) (sym (front _ _));
        sent = f.sent;
        reserved = f.reserved;
        preamble = f.preamble;
        numbered = f.numbered;
        counted = f.counted;
        worded = o;
        indicated = i;
      }

-- ---- an accepted frame's header and check

module _ (number cycle : ℕ) (due indicators : Bool) (channel : ℕ) (s : List ℕ) (bytes : Bytes s) (c : Clean number cycle due indicators channel s) where
  taken-header : header (sync_of s) (startup_of s) number (words_of s) cycle ++ drop 5 s ≡ s
  unfolding header
  taken-header =
      let l : 0 + 5 ≤ length s = let z = c.sized in omega arith in
      ap (λ (x : ℕ). bytes_of 5 x ++ drop 5 s)
      (sym
      (fields-word
      (sync_of s)
      (startup_of s)
      number
      (words_of s)
      (header_check (sync_of s) (startup_of s) number (words_of s))
      cycle
      (number_at s 0 5)
      (number_lt s 0 5 bytes)
      record {
        reserved = c.reserved;
        preamble = c.preamble;
        sent = c.sent;
        synced = refl;
        started = refl;
        numbered = c.numbered;
        worded = refl;
        checked = c.checked ∙ ap (λ (x : ℕ). header_check (sync_of s) (startup_of s) x (words_of s)) c.numbered;
        counted = c.counted;
      }))
      ∙ bytes_rest s 0 5 bytes l

  -- with p in front of the check, and as long as the length field says
  taken-frame : (p : List ℕ) → length p ≡ 5 + 2 * words_of s → p ++ drop (length p) s ≡ s → s ≡ frame (channel_start channel) p
  unfolding frame
  taken-frame p k e =
      let z = c.sized in
      let i : length s - 3 ≡ length p = omega arith in
      let l : length p + 3 ≤ length s = omega arith in
      let m : length s ≤ length p + 3 = omega arith in
      let f : take (length s - 3) s ≡ p =
      ap₂ (λ (n : ℕ) (x : List ℕ). take n x) i (sym e) ∙ take_at p (drop (length p) s) (length p) refl in
      let v : number_at s (length p) 3 ≡ frame_check (channel_start channel) p =
      ap (λ (n : ℕ). number_at s n 3) (sym i) ∙ c.framed ∙ ap (frame_check (channel_start channel)) f in
      let r : drop (length p) s ≡ bytes_of 3 (number_at s (length p) 3) =
      sym (bytes_rest s (length p) 3 bytes l) ∙ ap (λ (x : List ℕ). bytes_of 3 (number_at s (length p) 3) ++ x) (drop_of_length-le s m) ∙ append-nil _ in
      sym e ∙ ap (λ (x : List ℕ). p ++ x) (r ∙ ap (bytes_of 3) v)

-- ---- heartbeats

-- the answer of a heartbeat with these bits; and with any: one with a request that may not be gives 10
abbrev pub bits_answer : ℕ → ℕ → Result Heartbeat Fault
bits_answer join request = cond (eqb join 0) (cond (eqb request 0) (Ok Alive) (Ok Request)) (Ok Join)

abbrev pub answer_of : Bool → ℕ → ℕ → Result Heartbeat Fault
answer_of quiet join request = cond (wrong_request quiet join request) (Err Content) (bits_answer join request)

-- without a request nothing is wrong
pub unasked : (quiet : Bool) (join : ℕ) → wrong_request quiet join 0 ≡ false
unfolding wrong_request
unasked quiet join = refl

module _ (start : ℕ) (h : List ℕ) (a : ℕ) (drive : List ℕ) (l : length h ≡ 5) where
  abbrev check : List ℕ
  check = bytes_of 3 (frame_check start (h ++ (a ∷ 0 ∷ drive)))

  byte_5 : get_or (frame start (h ++ (a ∷ 0 ∷ drive))) 5 0 ≡ a
  unfolding frame
  byte_5 = rw append_assoc (get_or_at h a (0 ∷ (drive ++ check)) 0 5 l)

  second-byte : get_or (frame start (h ++ (a ∷ 0 ∷ drive))) 6 0 ≡ 0
  unfolding frame
  second-byte =
      let e : (h ++ (a ∷ 0 ∷ drive)) ++ check ≡ (h ++ (a ∷ [])) ++ (0 ∷ (drive ++ check)) = simp append_assoc in
      ap (λ (s : List ℕ). get_or s 6 0) e ∙ get_or_at (h ++ (a ∷ [])) 0 (drive ++ check) 0 6 (simp (length-append, l))

content_back : (quiet : Bool) (join request : ℕ) (s : List ℕ) → join < 2 → request < 2 → get_or s 5 0 ≡ first_byte join request → get_or s 6 0 ≡ 0
    → heartbeat_content quiet s ≡ answer_of quiet join request
unfolding heartbeat_of wrong_request
content_back quiet join request s lj lr a b = go quiet (bit2 join lj) (bit2 request lr)
  where
    go : (quiet : Bool) → (join ≡ 0) ⊎ (join ≡ 1) → (request ≡ 0) ⊎ (request ≡ 1) → heartbeat_content quiet s ≡ answer_of quiet join request
    go true (inl j) (inl r) = rw (a, b, j, r)
    go true (inl j) (inr r) = rw (a, b, j, r)
    go true (inr j) (inl r) = rw (a, b, j, r)
    go true (inr j) (inr r) = rw (a, b, j, r)
    go false (inl j) (inl r) = rw (a, b, j, r)
    go false (inl j) (inr r) = rw (a, b, j, r)
    go false (inr j) (inl r) = rw (a, b, j, r)
    go false (inr j) (inr r) = rw (a, b, j, r)

-- the length field of a heartbeat with such drive bytes
words_fit : (drive : List ℕ) → wrong_drive drive ≡ false → (1 + length drive / 2 < 2 ^ 7) × (2 + length drive ≡ 2 * (1 + length drive / 2))
words_fit drive e = let b = drive_bounds drive e in (omega arith, omega arith)

-- what is written is read as the same bits and the same drive bytes; a request that may not be is refused
pub heartbeat_back : (quiet : Bool) (q join request sync startup cycle channel : ℕ) (drive : List ℕ) → q < 64 → join < 2 → request < 2 → sync < 2 → startup ≤ sync
    → cycle < 64 → wrong_drive drive ≡ false
    → let s = heartbeat_frame q join request sync startup cycle channel drive in
    (read_heartbeat quiet q cycle channel s ≡ answer_of quiet join request) × (drive_of s ≡ drive)
unfolding read_heartbeat heartbeat_frame
heartbeat_back quiet q join request sync startup cycle channel drive hq hj hr hs ht hc hd =
    let words = 1 + length drive / 2 in
    let payload : List ℕ = first_byte join request ∷ 0 ∷ drive in
    let s = sent sync startup (q + 1) words cycle channel payload in
    let b : startup < 2 = omega arith in
    let n : q + 1 < 2 ^ 11 = omega arith in
    let w = words_fit drive hd in
    let k : length payload ≡ 2 * words = let e = w.1 in omega arith in
    let f = sent-fields sync startup (q + 1) words cycle channel payload hs b n w.0 hc in
    let some : words ≡ 0 → ⊥ = λ x. omega (arith, x) in
    let o : heartbeat_words s ≡ true = rw (f.worded, ne_eqb words 0 some) in
    let i : heartbeat_indicators s ≡ true = rw (f.synced, f.started) (le-leb startup sync ht) in
    let c = sent-clean sync startup (q + 1) words cycle channel payload hs b n w.0 hc k o i in
    let h = header sync startup (q + 1) words cycle in
    let l : length h ≡ 5 = length-header sync startup (q + 1) words cycle in (
      ap (λ (x : Option Fault). heartbeat_unless quiet x s) (clean-none (q + 1) cycle (heartbeat_words s) (heartbeat_indicators s) channel s c)
          ∙ content_back quiet join request s hj hr (byte_5 _ h (first_byte join request) drive l) (second-byte _ h (first_byte join request) drive l),
      heartbeat-drive q join request sync startup cycle channel drive,
    )

-- a first word with the bits of what was read, which may be
abbrev Bits : Bool → ℕ → ℕ → Result Heartbeat Fault → Type 0
Bits quiet a b r = (wrong_request quiet (join_of r) (request_of r) ≡ false) × (a ≡ first_byte (join_of r) (request_of r)) × (b ≡ 0)

good_bits : (quiet : Bool) (a b : ℕ) → is_good (heartbeat_of quiet a b) ≡ true → Bits quiet a b (heartbeat_of quiet a b)
unfolding heartbeat_of wrong_request
good_bits quiet a b good = go (eqb b 0) (eqb a 0) (eqb a (2 ^ 7)) (eqb a (2 ^ 6)) quiet refl refl refl refl good
  where
    go : (z n j r w : Bool) → eqb b 0 ≡ z → eqb a 0 ≡ n → eqb a (2 ^ 7) ≡ j → eqb a (2 ^ 6) ≡ r
        → let x = cond (not z) (Err Content) (cond n (Ok Alive) (cond j (Ok Join) (cond (r && w) (Ok Request) (Err Content)))) in
        is_good x ≡ true → Bits w a b x
    go true true j r w ez en ej er g = (refl, eqb-true en, eqb-true ez)
    go true false true r w ez en ej er g = (refl, eqb-true ej, eqb-true ez)
    go true false false true true ez en ej er g = (refl, eqb-true er, eqb-true ez)
    go true false false true false ez en ej er g = absurd (true≢false (sym g))
    go true false false false w ez en ej er g = absurd (true≢false (sym g))
    go false n j r w ez en ej er g = absurd (true≢false (sym g))

-- a heartbeat that is taken: no fault, and the two bytes of the first word
taken_content : (quiet : Bool) (o : Option Fault) (s : List ℕ) → is_good (heartbeat_unless quiet o s) ≡ true
    → (o ≡ None) × Bits quiet (get_or s 5 0) (get_or s 6 0) (heartbeat_unless quiet o s)
taken_content quiet (Some f) s g = absurd (true≢false (sym g))
taken_content quiet None s g = (refl, good_bits quiet (get_or s 5 0) (get_or s 6 0) g)

-- a heartbeat that is accepted is, byte for byte, the one that would be written from its bits, indicators and drive bytes; and these can be written
pub heartbeat_only : (quiet : Bool) (q cycle channel : ℕ) (s : List ℕ) → Bytes s
    → let r = read_heartbeat quiet q cycle channel s in
    is_good r ≡ true
    → (wrong_request quiet (join_of r) (request_of r) ≡ false) × (startup_of s ≤ sync_of s) × (wrong_drive (drive_of s) ≡ false)
    × (s ≡ heartbeat_frame q (join_of r) (request_of r) (sync_of s) (startup_of s) cycle channel (drive_of s))
unfolding read_heartbeat heartbeat_frame
heartbeat_only quiet q cycle channel s b e =
    let r = read_heartbeat quiet q cycle channel s in
    let p = taken_content quiet (fault_of (q + 1) cycle (heartbeat_words s) (heartbeat_indicators s) channel s) s e in
    let c = clean (q + 1) cycle (heartbeat_words s) (heartbeat_indicators s) channel s p.0 in
    let n = heartbeat-length (q + 1) cycle (heartbeat_indicators s) channel s p.0 in
    let d = length-drive s n.0 in
    let z = c.sized in
    let w : 1 + length (drive_of s) / 2 ≡ words_of s = omega arith in
    let h = header (sync_of s) (startup_of s) (q + 1) (1 + length (drive_of s) / 2) cycle in
    let m : List ℕ = first_byte (join_of r) (request_of r) ∷ 0 ∷ drive_of s in
    let k : length (h ++ m) ≡ length s - 3 = let a = length-append h m in let x = length-header (sync_of s) (startup_of s) (q + 1) (1 + length (drive_of s) / 2) cycle in omega arith in
    let v : length (h ++ m) ≡ 5 + 2 * words_of s = omega arith in
    let t : m ++ drop (length s - 3) s ≡ drop 5 s =
    ap₂ (λ (x y : ℕ). (x ∷ y ∷ drive_of s) ++ drop (length s - 3) s) (sym p.1.1) (sym p.1.2) ∙ ap (λ (x : List ℕ). x ++ drop (length s - 3) s) (sym (payload-split s n.0)) ∙ payload-rest s n.0 in
    let u : h ++ drop 5 s ≡ s =
    ap (λ (x : ℕ). header (sync_of s) (startup_of s) (q + 1) x cycle ++ drop 5 s) w ∙ taken-header (q + 1) cycle (heartbeat_words s) (heartbeat_indicators s) channel s b c in
    let o : (h ++ m) ++ drop (length s - 3) s ≡ s = append_assoc h m (drop (length s - 3) s) ∙ ap (λ (x : List ℕ). h ++ x) t ∙ u in
    let even : length (drive_of s) % 2 ≡ 0 = omega (arith, n.2) in
    let most : length (drive_of s) ≤ 252 = omega (arith, n.1) in (
      p.1.0,
      leb-true (startup_of s) (sync_of s) c.indicated,
      drive_good (drive_of s) even most,
      taken-frame (q + 1) cycle (heartbeat_words s) (heartbeat_indicators s) channel s b c (h ++ m) v (ap (λ (x : ℕ). (h ++ m) ++ drop x s) k ∙ o),
    )

-- without a request the frame is that of a press that votes in every cycle, all but the join bit 0 in its first word; and any frame without one is read alike in both
pub no_request : (q join sync startup cycle channel : ℕ) (drive : List ℕ)
    → (heartbeat_frame q join 0 sync startup cycle channel drive ≡ frame (channel_start channel) (header sync startup (q + 1) (1 + length drive / 2) cycle ++ (join * 2 ^ 7 ∷ 0 ∷ drive)))
    × ((s : List ℕ) → (get_or s 5 0 ≡ 2 ^ 6 → ⊥) → read_heartbeat true q cycle channel s ≡ read_heartbeat false q cycle channel s)
unfolding heartbeat_frame read_heartbeat heartbeat_of
no_request q join sync startup cycle channel drive =
    (ap (λ (x : ℕ). frame (channel_start channel) (header sync startup (q + 1) (1 + length drive / 2) cycle ++ (x ∷ 0 ∷ drive))) (add-zero (join * 2 ^ 7)), λ s o. go s (ne_eqb (get_or s 5 0) (2 ^ 6) o) (fault_of (q + 1) cycle (heartbeat_words s) (heartbeat_indicators s) channel s))
  where
    go : (s : List ℕ) → eqb (get_or s 5 0) (2 ^ 6) ≡ false → (o : Option Fault) → heartbeat_unless true o s ≡ heartbeat_unless false o s
    go s e (Some f) = refl
    go s e None = rw e

-- with no drive bytes the frame is that of paper 01, one word with its bits and nothing else; a frame of one word is read as there, where any other length was refused;
-- and there are then no drive bytes in it
pub no_drive : (quiet : Bool) (q join request sync startup cycle channel : ℕ)
    → (heartbeat_frame q join request sync startup cycle channel [] ≡ frame (channel_start channel) (header sync startup (q + 1) 1 cycle ++ (first_byte join request ∷ 0 ∷ [])))
    × ((s : List ℕ) → words_of s ≡ 1
    → read_heartbeat quiet q cycle channel s ≡ heartbeat_unless quiet (fault_of (q + 1) cycle (eqb (words_of s) 1) (heartbeat_indicators s) channel s) s)
    × ((s : List ℕ) → length s ≡ 10 → drive_of s ≡ [])
unfolding heartbeat_frame read_heartbeat
no_drive quiet q join request sync startup cycle channel = (refl, (λ s e. rw e), λ s e. nothing (drive_of s) (let l = length-drive s (omega arith) in omega arith))
  where
    nothing : (l : List ℕ) → length l ≡ 0 → l ≡ []
    nothing [] e = refl
    nothing (x ∷ xs) e = absurd (omega (arith, e))

-- ---- votes

-- the numbers of a vote that is formed fit eight bytes
fits_below : (n x : ℕ) → n ≤ 64 → eqb (below n x) x ≡ true → x < 2 ^ 64
unfolding below
fits_below n x l e =
    let m : x % 2 ^ n < 2 ^ n = mod-lt x (pow_pos n) in
    let k : x % 2 ^ n ≡ x = eqb-true e in
    let p : 2 ^ n ≤ 2 ^ 64 = pow_mono l in
    omega arith

subset-le : (a b : ℕ) → subset a b ≡ true → a ≤ b
unfolding subset ◌∩◌
subset-le a b e = subst (λ (x : ℕ). x ≤ b) (eqb-true e) (and_le_r a b)

formed-fits : (n q : ℕ) (v : Vote) → n ≤ 64 → formed_vote n q v ≡ true → (v.group.set < 2 ^ 64) × (v.group.base < 2 ^ 64) × (v.view < 2 ^ 64)
unfolding formed_vote
formed-fits n q v l e =
    let g = v.group in
    let p =
    all_five
    (has q g.set)
    (has q v.view)
    (subset g.set g.base)
    (eqb (below n g.base) g.base)
    (eqb (below n v.view) v.view)
    e in
    let s : g.set ≤ g.base = subset-le g.set g.base p.2 in
    let b : g.base < 2 ^ 64 = fits_below n g.base l p.3 in
    (omega arith, b, fits_below n v.view l p.4)

-- four numbers between a header h and what follows, each read at its place
module _ (h t : List ℕ) (a b c d : ℕ) (l : length h ≡ 5) where
  abbrev between : List ℕ
  between = (h ++ (bytes_of 4 a ++ (bytes_of 8 b ++ (bytes_of 8 c ++ bytes_of 8 d)))) ++ t

  at_5 : a < 2 ^ 32 → number_at between 5 4 ≡ a
  at_5 f = simp append_assoc (number_at_lem h _ 5 4 a l f)

  at_9 : b < 2 ^ 64 → number_at between 9 8 ≡ b
  at_9 f =
      let p = h ++ bytes_of 4 a in
      let e : between ≡ p ++ (bytes_of 8 b ++ (bytes_of 8 c ++ (bytes_of 8 d ++ t))) = simp append_assoc in
      ap (λ (s : List ℕ). number_at s 9 8) e ∙ number_at_lem p _ 9 8 b (simp (length-append, length_bytes, l)) f

  at-17 : c < 2 ^ 64 → number_at between 17 8 ≡ c
  at-17 f =
      let p = h ++ (bytes_of 4 a ++ bytes_of 8 b) in
      let e : between ≡ p ++ (bytes_of 8 c ++ (bytes_of 8 d ++ t)) = simp append_assoc in
      ap (λ (s : List ℕ). number_at s 17 8) e ∙ number_at_lem p _ 17 8 c (simp (length-append, length_bytes, l)) f

  at-25 : d < 2 ^ 64 → number_at between 25 8 ≡ d
  at-25 f =
      let p = h ++ (bytes_of 4 a ++ (bytes_of 8 b ++ bytes_of 8 c)) in
      let e : between ≡ p ++ (bytes_of 8 d ++ t) = simp append_assoc in
      ap (λ (s : List ℕ). number_at s 25 8) e ∙ number_at_lem p _ 25 8 d (simp (length-append, length_bytes, l)) f

payload_back : (start : ℕ) (h : List ℕ) (v : Vote) → length h ≡ 5 → v.group.number < 2 ^ 32 → v.group.set < 2 ^ 64 → v.group.base < 2 ^ 64
    → v.view < 2 ^ 64 → payload_vote (frame start (h ++ vote_payload v)) ≡ v
unfolding frame vote_payload
payload_back start h v l fg fm fb fv =
    let g = v.group in
    let t = bytes_of 3 (frame_check start (h ++ vote_payload v)) in
    let eg = at_5 h t g.number g.set g.base v.view l fg in
    let em = at_9 h t g.number g.set g.base v.view l fm in
    let eb = at-17 h t g.number g.set g.base v.view l fb in
    let ev = at-25 h t g.number g.set g.base v.view l fv in
    λ i. record { group = record { number = eg i; set = em i; base = eb i }; view = ev i }

pub vote_back : (n q : ℕ) (v : Vote) (cycle channel : ℕ) → n ≤ 64 → q < n → cycle < 64 → v.group.number < 2 ^ 32 → formed_vote n q v ≡ true
    → read_vote n q cycle channel (vote_frame q v cycle channel) ≡ Ok v
unfolding read_vote vote_frame
vote_back n q v cycle channel hn hq hc hg e =
    let s = sent 0 0 (q + 65) 14 cycle channel (vote_payload v) in
    let b : q + 65 < 2 ^ 11 = omega arith in
    let k : length (vote_payload v) ≡ 2 * 14 = length_payload v in
    let f = sent-fields 0 0 (q + 65) 14 cycle channel (vote_payload v) (lit< tt) (lit< tt) b (lit< tt) hc in
    let o : vote_words s ≡ true = rw f.worded in
    let i : vote_indicators s ≡ true = rw (f.synced, f.started) in
    let c = sent-clean 0 0 (q + 65) 14 cycle channel (vote_payload v) (lit< tt) (lit< tt) b (lit< tt) hc k o i in
    let z = formed-fits n q v hn e in
    let p : payload_vote s ≡ v = payload_back _ (header 0 0 (q + 65) 14 cycle) v (length-header 0 0 (q + 65) 14 cycle) hg z.0 z.1 z.2 in
    ap (λ (o : Option Fault). vote_unless o n q s) (clean-none (q + 65) cycle (vote_words s) (vote_indicators s) channel s c)
    ∙ ap (λ (w : Vote). cond (formed_vote n q w) (Ok w) (Err Content)) p
    ∙ ap (λ (t : Bool). cond t (Ok v) (Err Content)) e

-- a vote that is taken: no fault, and the payload's
taken_vote : (o : Option Fault) (n q : ℕ) (s : List ℕ) (v : Vote) → vote_unless o n q s ≡ Ok v → (o ≡ None) × (payload_vote s ≡ v)
taken_vote (Some f) n q s v e = absurd (let z : ◌≡◌ {A = ℕ} 0 1 = cc in omega arith)
taken_vote None n q s v e = (refl, go (formed_vote n q (payload_vote s)) (payload_vote s) e)
  where
    go : (t : Bool) (w : Vote) → cond t (Ok w) (Err Content) ≡ Ok v → w ≡ v
    go true w h = cc
    go false w h = absurd (let z : ◌≡◌ {A = ℕ} 0 1 = cc in omega arith)

vote_rest : (s : List ℕ) → Bytes s → 33 ≤ length s → vote_payload (payload_vote s) ++ drop 33 s ≡ drop 5 s
unfolding vote_payload
vote_rest s b l =
    let l9 : 5 + 4 ≤ length s = omega arith in
    let l17 : 9 + 8 ≤ length s = omega arith in
    let l25 : 17 + 8 ≤ length s = omega arith in
    simp append_assoc
    (ap (λ (r : List ℕ). bytes_of 4 (number_at s 5 4) ++ (bytes_of 8 (number_at s 9 8) ++ (bytes_of 8 (number_at s 17 8) ++ r))) (bytes_rest s 25 8 b l)
    ∙ ap (λ (r : List ℕ). bytes_of 4 (number_at s 5 4) ++ (bytes_of 8 (number_at s 9 8) ++ r)) (bytes_rest s 17 8 b l25)
    ∙ ap (λ (r : List ℕ). bytes_of 4 (number_at s 5 4) ++ r) (bytes_rest s 9 8 b l17)
    ∙ bytes_rest s 5 4 b l9)

pub vote_only : (n q : ℕ) (v : Vote) (cycle channel : ℕ) (s : List ℕ) → Bytes s → read_vote n q cycle channel s ≡ Ok v → s ≡ vote_frame q v cycle channel
unfolding read_vote vote_frame
vote_only n q v cycle channel s b e =
    let p = taken_vote (fault_of (q + 65) cycle (vote_words s) (vote_indicators s) channel s) n q s v e in
    let c = clean (q + 65) cycle (vote_words s) (vote_indicators s) channel s p.0 in
    let n : length s ≡ 36 = vote-length (q + 65) cycle (vote_indicators s) channel s p.0 in
    let l : 33 ≤ length s = omega arith in
    let o : words_of s ≡ 14 = eqb-true c.worded in
    let y : sync_of s ≡ 0 = eqb-true (and_l (eqb (sync_of s) 0) (eqb (startup_of s) 0) c.indicated) in
    let z : startup_of s ≡ 0 = eqb-true (and_r (eqb (sync_of s) 0) (eqb (startup_of s) 0) c.indicated) in
    let h = header 0 0 (q + 65) 14 cycle in
    let m = vote_payload v in
    let k : length (h ++ m) ≡ 33 = simp (length-append, length-header 0 0 (q + 65) 14 cycle, length_payload v) in
    let r : m ++ drop 33 s ≡ drop 5 s = ap (λ (x : Vote). vote_payload x ++ drop 33 s) (sym p.1) ∙ vote_rest s b l in
    let t : h ++ drop 5 s ≡ s =
    (λ i. header (sym y i) (sym z i) (q + 65) (sym o i) cycle ++ drop 5 s) ∙ taken-header (q + 65) cycle (vote_words s) (vote_indicators s) channel s b c in
    let len : length (h ++ m) ≡ 5 + 2 * words_of s = omega arith in
    let w : (h ++ m) ++ drop 33 s ≡ s = append_assoc h m (drop 33 s) ∙ ap (λ (x : List ℕ). h ++ x) r ∙ t in
    taken-frame (q + 65) cycle (vote_words s) (vote_indicators s) channel s b c (h ++ m) len (ap (λ (x : ℕ). (h ++ m) ++ drop x s) k ∙ w)
