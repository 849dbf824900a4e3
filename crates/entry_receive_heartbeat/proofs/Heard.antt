-- What the entries for heartbeats that come in answer. Assumes nothing.
use mathlib.Core.Path.{◌≡◌, refl, sym, ap, ◌∙◌, subst}
use mathlib.Core.Bool.{Bool, true, ◌||◌, or-false}
use mathlib.Core.List.{List}
use Prim.Native.Nat.{ℕ, ◌≤◌, ◌<◌}
use native.Mathlib.Omega.{arith}
use lib.ListN.{length}
use borrow.Author.Tests.{eq-eqb, ne_eqb}
use Rattle.std.specs.Prelude.{Option, None, Some, Result, Ok, Err}
use Rattle.sets.proofs.Booleans.{or_f_r}
use Rattle.parts.specs.Parts.{at_front}
use Rattle.rules.specs.OneCycle.{wrong_mode, quiet_in}
use Rattle.frames.specs.declared.Fault.{Fault}
use Rattle.frames.specs.declared.Fault.TheVariants.{Length, HeaderCheck, FrameCheck, NullFrame, NotDue, Content}
use Rattle.frames.specs.declared.Heartbeat.{Heartbeat}
use Rattle.frames.specs.declared.Channel.{Channel}
use Rattle.frames.specs.declared.Counted.{Counted}
use Rattle.frames.specs.Read.{fault_code, payload_of, drive_of, read_heartbeat, is_good, receive_heartbeat, heard_in, drive_on, drive_counted, join_of, request_of}
use Rattle.frames.proofs.TwoChannels.{Heard, heard_with, good_length, other-copies, copy_on, copy-counts, drive-counts}
use Rattle.refusal.proofs.Laws.{none, unless-done, unless-refused}
use Rattle.entry_lent.specs.Refusals.{wrong_count, wrong_node, wrong_cycle, wrong_channel, wrong_length}
use Rattle.entry_receive_heartbeat.specs.Hearing.{read_status, heartbeat_refusal, read_heartbeat_status, read_heartbeat_join, read_heartbeat_request, read_heartbeat_drive_bytes, read_heartbeat_drive}
use Rattle.entry_receive_heartbeat.specs.Hearing.{heard_code, receive_heartbeat_status, receive_heartbeat_heard, receive_heartbeat_drive_bytes, receive_heartbeat_drive}
use Rattle.entry_lent.proofs.Bounds.{count_bounds, slot_bounds, length-is}

-- ---- read from one channel

fault_number : (f : Fault) → fault_code f ≡ 0 → ⊥
fault_number Length e = omega arith
fault_number HeaderCheck e = omega arith
fault_number FrameCheck e = omega arith
fault_number NullFrame e = omega arith
fault_number NotDue e = omega arith
fault_number Content e = omega arith

module _ (n mode q cycle channel : ℕ) (d : List ℕ) where
  pub read-bounds : read_status n mode q cycle channel d ≡ 0 → (q < 64) × (length d ≡ 252)
  unfolding read_status
  read-bounds e =
      let p = wrong_node n q || wrong_cycle cycle || wrong_channel channel in
      let a = none (wrong_count n) 1 _ refl e in
      let b = none (wrong_mode mode || p) 2 _ refl a.1 in
      let c = none (wrong_length 252 d) 3 _ refl b.1 in
      let most = (count_bounds n a.0).1 in
      let slot = (slot_bounds n q cycle channel (or_f_r (wrong_mode mode) p b.0)).0 in
      (omega arith, length-is 252 d c.0)

  module _ (f : List ℕ) (join request number : ℕ) where
    -- the status, and what is left of the buffer, the two bits and the number of drive bytes
    abbrev pub Reads : ℕ → List ℕ → ℕ → ℕ → ℕ → Type 0
    Reads r left bit asked bytes =
        (r ≡ read_heartbeat_status n mode q cycle channel f d)
        × ((left ≡ read_heartbeat_drive n mode q cycle channel f d)
        × ((bit ≡ read_heartbeat_join n mode q cycle channel f d join)
        × ((asked ≡ read_heartbeat_request n mode q cycle channel f d request) × (bytes ≡ read_heartbeat_drive_bytes n mode q cycle channel f d number))))

    kept : (r : ℕ) → r ≡ read_heartbeat_status n mode q cycle channel f d → (r ≡ 0 → ⊥) → Reads r d join request number
    unfolding read_heartbeat_drive read_heartbeat_join read_heartbeat_request read_heartbeat_drive_bytes
    kept r e h =
        let never : read_heartbeat_status n mode q cycle channel f d ≡ 0 → ⊥ = λ z. h (e ∙ z) in
        (e, (sym (unless-refused _ _ d never), (sym (unless-refused _ _ join never), (sym (unless-refused _ _ request never), sym (unless-refused _ _ number never)))))

    pub read-refused : (k : ℕ) → k ≡ read_status n mode q cycle channel d → (k ≡ 0 → ⊥) → Reads k d join request number
    unfolding read_heartbeat_status
    read-refused k e h = kept k (simp (ne_eqb _ 0 (λ z. h (e ∙ z))) e) h

    -- numbers and buffer are not refused, and x is what was read in that mode
    module _ (fine : read_status n mode q cycle channel d ≡ 0) (p : Bool) (m : p ≡ quiet_in mode) (x : Result Heartbeat Fault) (g : x ≡ read_heartbeat p q cycle channel f) where
      beat : x ≡ read_heartbeat (quiet_in mode) q cycle channel f
      beat = g ∙ ap (λ (b : Bool). read_heartbeat b q cycle channel f) m

      status : heartbeat_refusal x ≡ read_heartbeat_status n mode q cycle channel f d
      unfolding read_heartbeat_status
      status = simp (eq-eqb _ 0 fine) (ap heartbeat_refusal beat)

      pub read-faulty : (fault : Fault) → x ≡ Err fault → (r : ℕ) → r ≡ fault_code fault → Reads r d join request number
      read-faulty fault i r e = kept r (e ∙ sym (ap heartbeat_refusal i) ∙ status) (λ z. fault_number fault (sym e ∙ z))

      pub read-good : (h : Heartbeat) → x ≡ Ok h → (left : List ℕ) (bytes : ℕ) → left ≡ at_front (drive_of f) d → bytes ≡ length (drive_of f) → Reads 0 left (join_of (Ok h)) (request_of (Ok h)) bytes
      unfolding read_heartbeat_drive read_heartbeat_join read_heartbeat_request read_heartbeat_drive_bytes
      read-good h i left bytes el eb =
          let z = sym status ∙ ap heartbeat_refusal i in (
            sym z,
            (
              el ∙ sym (unless-done _ _ d z),
              (ap join_of (sym i ∙ beat) ∙ sym (unless-done _ _ join z), (ap request_of (sym i ∙ beat) ∙ sym (unless-done _ _ request z), eb ∙ sym (unless-done _ _ number z))),
            ),
          )

      -- what the copying of drive bytes requires
      pub room : (h : Heartbeat) → x ≡ Ok h → (10 ≤ length f) × ((length f ≤ 262) × (length d ≡ 252))
      room h i = let l = good_length p q cycle channel f (ap is_good (sym g ∙ i)) in (l.0, (l.1, (read-bounds fine).1))

-- ---- received on both

-- the tests of a read with a channel that is none of the caller's
pub receive_status : (n mode q cycle : ℕ) (d : List ℕ) → read_status n mode q cycle 0 d ≡ receive_heartbeat_status n mode q cycle d
unfolding read_status receive_heartbeat_status
receive_status n mode q cycle d = simp or-false

module _ (n mode q cycle : ℕ) (a b d : List ℕ) (heard number : ℕ) where
  -- the status, and what is left of the buffer, of what was heard and of the number of drive bytes
  abbrev pub Receives : ℕ → List ℕ → ℕ → ℕ → Type 0
  Receives r left code bytes =
      (r ≡ receive_heartbeat_status n mode q cycle d)
      × ((left ≡ receive_heartbeat_drive n mode q cycle a b d)
      × ((code ≡ receive_heartbeat_heard n mode q cycle a b d heard) × (bytes ≡ receive_heartbeat_drive_bytes n mode q cycle a b d number)))

  pub receive-refused : (k : ℕ) → k ≡ read_status n mode q cycle 0 d → (k ≡ 0 → ⊥) → Receives k d heard number
  unfolding receive_heartbeat_heard receive_heartbeat_drive receive_heartbeat_drive_bytes
  receive-refused k e h =
      let r = e ∙ receive_status n mode q cycle d in
      let never : receive_heartbeat_status n mode q cycle d ≡ 0 → ⊥ = λ z. h (r ∙ z) in
      (r, (sym (unless-refused _ _ d never), (sym (unless-refused _ _ heard never), sym (unless-refused _ _ number never))))

  -- numbers and buffer are not refused, and r is what counted in that mode
  module _ (fine : read_status n mode q cycle 0 d ≡ 0) (p : Bool) (m : p ≡ quiet_in mode) (r : Option Counted) (g : r ≡ receive_heartbeat p q cycle a b) where
    counted : r ≡ receive_heartbeat (quiet_in mode) q cycle a b
    counted = g ∙ ap (λ (x : Bool). receive_heartbeat x q cycle a b) m

    -- what the copying of the drive bytes of the copy that counts requires
    pub room_of : (k : Counted) → r ≡ Some k → (channel : Channel) → k.channel ≡ channel
        → (10 ≤ length (copy_on p q cycle a b channel)) × ((length (copy_on p q cycle a b channel) ≤ 262) × (length d ≡ 252))
    room_of k i channel e =
        let l = copy-counts p q cycle a b k (sym g ∙ i) in
        subst (λ (x : Channel). (10 ≤ length (copy_on p q cycle a b x)) × ((length (copy_on p q cycle a b x) ≤ 262) × (length d ≡ 252))) e
        (l.0, (l.1, (read-bounds n mode q cycle 0 d fine).1))

    pub receive-copies : (o : Option Counted) → r ≡ o → (left : List ℕ) (code bytes : ℕ) → code ≡ heard_code (heard_in o) → left ≡ at_front (drive_counted o a b) d
        → bytes ≡ length (drive_counted o a b) → Receives 0 left code bytes
    unfolding receive_heartbeat_heard receive_heartbeat_drive receive_heartbeat_drive_bytes
    receive-copies o i left code bytes c el eb =
        let z = sym (receive_status n mode q cycle d) ∙ fine in
        let k = sym counted ∙ i in
        let h = drive-counts (quiet_in mode) q cycle a b o k in (
          sym z,
          (
            el ∙ ap (λ (x : List ℕ). at_front x d) (sym h) ∙ sym (unless-done _ _ d z),
            (c ∙ ap (λ (x : Option Counted). heard_code (heard_in x)) (sym k) ∙ sym (unless-done _ _ heard z), eb ∙ ap length (sym h) ∙ sym (unless-done _ _ number z)),
          ),
        )

    -- the same by the channel of the copy that counts
    pub receive-on : (k : Counted) → r ≡ Some k → (channel : Channel) → k.channel ≡ channel → (left : List ℕ) (code bytes : ℕ) → code ≡ heard_code (Some k.heartbeat)
        → left ≡ at_front (drive_on channel a b) d → bytes ≡ length (drive_on channel a b) → Receives 0 left code bytes
    receive-on k i channel e left code bytes c el eb =
        let h = ap (λ (x : Channel). drive_on x a b) (sym e) in
        receive-copies (Some k) i left code bytes c (el ∙ ap (λ (x : List ℕ). at_front x d) h) (eb ∙ ap length h)

  -- a missed frame is no refusal: nothing is heard, there are no drive bytes, and the buffer is as it came in
  pub missed-untouched : receive_heartbeat_status n mode q cycle d ≡ 0 → receive_heartbeat (quiet_in mode) q cycle a b ≡ None → Receives 0 d 0 0
  missed-untouched e m = receive-copies (receive_status n mode q cycle d ∙ e) (quiet_in mode) refl None (sym m) None refl d 0 0 refl refl refl

  -- so are two good copies that differ in any byte of their payloads
  pub differing-missed : receive_heartbeat_status n mode q cycle d ≡ 0 → is_good (read_heartbeat (quiet_in mode) q cycle 0 a) ≡ true → is_good (read_heartbeat (quiet_in mode) q cycle 1 b) ≡ true
      → (payload_of a ≡ payload_of b → ⊥) → Receives 0 d 0 0
  differing-missed e ga gb o = missed-untouched e (other-copies (quiet_in mode) q cycle a b ga gb o).0

  -- a heartbeat that is heard with its drive bytes (as sent on one channel, and on the other refused or with the same payload): these stand at the front, their number is given, and the rest stays
  pub heard-given : (join request : ℕ) (drive : List ℕ) → receive_heartbeat_status n mode q cycle d ≡ 0 → Heard (quiet_in mode) q join request cycle drive a b
      → Receives 0 (at_front drive d) (heard_code (heard_with join request)) (length drive)
  unfolding receive_heartbeat_heard receive_heartbeat_drive receive_heartbeat_drive_bytes
  heard-given join request drive z h = (
    sym z,
    (
      ap (λ (x : List ℕ). at_front x d) (sym h.1) ∙ sym (unless-done _ _ d z),
      (ap heard_code (sym h.0) ∙ sym (unless-done _ _ heard z), ap length (sym h.1) ∙ sym (unless-done _ _ number z)),
    ),
  )
