-- The two-channel rule of heartbeats: what counts is which copies are good and what payload they have. Assumes nothing.
use mathlib.Core.Path.{◌≡◌, refl, sym, ap, ap₂, ◌∙◌, subst}
use mathlib.Core.Bool.{Bool, true, false, not, cond, true≢false}
use mathlib.Core.List.{List, [], ◌∷◌}
use Prim.Native.Nat.{ℕ, ◌+◌, ◌%◌, ◌≤◌, ◌<◌}
use native.Mathlib.Omega.{arith}
use lib.Dec.{eqb, lit<}
use lib.ListN.{length, get_or, drop}
use Rattle.std.specs.Prelude.{Option, None, Some, Result, Ok, Err}
use Rattle.parts.proofs.Compared.{equal_same, same_equal}
use Rattle.frames.specs.declared.Fault.{Fault}
use Rattle.frames.specs.declared.Fault.TheVariants.{Content}
use Rattle.frames.specs.declared.Heartbeat.{Heartbeat}
use Rattle.frames.specs.declared.Heartbeat.TheVariants.{Alive, Join, Request}
use Rattle.frames.specs.declared.Channel.{Channel}
use Rattle.frames.specs.declared.Channel.TheVariants.{A, B}
use Rattle.frames.specs.declared.Counted.{Counted}
use Rattle.frames.specs.Written.{first_byte, wrong_request, heartbeat_frame, wrong_drive}
use Rattle.frames.specs.Read.{heartbeat_words, heartbeat_indicators, fault_of, payload_of, drive_of, heartbeat_of, heartbeat_unless, read_heartbeat, is_good, counted_on, counted_of, same_payload, receive_heartbeat, heard_in, drive_on, drive_counted, drive_heard}
use Rattle.frames.proofs.Faults.{heartbeat-length}
use Rattle.frames.proofs.Payloads.{byte, heartbeat-payload, heartbeat-drive}
use Rattle.frames.proofs.RoundTrip.{bits_answer, heartbeat_back}

-- ---- by what was read in the copies, and whether their payloads are equal

counted_none : (channel : Channel) (x : Result Heartbeat Fault) → is_good x ≡ false → counted_on channel x ≡ None
counted_none channel (Ok h) e = absurd (true≢false e)
counted_none channel (Err f) e = refl

module _ (x y : Result Heartbeat Fault) (equal : Bool) where
  pub counted-both : is_good x ≡ true → is_good y ≡ true → counted_of x y equal ≡ cond equal (counted_on A x) None
  counted-both gx gy = rw (gx, gy) (go equal)
    where
      go : (e : Bool) → cond (not e) None (counted_on A x) ≡ cond e (counted_on A x) None
      go true = refl
      go false = refl

  pub counted-a : is_good x ≡ true → is_good y ≡ false → counted_of x y equal ≡ counted_on A x
  counted-a gx gy = rw (gx, gy)

  pub counted-b : is_good x ≡ false → counted_of x y equal ≡ counted_on B y
  counted-b gx = rw gx

-- the drive bytes of a copy, if it is good
counted_drive : (channel : Channel) (x : Result Heartbeat Fault) (a b : List ℕ) → is_good x ≡ true → drive_counted (counted_on channel x) a b ≡ drive_on channel a b
counted_drive channel (Ok h) a b e = refl
counted_drive channel (Err f) a b e = absurd (true≢false (sym e))

-- a copy that counts is good
abbrev good_on : Channel → (x y : Result Heartbeat Fault) → Bool
good_on A x y = is_good x
good_on B x y = is_good y

counted_good : (x y : Result Heartbeat Fault) (equal : Bool) (c : Counted) → counted_of x y equal ≡ Some c → good_on c.channel x y ≡ true
counted_good (Ok h) (Ok k) true c e = let z : A ≡ c.channel = cc in subst (λ (z : Channel). good_on z (Ok h) (Ok k) ≡ true) z refl
counted_good (Ok h) (Ok k) false c e = absurd (let z : ◌≡◌ {A = ℕ} 0 1 = cc in omega arith)
counted_good (Ok h) (Err f) equal c e = let z : A ≡ c.channel = cc in subst (λ (z : Channel). good_on z (Ok h) (Err f) ≡ true) z refl
counted_good (Err f) (Ok k) equal c e = let z : B ≡ c.channel = cc in subst (λ (z : Channel). good_on z (Err f) (Ok k) ≡ true) z refl
counted_good (Err f) (Err g) equal c e = absurd (let z : ◌≡◌ {A = ℕ} 0 1 = cc in omega arith)

-- ---- the five ways in which two copies a and b can come

module _ (quiet : Bool) (q cycle : ℕ) (a b : List ℕ) where
  abbrev x : Result Heartbeat Fault
  x = read_heartbeat quiet q cycle 0 a

  abbrev y : Result Heartbeat Fault
  y = read_heartbeat quiet q cycle 1 b

  abbrev equal : Bool
  equal = same_payload a b

  -- what was heard, and the drive bytes with it
  abbrev pub Gives : Option Counted → List ℕ → Type 0
  Gives counted drive = (receive_heartbeat quiet q cycle a b ≡ counted) × (drive_heard quiet q cycle a b ≡ drive)

  gives : (counted : Option Counted) → counted_of x y equal ≡ counted → Gives counted (drive_counted counted a b)
  unfolding receive_heartbeat drive_heard
  gives counted e = (e, ap (λ (z : Option Counted). drive_counted z a b) e)

  -- the good copy on a channel alone, or the first of two that are equal
  gives-on : (channel : Channel) (z : Result Heartbeat Fault) → is_good z ≡ true → counted_of x y equal ≡ counted_on channel z → Gives (counted_on channel z) (drive_on channel a b)
  gives-on channel z g e = let k = gives (counted_on channel z) e in (k.0, k.1 ∙ counted_drive channel z a b g)

  pub neither-good : is_good x ≡ false → is_good y ≡ false → Gives None []
  neither-good gx gy = gives None (counted-b x y equal gx ∙ counted_none B y gy)

  pub only-a-good : is_good x ≡ true → is_good y ≡ false → Gives (counted_on A x) (drive_of a)
  only-a-good gx gy = gives-on A x gx (counted-a x y equal gx gy)

  pub only-b-good : is_good x ≡ false → is_good y ≡ true → Gives (counted_on B y) (drive_of b)
  only-b-good gx gy = gives-on B y gy (counted-b x y equal gx)

  pub other-copies : is_good x ≡ true → is_good y ≡ true → (payload_of a ≡ payload_of b → ⊥) → Gives None []
  unfolding same_payload
  other-copies gx gy o = gives None (counted-both x y equal gx gy ∙ go equal refl)
    where
      go : (z : Bool) → equal ≡ z → cond z (counted_on A x) None ≡ None
      go true e = absurd (o (same_equal (payload_of a) (payload_of b) e))
      go false e = refl

  pub equal-copies : is_good x ≡ true → is_good y ≡ true → payload_of a ≡ payload_of b → Gives (counted_on A x) (drive_of a)
  unfolding same_payload
  equal-copies gx gy e =
      gives-on A x gx (counted-both x y equal gx gy ∙ ap (λ (z : Bool). cond z (counted_on A x) None) (equal_same (payload_of a) (payload_of b) e))

-- a good copy: how long it is, and what is read in it, by its payload alone
module _ (quiet : Bool) (q cycle channel : ℕ) (s : List ℕ) (good : is_good (read_heartbeat quiet q cycle channel s) ≡ true) where
  abbrev fault : Option Fault
  fault = fault_of (q + 1) cycle (heartbeat_words s) (heartbeat_indicators s) channel s

  no-fault : fault ≡ None
  unfolding read_heartbeat
  no-fault = go fault good
    where
      go : (o : Option Fault) → is_good (heartbeat_unless quiet o s) ≡ true → o ≡ None
      go None g = refl
      go (Some f) g = absurd (true≢false (sym g))

  -- it has a first word, and no more bytes than the longest heartbeat
  pub good_length : (10 ≤ length s) × (length s ≤ 262) × (length s % 2 ≡ 0)
  good_length = heartbeat-length (q + 1) cycle (heartbeat_indicators s) channel s no-fault

  good-content : read_heartbeat quiet q cycle channel s ≡ heartbeat_of quiet (get_or (payload_of s) 0 0) (get_or (payload_of s) 1 0)
  unfolding read_heartbeat heartbeat_of
  good-content =
      let l = good_length.0 in
      ap (λ (o : Option Fault). heartbeat_unless quiet o s) no-fault
      ∙ ap₂ (λ (a b : ℕ). heartbeat_of quiet a b) (sym (byte s l 0 (lit< tt))) (sym (byte s l 1 (lit< tt)))

module _ (quiet : Bool) (q cycle : ℕ) (a b : List ℕ) where
  abbrev pub copy_on : Channel → List ℕ
  copy_on A = a
  copy_on B = b

  good-read : (channel : Channel) → good_on channel (x quiet q cycle a b) (y quiet q cycle a b) ≡ true → (10 ≤ length (copy_on channel)) × (length (copy_on channel) ≤ 262)
  good-read A g = let l = good_length quiet q cycle 0 a g in (l.0, l.1)
  good-read B g = let l = good_length quiet q cycle 1 b g in (l.0, l.1)

  -- the copy that counts has a first word, and no more bytes than the longest heartbeat
  pub copy-counts : (c : Counted) → receive_heartbeat quiet q cycle a b ≡ Some c → (10 ≤ length (copy_on c.channel)) × (length (copy_on c.channel) ≤ 262)
  unfolding receive_heartbeat
  copy-counts c e = good-read c.channel (counted_good (x quiet q cycle a b) (y quiet q cycle a b) (equal quiet q cycle a b) c e)

  -- and its drive bytes are those heard
  pub drive-counts : (o : Option Counted) → receive_heartbeat quiet q cycle a b ≡ o → drive_heard quiet q cycle a b ≡ drive_counted o a b
  unfolding drive_heard
  drive-counts o e = ap (λ (z : Option Counted). drive_counted z a b) e

-- ---- the law of two channels

-- two copies on a channel that are both refused, or both good and with one payload
pub record Alike (quiet : Bool) (q cycle channel : ℕ) (s t : List ℕ) : Type 0 where
  pub good : is_good (read_heartbeat quiet q cycle channel s) ≡ is_good (read_heartbeat quiet q cycle channel t)
  pub payload : is_good (read_heartbeat quiet q cycle channel s) ≡ true → payload_of s ≡ payload_of t

alike_read : (quiet : Bool) (q cycle channel : ℕ) (s t : List ℕ) → Alike quiet q cycle channel s t → is_good (read_heartbeat quiet q cycle channel s) ≡ true
    → read_heartbeat quiet q cycle channel s ≡ read_heartbeat quiet q cycle channel t
alike_read quiet q cycle channel s t k g =
    good-content quiet q cycle channel s g
    ∙ ap (λ (p : List ℕ). heartbeat_of quiet (get_or p 0 0) (get_or p 1 0)) (k.payload g)
    ∙ sym (good-content quiet q cycle channel t (sym k.good ∙ g))

drive_by : (s t : List ℕ) → payload_of s ≡ payload_of t → drive_of s ≡ drive_of t
unfolding drive_of
drive_by s t e = ap (drop 2) e

-- what two channels give depends on which copies are good and on their payloads alone
pub channels_agree : (quiet : Bool) (q cycle : ℕ) (a b c d : List ℕ) → Alike quiet q cycle 0 a c → Alike quiet q cycle 1 b d
    → (receive_heartbeat quiet q cycle a b ≡ receive_heartbeat quiet q cycle c d) × (drive_heard quiet q cycle a b ≡ drive_heard quiet q cycle c d)
unfolding same_payload
channels_agree quiet q cycle a b c d on_a on_b = go (is_good (x quiet q cycle a b)) (is_good (y quiet q cycle a b)) refl refl
  where
    with : {l m : Option Counted} {s t : List ℕ} → Gives quiet q cycle a b l s → Gives quiet q cycle c d m t → l ≡ m → s ≡ t
        → (receive_heartbeat quiet q cycle a b ≡ receive_heartbeat quiet q cycle c d) × (drive_heard quiet q cycle a b ≡ drive_heard quiet q cycle c d)
    with g h e f = (g.0 ∙ e ∙ sym h.0, g.1 ∙ f ∙ sym h.1)

    both : is_good (x quiet q cycle a b) ≡ true → is_good (y quiet q cycle a b) ≡ true → (z : Bool) → equal quiet q cycle a b ≡ z
        → (receive_heartbeat quiet q cycle a b ≡ receive_heartbeat quiet q cycle c d) × (drive_heard quiet q cycle a b ≡ drive_heard quiet q cycle c d)
    both gx gy true e =
        let p = same_equal (payload_of a) (payload_of b) e in
        with (equal-copies quiet q cycle a b gx gy p)
        (equal-copies quiet q cycle c d (sym on_a.good ∙ gx) (sym on_b.good ∙ gy) (sym (on_a.payload gx) ∙ p ∙ on_b.payload gy))
        (ap (counted_on A) (alike_read quiet q cycle 0 a c on_a gx)) (drive_by a c (on_a.payload gx))
    both gx gy false e =
        let o : payload_of a ≡ payload_of b → ⊥ = λ p. true≢false (sym (equal_same (payload_of a) (payload_of b) p) ∙ e) in
        with (other-copies quiet q cycle a b gx gy o)
        (other-copies quiet q cycle c d (sym on_a.good ∙ gx) (sym on_b.good ∙ gy) (λ p. o (on_a.payload gx ∙ p ∙ sym (on_b.payload gy))))
        refl refl

    go : (g h : Bool) → is_good (x quiet q cycle a b) ≡ g → is_good (y quiet q cycle a b) ≡ h
        → (receive_heartbeat quiet q cycle a b ≡ receive_heartbeat quiet q cycle c d) × (drive_heard quiet q cycle a b ≡ drive_heard quiet q cycle c d)
    go true true gx gy = both gx gy (equal quiet q cycle a b) refl
    go true false gx gy =
        with (only-a-good quiet q cycle a b gx gy) (only-a-good quiet q cycle c d (sym on_a.good ∙ gx) (sym on_b.good ∙ gy))
        (ap (counted_on A) (alike_read quiet q cycle 0 a c on_a gx)) (drive_by a c (on_a.payload gx))
    go false true gx gy =
        with (only-b-good quiet q cycle a b gx gy) (only-b-good quiet q cycle c d (sym on_a.good ∙ gx) (sym on_b.good ∙ gy))
        (ap (counted_on B) (alike_read quiet q cycle 1 b d on_b gy)) (drive_by b d (on_b.payload gy))
    go false false gx gy =
        with (neither-good quiet q cycle a b gx gy) (neither-good quiet q cycle c d (sym on_a.good ∙ gx) (sym on_b.good ∙ gy)) refl refl

-- ---- a heartbeat as sent by node q, with those bits and those drive bytes

-- it is heard with its bits
abbrev pub heard_with : ℕ → ℕ → Option Heartbeat
heard_with join request = cond (eqb join 0) (cond (eqb request 0) (Some Alive) (Some Request)) (Some Join)

module _ (q join request cycle : ℕ) (drive : List ℕ) where
  -- the frame on a channel, with any indicators that are allowed
  abbrev pub SentOn : ℕ → List ℕ → Type 0
  SentOn channel s = (sync : ℕ) × (startup : ℕ) × (sync < 2) × (startup ≤ sync) × (s ≡ heartbeat_frame q join request sync startup cycle channel drive)

  pub sent-payload : (channel : ℕ) (s : List ℕ) → SentOn channel s → payload_of s ≡ first_byte join request ∷ 0 ∷ drive
  sent-payload channel s k = ap payload_of k.4 ∙ heartbeat-payload q join request k.0 k.1 cycle channel drive

  sent-drive : (channel : ℕ) (s : List ℕ) → SentOn channel s → drive_of s ≡ drive
  sent-drive channel s k = ap drive_of k.4 ∙ heartbeat-drive q join request k.0 k.1 cycle channel drive

module _ (quiet : Bool) (q join request cycle : ℕ) (drive : List ℕ) where
  abbrev Sent : ℕ → List ℕ → Type 0
  Sent = SentOn q join request cycle drive

  abbrev read : ℕ → List ℕ → Result Heartbeat Fault
  read = read_heartbeat quiet q cycle

  -- heard with its bits, and with exactly its drive bytes
  abbrev pub Heard : (a b : List ℕ) → Type 0
  Heard a b = (heard_in (receive_heartbeat quiet q cycle a b) ≡ heard_with join request) × (drive_heard quiet q cycle a b ≡ drive)

  by : (a b : List ℕ) (channel : Channel) (s : List ℕ) (x : Result Heartbeat Fault) → x ≡ bits_answer join request → drive_of s ≡ drive → Gives quiet q cycle a b (counted_on channel x) (drive_of s) → Heard a b
  by a b channel s x e d g = (ap heard_in g.0 ∙ ap (λ (z : Result Heartbeat Fault). heard_in (counted_on channel z)) e ∙ go (eqb join 0) (eqb request 0), g.1 ∙ d)
    where
      go : (z y : Bool) → heard_in (counted_on channel (cond z (cond y (Ok Alive) (Ok Request)) (Ok Join))) ≡ cond z (cond y (Some Alive) (Some Request)) (Some Join)
      go true true = refl
      go true false = refl
      go false y = refl

  -- of numbers and drive bytes that can be written
  module _ (hq : q < 64) (hj : join < 2) (hr : request < 2) (hw : wrong_request quiet join request ≡ false) (hc : cycle < 64) (hd : wrong_drive drive ≡ false) where
    sent-read : (channel : ℕ) (s : List ℕ) → Sent channel s → read channel s ≡ bits_answer join request
    sent-read channel s k =
        ap (read channel) k.4 ∙ (heartbeat_back quiet q join request k.0 k.1 cycle channel drive hq hj hr k.2 k.3 hc hd).0
        ∙ ap (λ (z : Bool). cond z (Err Content) (bits_answer join request)) hw

    sent-good : (channel : ℕ) (s : List ℕ) → Sent channel s → is_good (read channel s) ≡ true
    sent-good channel s k = ap is_good (sent-read channel s k) ∙ go (eqb join 0) (eqb request 0)
      where
        go : (z y : Bool) → is_good (cond z (cond y (Ok Alive) (Ok Request)) (Ok Join)) ≡ true
        go true true = refl
        go true false = refl
        go false y = refl

    module _ (a b : List ℕ) where
      -- as sent on one channel, and on the other refused, or good and with the same payload
      pub sent-on-a : Sent 0 a → (is_good (read 1 b) ≡ true → payload_of a ≡ payload_of b) → Heard a b
      sent-on-a k e = by a b A a (read 0 a) (sent-read 0 a k) (sent-drive q join request cycle drive 0 a k) (go (is_good (read 1 b)) refl)
        where
          go : (g : Bool) → is_good (read 1 b) ≡ g → Gives quiet q cycle a b (counted_on A (read 0 a)) (drive_of a)
          go true g = equal-copies quiet q cycle a b (sent-good 0 a k) g (e g)
          go false g = only-a-good quiet q cycle a b (sent-good 0 a k) g

      pub sent-on-b : Sent 1 b → (is_good (read 0 a) ≡ true → payload_of a ≡ payload_of b) → Heard a b
      sent-on-b k e = go (is_good (read 0 a)) refl
        where
          go : (g : Bool) → is_good (read 0 a) ≡ g → Heard a b
          go true g =
              let p = e g in
              by a b A a (read 0 a)
              (good-content quiet q cycle 0 a g ∙ ap (λ (z : List ℕ). heartbeat_of quiet (get_or z 0 0) (get_or z 1 0)) p ∙ sym (good-content quiet q cycle 1 b (sent-good 1 b k)) ∙ sent-read 1 b k)
              (drive_by a b p ∙ sent-drive q join request cycle drive 1 b k) (equal-copies quiet q cycle a b g (sent-good 1 b k) p)
          go false g = by a b B b (read 1 b) (sent-read 1 b k) (sent-drive q join request cycle drive 1 b k) (only-b-good quiet q cycle a b g (sent-good 1 b k))

-- one copy requests and the other does not: in a quiet press they differ; in another the one that requests is refused, and the other counts
pub one_requests : (quiet : Bool) (q cycle : ℕ) (drive a b : List ℕ) → q < 64 → cycle < 64 → wrong_drive drive ≡ false → SentOn q 0 0 cycle drive 0 a → SentOn q 0 1 cycle drive 1 b
    → heard_in (receive_heartbeat quiet q cycle a b) ≡ cond quiet None (Some Alive)
unfolding wrong_request
one_requests true q cycle drive a b hq hc hd on_a on_b =
    ap heard_in
    (other-copies true q cycle a b (sent-good true q 0 0 cycle drive hq (lit< tt) (lit< tt) refl hc hd 0 a on_a) (sent-good true q 0 1 cycle drive hq (lit< tt) (lit< tt) refl hc hd 1 b on_b) differ).0
  where
    differ : payload_of a ≡ payload_of b → ⊥
    differ e =
        let z : ◌≡◌ {A = ℕ} 0 64 = ap (λ (p : List ℕ). get_or p 0 0) (sym (sent-payload q 0 0 cycle drive 0 a on_a) ∙ e ∙ sent-payload q 0 1 cycle drive 1 b on_b) in
        omega arith
one_requests false q cycle drive a b hq hc hd on_a on_b =
    (sent-on-a false q 0 0 cycle drive hq (lit< tt) (lit< tt) refl hc hd a b on_a (λ g. absurd (true≢false (sym g ∙ ap is_good refused)))).0
  where
    refused : read_heartbeat false q cycle 1 b ≡ Err Content
    refused = ap (read_heartbeat false q cycle 1) on_b.4 ∙ (heartbeat_back false q 0 1 on_b.0 on_b.1 cycle 1 drive hq (lit< tt) (lit< tt) on_b.2 on_b.3 hc hd).0
