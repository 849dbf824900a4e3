-- Paper 01, "Frames" and refusals 5 to 10, with requests 2 and 3 of paper 02: heartbeat and vote frames as they are read, and the two-channel rule.
-- Assumes nothing.
--     fault_code: the number of a frame's refusal, 5 to 10
--     field: k bits of the header
--     reserved_of, preamble_of, null_of, sync_of, startup_of: its five indicator bits
--     number_of, words_of, check_of, cycle_of: its frame number, payload length in words, header check and cycle count
--     wrong_length, wrong_header, wrong_frame: whether refusal 5, 6, 7 holds
--     is_null: whether it is a null frame (8)
--     is_due: whether number, cycle count and reserved bits are those that are due (9)
--     heartbeat_words, vote_words: whether the length is one that is due (9)
--     heartbeat_indicators, vote_indicators: whether sync and startup are as they may be (9)
--     fault_of: the first refusal of 5 to 9 that holds
--     payload_of: what stands between header and frame check
--     drive_of: the drive's part of a heartbeat's payload
--     heartbeat_of: what the first word of a heartbeat says, by its two bytes, in a quiet press or another, or refusal 10
--     heartbeat_content: the same of a frame
--     heartbeat_unless: the same, unless the frame is refused
--     read_heartbeat: the heartbeat of node q from one copy
--     join_of, request_of: the two bits of what was read
--     payload_vote: the vote in a payload
--     vote_content: it, if it is well formed, or refusal 10
--     vote_unless: the same, unless the frame is refused
--     read_vote: the vote of node q from one copy
--     is_good: whether a copy was read and not refused
--     counted_on: what a copy gives that is the only one, or equal to the other; nothing where it is refused, and so missed
--     counted_of: what two copies give, by what was read in each and whether their payloads are equal
--     same_payload: whether two copies have equal payloads
--     receive_heartbeat, receive_vote: what two copies give
--     heard_in: what is heard, by what counts
--     drive_on: the drive bytes of the copy on a channel
--     drive_counted: the drive bytes of the copy that counts
--     drive_heard: those of two copies
use Rattle.std.specs.Prelude.{Bool, true, false, Option, None, Some, Result, Ok, Err, not, ◌&&◌, ◌||◌, cond, List, [], ℕ, ◌+◌, ◌-◌, ◌*◌, ◌/◌, ◌%◌, ◌^◌, eqb, ltb, leb, get_or, length, take, drop}
use Rattle.parts.specs.Compared.{same_bytes}
use Rattle.bigendian.specs.BigEndian.{number_at}
use Rattle.crc.specs.Crc.{header_check, frame_check, channel_start}
use Rattle.rules.specs.declared.Vote.{Vote}
use Rattle.rules.specs.OneCycle.{same_vote}
use Rattle.frames.specs.declared.Fault.{Fault}
use Rattle.frames.specs.declared.Fault.TheVariants.{Length, HeaderCheck, FrameCheck, NullFrame, NotDue, Content}
use Rattle.frames.specs.declared.Heartbeat.{Heartbeat}
use Rattle.frames.specs.declared.Heartbeat.TheVariants.{Alive, Join, Request}
use Rattle.frames.specs.declared.Channel.{Channel}
use Rattle.frames.specs.declared.Channel.TheVariants.{A, B}
use Rattle.frames.specs.declared.Counted.{Counted}
use Rattle.frames.specs.Written.{formed_vote}

-- the refusal's number
abbrev pub fault_code : Fault → ℕ
fault_code Length = 5
fault_code HeaderCheck = 6
fault_code FrameCheck = 7
fault_code NullFrame = 8
fault_code NotDue = 9
fault_code Content = 10

-- ---- the fields of a header

-- the five header bytes as one number of 40 bits, and k bits of it above the lowest i
abbrev pub field : List ℕ → ℕ → ℕ → ℕ
field s i k = number_at s 0 5 / 2 ^ i % 2 ^ k

abbrev pub reserved_of : List ℕ → ℕ
reserved_of s = field s 39 1

abbrev pub preamble_of : List ℕ → ℕ
preamble_of s = field s 38 1

abbrev pub null_of : List ℕ → ℕ
null_of s = field s 37 1

abbrev pub sync_of : List ℕ → ℕ
sync_of s = field s 36 1

abbrev pub startup_of : List ℕ → ℕ
startup_of s = field s 35 1

abbrev pub number_of : List ℕ → ℕ
number_of s = field s 24 11

abbrev pub words_of : List ℕ → ℕ
words_of s = field s 17 7

abbrev pub check_of : List ℕ → ℕ
check_of s = field s 6 11

abbrev pub cycle_of : List ℕ → ℕ
cycle_of s = field s 0 6

-- ---- refusals 5 to 9, "of several the lowest"

-- "5: fewer than 8 bytes, or not 8 plus twice the length field."
unfoldable pub wrong_length : List ℕ → Bool
wrong_length s = ltb (length s) 8 || not (eqb (length s) (8 + 2 * words_of s))

-- "6: header check."
unfoldable pub wrong_header : List ℕ → Bool
wrong_header s = not (eqb (check_of s) (header_check (sync_of s) (startup_of s) (number_of s) (words_of s)))

-- "7: frame check."
unfoldable pub wrong_frame : ℕ → List ℕ → Bool
wrong_frame channel s = not (eqb (number_at s (length s - 3) 3) (frame_check (channel_start channel) (take (length s - 3) s)))

-- "the null frame bit is 1; 0 there means a null frame"
unfoldable pub is_null : List ℕ → Bool
is_null s = eqb (null_of s) 0

-- "9: another frame number, cycle count, payload length, indicator or reserved bit than due."
unfoldable pub is_due : ℕ → ℕ → List ℕ → Bool
is_due number cycle s = eqb (reserved_of s) 0 && eqb (preamble_of s) 0 && eqb (number_of s) number && eqb (cycle_of s) cycle

-- Request 2: "Of a heartbeat's lengths refusal 9 now covers only 0"; "14 words"
abbrev pub heartbeat_words : List ℕ → Bool
heartbeat_words s = not (eqb (words_of s) 0)

abbrev pub vote_words : List ℕ → Bool
vote_words s = eqb (words_of s) 14

-- "startup only with sync"; "sync and startup 0"
abbrev pub heartbeat_indicators : List ℕ → Bool
heartbeat_indicators s = leb (startup_of s) (sync_of s)

abbrev pub vote_indicators : List ℕ → Bool
vote_indicators s = eqb (sync_of s) 0 && eqb (startup_of s) 0

-- the first of 5 to 9 that holds of s
unfoldable pub fault_of : ℕ → ℕ → Bool → Bool → ℕ → List ℕ → Option Fault
fault_of number cycle words indicators channel s =
    cond (wrong_length s) (Some Length)
    (cond (wrong_header s) (Some HeaderCheck)
    (cond (wrong_frame channel s) (Some FrameCheck)
    (cond (is_null s) (Some NullFrame)
    (cond (is_due number cycle s && words && indicators) None (Some NotDue)))))

-- ---- payloads: "Five header bytes"; "Then payload, then 24 check bits."

unfoldable pub payload_of : List ℕ → List ℕ
payload_of s = take (length s - 8) (drop 5 s)

-- Request 2: "the first is ours, the others belong to the drive"
unfoldable pub drive_of : List ℕ → List ℕ
drive_of s = drop 2 (payload_of s)

-- ---- heartbeats: "bit 7 of the first byte is join, all else 0"; "10: heartbeat bits that must be 0". Request 2: "10 looks at the first word alone". Request 3: "In a
-- quiet press bit 6 of a heartbeat's first byte becomes a request. Read .. it gives 10 together with the join bit, and in mode 0 also alone"

unfoldable pub heartbeat_of : Bool → ℕ → ℕ → Result Heartbeat Fault
heartbeat_of quiet a b =
    cond (not (eqb b 0)) (Err Content)
    (cond (eqb a 0) (Ok Alive)
    (cond (eqb a (2 ^ 7)) (Ok Join)
    (cond (eqb a (2 ^ 6) && quiet) (Ok Request)
    (Err Content))))

abbrev pub heartbeat_content : Bool → List ℕ → Result Heartbeat Fault
heartbeat_content quiet s = heartbeat_of quiet (get_or s 5 0) (get_or s 6 0)

abbrev pub heartbeat_unless : Bool → Option Fault → List ℕ → Result Heartbeat Fault
heartbeat_unless quiet None s = heartbeat_content quiet s
heartbeat_unless quiet (Some f) s = Err f

-- the heartbeat of node q in a cycle, from the copy on a channel
unfoldable pub read_heartbeat : Bool → ℕ → ℕ → ℕ → List ℕ → Result Heartbeat Fault
read_heartbeat quiet q cycle channel s = heartbeat_unless quiet (fault_of (q + 1) cycle (heartbeat_words s) (heartbeat_indicators s) channel s) s

-- bit 7 and bit 6 of what was read, 0 where it is refused
abbrev pub join_of : Result Heartbeat Fault → ℕ
join_of (Ok Alive) = 0
join_of (Ok Join) = 1
join_of (Ok Request) = 0
join_of (Err f) = 0

abbrev pub request_of : Result Heartbeat Fault → ℕ
request_of (Ok Alive) = 0
request_of (Ok Join) = 0
request_of (Ok Request) = 1
request_of (Err f) = 0

-- ---- votes

abbrev pub payload_vote : List ℕ → Vote
payload_vote s =
    record { group = record { number = number_at s 5 4; set = number_at s 9 8; base = number_at s 17 8 }; view = number_at s 25 8 }

abbrev pub vote_content : ℕ → ℕ → List ℕ → Result Vote Fault
vote_content n q s = cond (formed_vote n q (payload_vote s)) (Ok (payload_vote s)) (Err Content)

abbrev pub vote_unless : Option Fault → ℕ → ℕ → List ℕ → Result Vote Fault
vote_unless None n q s = vote_content n q s
vote_unless (Some f) n q s = Err f

unfoldable pub read_vote : ℕ → ℕ → ℕ → ℕ → List ℕ → Result Vote Fault
read_vote n q cycle channel s = vote_unless (fault_of (q + 65) cycle (vote_words s) (vote_indicators s) channel s) n q s

-- ---- "A unit reads both channels. One good copy counts; two good copies count if their payloads are equal, else the frame is missed." Request 2: "Two good copies
-- with different drive data are still a missed frame."

abbrev pub is_good : Result Heartbeat Fault → Bool
is_good (Ok h) = true
is_good (Err f) = false

abbrev pub counted_on : Channel → Result Heartbeat Fault → Option Counted
counted_on channel (Ok h) = Some (record { heartbeat = h; channel = channel })
counted_on channel (Err f) = None

abbrev pub counted_of : Result Heartbeat Fault → Result Heartbeat Fault → Bool → Option Counted
counted_of a b equal = cond (is_good a) (cond (is_good b && not equal) None (counted_on A a)) (counted_on B b)

unfoldable pub same_payload : List ℕ → List ℕ → Bool
same_payload a b = same_bytes (payload_of a) (payload_of b)

-- what comes of the copies a on channel A and b on channel B of a heartbeat of node q
unfoldable pub receive_heartbeat : Bool → ℕ → ℕ → List ℕ → List ℕ → Option Counted
receive_heartbeat quiet q cycle a b = counted_of (read_heartbeat quiet q cycle 0 a) (read_heartbeat quiet q cycle 1 b) (same_payload a b)

-- what is heard, nothing where it is missed
abbrev pub heard_in : Option Counted → Option Heartbeat
heard_in None = None
heard_in (Some c) = Some c.heartbeat

-- the drive bytes with it, none where it is missed
abbrev pub drive_on : Channel → List ℕ → List ℕ → List ℕ
drive_on A a b = drive_of a
drive_on B a b = drive_of b

abbrev pub drive_counted : Option Counted → List ℕ → List ℕ → List ℕ
drive_counted None a b = []
drive_counted (Some c) a b = drive_on c.channel a b

unfoldable pub drive_heard : Bool → ℕ → ℕ → List ℕ → List ℕ → List ℕ
drive_heard quiet q cycle a b = drive_counted (receive_heartbeat quiet q cycle a b) a b

abbrev pub receive_vote : Result Vote Fault → Result Vote Fault → Option Vote
receive_vote (Ok v) (Ok w) = cond (same_vote v w) (Some v) None
receive_vote (Ok v) (Err f) = Some v
receive_vote (Err f) (Ok w) = Some w
receive_vote (Err f) (Err g) = None
