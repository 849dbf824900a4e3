-- Paper 01, "Frames", with requests 2 and 3 of paper 02: heartbeat and vote frames as they are written.
-- Assumes nothing.
use Rattle.std.specs.Prelude.{Bool, cond, not, ◌&&◌, ◌||◌, List, [], ◌∷◌, ◌++◌, ℕ, ◌+◌, ◌*◌, ◌/◌, ◌%◌, ◌^◌, eqb, ltb, length}
use Rattle.sets.specs.Sets.{has, subset, below}
use Rattle.bigendian.specs.BigEndian.{bytes_of}
use Rattle.crc.specs.Crc.{header_check, frame_check, channel_start}
use Rattle.rules.specs.declared.Vote.{Vote}

-- "Five header bytes: reserved bit, payload preamble, null frame, sync and startup indicators, frame number (11 bits), payload length in words of two bytes
-- (7), header check (11), cycle count (6)." "In both the reserved and preamble bits are 0 and the null frame bit is 1".
unfoldable pub header : ℕ → ℕ → ℕ → ℕ → ℕ → List ℕ
header sync startup number words cycle =
    bytes_of 5 ((((4 + sync * 2 + startup) * 2 ^ 11 + number) * 2 ^ 7 + words) * 2 ^ 17 + header_check sync startup number words * 2 ^ 6 + cycle)

-- "Then payload, then 24 check bits", over header and payload
unfoldable pub frame : ℕ → List ℕ → List ℕ
frame start s = s ++ bytes_of 3 (frame_check start s)

-- a bit of a frame
abbrev pub bit : Bool → ℕ
bit b = cond b 1 0

-- "bit 7 of the first byte is join, all else 0". Request 3: "In a quiet press bit 6 of a heartbeat's first byte becomes a request."
abbrev pub first_byte : ℕ → ℕ → ℕ
first_byte join request = join * 2 ^ 7 + request * 2 ^ 6

-- Request 3: "Read or to be written, it gives 10 together with the join bit, and in mode 0 also alone".
unfoldable pub wrong_request : Bool → ℕ → ℕ → Bool
wrong_request quiet join request = eqb request 1 && (eqb join 1 || not quiet)

-- "Heartbeat of node q: frame number q+1, one word; bit 7 of the first byte is join, all else 0; sync and startup free, but startup only with sync." Request 2: "A
-- heartbeat may now have 1 to 127 words; the first is ours, the others belong to the drive."
unfoldable pub heartbeat_frame : ℕ → ℕ → ℕ → ℕ → ℕ → ℕ → ℕ → List ℕ → List ℕ
heartbeat_frame q join request sync startup cycle channel drive =
    frame (channel_start channel) (header sync startup (q + 1) (1 + length drive / 2) cycle ++ (first_byte join request ∷ 0 ∷ drive))

-- Request 2: "A run's heartbeats keep one word."
abbrev pub run_drive : List ℕ
run_drive = []

-- Request 2: "Drive bytes to be written, if odd in number or above 252, give 3."
unfoldable pub wrong_drive : List ℕ → Bool
wrong_drive drive = eqb (length drive % 2) 1 || ltb 252 (length drive)

-- "Vote: frame number q+65, 14 words: G (4 bytes), M, B, V; sync and startup 0."
unfoldable pub vote_payload : Vote → List ℕ
vote_payload v = bytes_of 4 v.group.number ++ (bytes_of 8 v.group.set ++ (bytes_of 8 v.group.base ++ bytes_of 8 v.view))

unfoldable pub vote_frame : ℕ → Vote → ℕ → ℕ → List ℕ
vote_frame q v cycle channel = frame (channel_start channel) (header 0 0 (q + 65) 14 cycle ++ vote_payload v)

-- Refusal 10: "a vote whose M or V lacks the sender, whose B lacks part of M, or with a bit at N or above; the same for a vote to be written from given
-- numbers." A vote that is none of these; B holds M, so that no bit of B at N or above is none of M.
unfoldable pub formed_vote : ℕ → ℕ → Vote → Bool
formed_vote n q v =
    has q v.group.set && has q v.view && subset v.group.set v.group.base
    && eqb (below n v.group.base) v.group.base && eqb (below n v.view) v.view
