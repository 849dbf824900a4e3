-- What a stream of records gives and leaves, record by record and call by call. A stream is known by what is `due` of the rest of a file in each of its states, and by
-- whether the next record is `whole` in what is seen; a record gives at most `rate` bytes for each of its own.
-- Assumes nothing.
use Rattle.std.specs.Prelude.{◌≡◌, Bool, true, false, ◌||◌, List, ◌++◌, ℕ, ◌+◌, ◌-◌, ◌*◌, ◌≤◌, ◌<◌, eqb, length, take, drop}
use Rattle.parts.specs.Parts.{with_part}
use Rattle.print_text.specs.Text.{Appended}
use Rattle.print_window.specs.Window.{Shows, Report, Given}

module _ {S : Type 0} (due : S → List ℕ → Report) (whole : S → List ℕ → Bool) where
  -- A record, taken in state z, which becomes z': what it gives is appended to the buffer `out` at `at`, which makes it `out'`, up to `end`. It speaks of every file of which
  -- `left` is seen, if the record is whole there or the file has ended. One that is not the last is no empty one.
  pub record Turned (rate : ℕ) (z : S) (left out : List ℕ) (at : ℕ) (z' : S) (out' : List ℕ) (taken end : ℕ) (over : Bool) : Type 0 where
    pub text : List ℕ
    pub appended : Appended out at text out' end
    pub given : (ended : Bool) → (ended || whole z left) ≡ true → Given (Shows left ended) (due z) (due z') taken over text
    pub within : taken ≤ length left
    pub moves : over ≡ false → (0 < taken) × (end ≤ at + rate * taken)

  -- A call on the first `have` bytes of a window, after which the file has ended or not: of every file of which they are the front it gives the next piece. It makes the
  -- window to `window'`, with the bytes kept in its front, and the buffer to `out'`, and says all bytes of both. If it is not over, no whole record is left, and what is
  -- left is shorter than the longest record.
  pub record Took (longest : ℕ) (z : S) (window : List ℕ) (have : ℕ) (ended : Bool) (out : List ℕ) (at : ℕ) (z' : S) (window' out' : List ℕ) (kept end : ℕ) (over : Bool) : Type 0 where
    pub taken : ℕ
    pub text : List ℕ
    pub given : Given (Shows (take have window) ended) (due z) (due z') taken over text
    pub written : Appended out at text out' end
    pub rest : taken + kept ≡ have
    pub moved : window' ≡ with_part 0 (take kept (drop taken window)) window
    pub waits : over ≡ false → (ended ≡ false) × (whole z' (take kept (drop taken window)) ≡ false) × (kept < longest)

  -- A call on what was read behind the bytes kept, an empty read being the end of the file; `text` are the bytes that it says are to be written, and kept' those in the
  -- front of the window after it.
  pub record Called (longest : ℕ) (z : S) (kept read : List ℕ) (z' : S) (kept' : List ℕ) (over : Bool) (text : List ℕ) : Type 0 where
    pub window : List ℕ
    pub out : List ℕ
    pub at : ℕ
    pub window' : List ℕ
    pub out' : List ℕ
    pub count : ℕ
    pub end : ℕ
    pub fits : length kept + length read ≤ length window
    pub shown : take (length kept + length read) window ≡ kept ++ read
    pub took : Took longest z window (length kept + length read) (eqb (length read) 0) out at z' window' out' count end over
    pub keeps : kept' ≡ take count window'
    pub says : text ≡ take (end - at) (drop at out')
