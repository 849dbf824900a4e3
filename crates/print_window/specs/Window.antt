-- What a window shows of a file, and what a stream of the file's records gives. Nothing here knows what a record is.
-- Assumes nothing.
use Rattle.std.specs.Prelude.{◌≡◌, Bool, true, cond, List, [], ◌++◌, ℕ, length, take, drop}
use Rattle.print_run.specs.Printed.{refused_line}

-- the bytes seen are the front of the rest of a file, and all of it once the file has ended
pub record Shows (seen : List ℕ) (ended : Bool) (rest : List ℕ) : Type 0 where
  pub front : take (length seen) rest ≡ seen
  pub whole : ended ≡ true → seen ≡ rest

-- what is to be given of the rest of a file: the lines of its whole records, and the refusal that follows them, 0 if there is none
pub record Report : Type 0 where
  pub lines : List ℕ
  pub refusal : ℕ

abbrev pub text_of : Report → List ℕ
text_of r = r.lines ++ refused_line r.refusal

abbrev pub preceded : List ℕ → Report → Report
preceded l r = record { lines = l ++ r.lines; refusal = r.refusal }

abbrev pub lastly : ℕ → Report
lastly r = record { lines = []; refusal = r }

-- A piece that takes `taken` bytes of the rest of a file. `before` says what was to be given of that rest, which is any of `files`, and `after` what is to be given
-- of the rest without those bytes: the piece is the lines between, and the last one, with which the stream is over, also the refusal.
pub record Given (files : List ℕ → Type 0) (before after : List ℕ → Report) (taken : ℕ) (over : Bool) (text : List ℕ) : Type 0 where
  pub lines : List ℕ
  pub refusal : ℕ
  pub all : (rest : List ℕ) → files rest → before rest ≡ preceded lines (cond over (lastly refusal) (after (drop taken rest)))
  pub is : text ≡ lines ++ cond over (refused_line refusal) []
