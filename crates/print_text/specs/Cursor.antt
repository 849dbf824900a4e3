-- What it is to append to a text that stands in lent bytes. Assumes nothing.
use Rattle.std.specs.Prelude.{◌≡◌, List, ℕ, ◌+◌, ◌≤◌, length}
use Rattle.print_text.specs.Text.{Appended}
use Rattle.print_text.specs.declared.Text.{Text}

-- m bytes more fit behind the cursor
abbrev pub HasRoom : Text → ℕ → Type 0
HasRoom text m = text.at + m ≤ length text.out.now

-- t is appended at the cursor, which then stands behind it; the bytes are those that were lent
pub record Puts (old : Text) (t : List ℕ) (new : Text) : Type 0 where
  pub appended : Appended old.out.now old.at t new.out.now new.at
  pub same_reference : new.out.ghost_name ≡ old.out.ghost_name
