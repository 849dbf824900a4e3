-- What holds of every answer, by computation. Assumes nothing.
use mathlib.Core.Path.{◌≡◌, refl}
use mathlib.Core.Bool.{Bool, true, false, not, ◌&&◌, ◌||◌}
use mathlib.Core.List.{List, [], ◌∷◌}
use Prim.Native.Nat.{ℕ}
use lib.Dec.{eqb}
use lib.ListN.{length, take}
use Rattle.print_text.specs.Text.{ascii}
use Rattle.print_options.specs.declared.Program.{Program}
use Rattle.print_options.specs.declared.Program.TheVariants.{Group, Quiet}
use Rattle.print_options.specs.declared.Asked.{Asked}
use Rattle.print_options.specs.declared.Asked.TheVariants.{Run, Help, Version, Wrong}
use Rattle.print_options.specs.Options.{goes_aside}
use Rattle.print_answers.specs.declared.Failed.{Failed}
use Rattle.print_answers.specs.declared.Failed.TheVariants.{Read, Write}
use Rattle.print_answers.specs.Answers.{name_of, usage_line, version_line, hint_line, help_text, answer_text, failure_line}

-- whether the only line end of a text is its last byte
abbrev is_line : List ℕ → Bool
is_line [] = false
is_line (b ∷ []) = eqb b 10
is_line (b ∷ (a ∷ t)) = not (eqb b 10) && is_line (a ∷ t)

-- what goes to standard error is one line
pub aside_is_a_line : (p : Program) (a : Asked) → not (goes_aside a) || is_line (answer_text p a) ≡ true
unfolding name_of answer_text usage_line version_line hint_line ascii
aside_is_a_line Group Run = refl
aside_is_a_line Quiet Run = refl
aside_is_a_line p Help = refl
aside_is_a_line Group Version = refl
aside_is_a_line Quiet Version = refl
aside_is_a_line Group Wrong = refl
aside_is_a_line Quiet Wrong = refl

pub version_is_a_line : (p : Program) → is_line (answer_text p Version) ≡ true
unfolding name_of answer_text version_line ascii
version_is_a_line Group = refl
version_is_a_line Quiet = refl

pub failure_is_a_line : (p : Program) (f : Failed) → is_line (failure_line p f) ≡ true
unfolding name_of failure_line ascii
failure_is_a_line Group Read = refl
failure_is_a_line Group Write = refl
failure_is_a_line Quiet Read = refl
failure_is_a_line Quiet Write = refl

-- the help says the usage first
pub help_begins : (p : Program) → take (length (usage_line p)) (answer_text p Help) ≡ answer_text p Wrong
unfolding name_of answer_text usage_line help_text ascii
help_begins Group = refl
help_begins Quiet = refl
