-- How long the parts of the texts are that others follow. Assumes nothing.
use Prim.Native.Nat.{◌≤◌}
use native.Mathlib.Omega.{arith}
use lib.ListN.{length}
use Rattle.print_text.specs.Text.{ascii}
use Rattle.print_options.specs.declared.Program.{Program}
use Rattle.print_options.specs.declared.Program.TheVariants.{Group, Quiet}
use Rattle.print_answers.specs.Answers.{name_of, usage_line, mode_text, about_text, options_text}

pub name_length : (p : Program) → length (name_of p) ≤ 8
unfolding name_of ascii
name_length Group = omega arith
name_length Quiet = omega arith

pub usage_length : (p : Program) → length (usage_line p) ≤ 76
unfolding usage_line name_of ascii
usage_length Group = omega arith
usage_length Quiet = omega arith

pub about_length : (p : Program) → length (about_text p) ≤ 294
unfolding about_text mode_text ascii
about_length Group = omega arith
about_length Quiet = omega arith

pub options_length : (p : Program) → length (options_text p) ≤ 226
unfolding options_text name_of ascii
options_length Group = omega arith
options_length Quiet = omega arith
