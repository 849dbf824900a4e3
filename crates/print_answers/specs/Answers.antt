-- The text that answers each of what a program's arguments ask for, and what it tells of a failure.
-- Assumes nothing.
use Rattle.std.specs.Prelude.{List, [], ◌++◌, ℕ}
use Rattle.print_text.specs.Text.{ascii}
use Rattle.print_options.specs.declared.Program.{Program}
use Rattle.print_options.specs.declared.Program.TheVariants.{Group, Quiet}
use Rattle.print_options.specs.declared.Asked.{Asked}
use Rattle.print_options.specs.declared.Asked.TheVariants.{Run, Help, Version, Wrong}
use Rattle.print_answers.specs.declared.Failed.{Failed}
use Rattle.print_answers.specs.declared.Failed.TheVariants.{Read, Write}

unfoldable pub name_of : Program → List ℕ
name_of Group = ascii "grouprun"
name_of Quiet = ascii "quietrun"

unfoldable pub usage_line : Program → List ℕ
usage_line p = ascii "usage: " ++ (name_of p ++ ascii " [--help | --version] <press.tab (a table on standard input)\n")

unfoldable pub version_line : Program → List ℕ
version_line p = name_of p ++ ascii " 0.4.0\n"

-- for whoever starts the program without a table
unfoldable pub hint_line : Program → List ℕ
hint_line p = name_of p ++ (ascii ": a table is expected on standard input, which is a terminal; see " ++ (name_of p ++ ascii " --help\n"))

-- what a quiet press is, and the program for the others
unfoldable pub mode_text : Program → List ℕ
mode_text Group = []
mode_text Quiet =
    ascii "The press is in mode 1: votes rest while nothing happens. In mode 0, of which\n"
    ++ ascii "grouprun(1) prints the run, each member votes in every cycle.\n"

-- The help, part by part: what the program does, its options with a call, and what its input is refused for.
unfoldable pub about_text : Program → List ℕ
about_text p =
    ascii "\n"
    ++ (ascii "Reads a fault table from standard input and prints its run: for each cycle\n"
    ++ (ascii "whether the promise is kept, the group of record, who halted and who entered.\n"
    ++ mode_text p))

unfoldable pub options_text : Program → List ℕ
options_text p =
    ascii "\n"
    ++ (ascii "\t--help     print this text, and read no table\n"
    ++ (ascii "\t--version  print the version, and read no table\n"
    ++ (ascii "\n"
    ++ (ascii "A table is bytes; tabletext makes one from a text:\n"
    ++ (ascii "\ttabletext table <press.txt >press.tab && " ++ (name_of p ++ ascii " <press.tab\n"))))))

unfoldable pub refusals_text : Program → List ℕ
refusals_text p =
    ascii "Input that is no table ends in a line 'refused' with a number. The byte where\n"
    ++ (ascii "the refused record begins, and what is wrong with it, are told by\n"
    ++ (ascii "\ttabletext text <press.tab\n"
    ++ (ascii "The exit status does not tell: look for 'refused', and at standard error.\n"
    ++ (ascii "The manual page is " ++ (name_of p ++ ascii "(1); see also tabletext(1).\n")))))

unfoldable pub help_text : Program → List ℕ
help_text p = usage_line p ++ (about_text p ++ (options_text p ++ refusals_text p))

-- What answers each; the run's is said only where a table would have to be typed.
unfoldable pub answer_text : Program → Asked → List ℕ
answer_text p Run = hint_line p
answer_text p Help = help_text p
answer_text p Version = version_line p
answer_text p Wrong = usage_line p

-- what is told on standard error, since a program has no exit status
unfoldable pub failure_line : Program → Failed → List ℕ
failure_line p Read = name_of p ++ ascii ": the input could not be read\n"
failure_line p Write = name_of p ++ ascii ": the output could not be written\n"
