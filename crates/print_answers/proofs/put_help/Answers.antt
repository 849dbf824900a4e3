-- `print_answers::put_help` meets its contract: one part after the other. Assumes nothing.
use native.Mathlib.Omega.{arith}
use Rattle.print_text.proofs.Putting.{then, leaves}
use Rattle.print_answers.proofs.Lengths.{usage_length, about_length, options_length}
use Rattle.print_answers.specs.Answers.{help_text}
use Rattle.print_answers.proofs.put_help.Goals as goal

pub put_about-requires : goal.put_about-requires
put_about-requires c = omega (arith, leaves 76 948 c.put_usage.ensures (usage_length c.args.p) c.requires)

pub put_options-requires : goal.put_options-requires
put_options-requires c =
    let one = leaves 76 948 c.put_usage.ensures (usage_length c.args.p) c.requires in
    omega (arith, leaves 294 654 c.put_about.ensures (about_length c.args.p) one)

pub put_refusals-requires : goal.put_refusals-requires
put_refusals-requires c =
    let one = leaves 76 948 c.put_usage.ensures (usage_length c.args.p) c.requires in
    let two = leaves 294 654 c.put_about.ensures (about_length c.args.p) one in
    omega (arith, leaves 226 428 c.put_options.ensures (options_length c.args.p) two)

pub returns : goal.returns
unfolding help_text
returns c = then c.put_usage.ensures (then c.put_about.ensures (then c.put_options.ensures c.put_refusals.ensures))
