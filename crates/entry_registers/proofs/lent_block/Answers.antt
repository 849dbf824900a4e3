use Rattle.std.proofs.Common.{sym, ap, ◌∙◌, arith}
use Rattle.refusal.specs.Codes.{status_of}
use Rattle.refusal.proofs.Codes.{exit_status, numbered}
use Rattle.entry_registers.proofs.Stepping.{rest_refused, rest_passed, state_status}
use Rattle.entry_registers.proofs.lent_block.Goals as goal

pub returns-in_err-check_rest-clause-status : goal.returns-in_err-check_rest-clause-status
returns-in_err-check_rest-clause-status c =
    let e = c.in_err-check_rest.ensures in
    exit_status _ _ c.from_residual.ensures.1 ∙ e ∙ rest_refused c.args.quiet c.args.block.now (λ z. numbered _ (e ∙ z))

pub slice_bounds-decode-end : goal.slice_bounds-decode-end
slice_bounds-decode-end c = omega (arith, (rest_passed c.args.block.now (sym c.in_ok-check_rest.ensures)).0)

pub returns-clause-status : goal.returns-clause-status
returns-clause-status c = ap status_of c.decode.ensures ∙ state_status c.args.quiet c.args.block.now (sym c.in_ok-check_rest.ensures)
