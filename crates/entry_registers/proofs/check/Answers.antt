use Rattle.std.proofs.Common.{◌≡◌, ℕ, Bool, cond, List, take, sym, ap, ◌∙◌, arith, Ok, Err}
use Rattle.state.specs.Image.{decoded}
use Rattle.refusal.specs.declared.Refusal.TheVariants.{Number}
use Rattle.refusal.specs.Codes.{status_of}
use Rattle.refusal.proofs.Codes.{exit_status, numbered}
use Rattle.rules.specs.OneCycle.{wrong_mode, quiet_in}
use Rattle.entry_lent.proofs.Images.{mode_found}
use Rattle.register_block.specs.Bytes.{rest_status}
use Rattle.entry_registers.specs.InPlace.{refusal_of}
use Rattle.entry_registers.proofs.Stepping.{rest_refused, rest_passed, state_status, in_mode_lem}
use Rattle.entry_registers.proofs.check.Goals as goal

-- past the mode and the bytes behind it the state is refused as it is read
read_status : (mode : ℕ) (s : List ℕ) (quiet : Bool) → Ok quiet ≡ cond (wrong_mode mode) (Err Number) (Ok (quiet_in mode)) → rest_status s ≡ 0
    → status_of (decoded quiet (take 24 s)) ≡ refusal_of mode s
read_status mode s quiet e z =
    let m = mode_found mode quiet e in
    ap (λ (q : Bool). status_of (decoded q (take 24 s))) m.1 ∙ state_status (quiet_in mode) s z ∙ sym (in_mode_lem mode s m.0)

pub returns-in_err-check_rest : goal.returns-in_err-check_rest
returns-in_err-check_rest c =
    let e = c.in_err-check_rest.ensures in
    let m = mode_found c.args.mode c.in_ok-quiet.quiet c.in_ok-quiet.ensures in
    exit_status _ _ c.from_residual-in_err-check_rest.ensures.1 ∙ e ∙ rest_refused (quiet_in c.args.mode) c.args.block.now (λ z. numbered _ (e ∙ z))
    ∙ sym (in_mode_lem c.args.mode c.args.block.now m.0)

pub slice_bounds-decode-end : goal.slice_bounds-decode-end
slice_bounds-decode-end c = omega (arith, (rest_passed c.args.block.now (sym c.in_ok-check_rest.ensures)).0)

pub returns-in_err-decode : goal.returns-in_err-decode
returns-in_err-decode c =
    exit_status _ _ c.from_residual-in_err-decode.ensures.1 ∙ ap status_of c.in_err-decode.ensures
    ∙ read_status c.args.mode c.args.block.now c.in_ok-quiet.quiet c.in_ok-quiet.ensures (sym c.in_ok-check_rest.ensures)

pub returns : goal.returns
returns c = ap status_of c.in_ok-decode.ensures ∙ read_status c.args.mode c.args.block.now c.in_ok-quiet.quiet c.in_ok-quiet.ensures (sym c.in_ok-check_rest.ensures)
