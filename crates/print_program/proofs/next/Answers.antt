-- `print_program::next` meets its contract. Assumes nothing.
use mathlib.Core.Path.{refl}
use mathlib.Core.Bool.{false≢true}
use native.Mathlib.Omega.{arith}
use Rattle.print_program.proofs.Calling.{called, still}
use Rattle.print_program.proofs.next.Goals as goal

pub returns-clause-goes : goal.returns-clause-goes
returns-clause-goes c =
    let k = c.take-taken in
    let b = c.args.r.last in record {
      calls =
          λ e. (
            _,
            _,
            called c.unwrap-session.result b.session c.unwrap-session.ensures _ _ c.args.input.now _ b.kept _ c.args.out.now b.at _ _ k.result
                c.read_on.ensures.kept c.in-Ok.ensures.within (omega (arith, c.read_on.auto.input)) k.ensures,
          );
      fails = λ e. absurd (false≢true e);
      ready =
          λ o. record {
            few = (k.ensures.waits o).2;
            wide = omega (arith, c.requires.ready.wide, c.read_on.auto.input, k.auto.window);
            room = omega (arith, c.requires.ready.room, c.read_on.auto.input, k.auto.window, k.auto.out);
            going = still _ o;
          };
      once = λ e. refl;
    }
