use mathlib.Core.Path.{refl, sym, ◌∙◌}
use native.Mathlib.Omega.{arith}
use Rattle.print_stream.proofs.Chunks.{chunks_print, failed_prints}
use Rattle.print_program.proofs.Calling.{begins-along, begins-ready, going, goes-along}
use Rattle.print_program.proofs.print.Goals as goal

pub loop-rt-init : goal.loop-rt-init
loop-rt-init c =
    let b = c.begin in (
      begins-along c.args.quiet c.args.out.now b.new.out b.result c.args.input.now b.ensures _,
      (λ o. begins-ready c.args.quiet c.args.out.now b.new.out b.result c.args.input.now b.ensures (omega arith) (omega arith)),
      refl,
      refl,
      omega arith,
    )

pub next-run-requires : goal.next-run-requires
next-run-requires c =
    let l = c.loop-rt in
    let on = going l.run (sym c.has_ended.ensures ∙ c.loop-rt-test.true) in record { ready = l.invariant.1 on.0; reads_bound = omega (arith, l.invariant.4, on.1) }

pub loop-rt-smaller : goal.loop-rt-smaller
loop-rt-smaller c =
    let l = c.loop-rt in
    let on = going l.run (sym c.has_ended.ensures ∙ c.loop-rt-test.true) in
    omega (arith, l.invariant.4, on.1, c.next-run.ensures.reads_value)

pub loop-rt-preserved : goal.loop-rt-preserved
loop-rt-preserved c =
    let l = c.loop-rt in
    let n = c.next-run in
    let on = going l.run (sym c.has_ended.ensures ∙ c.loop-rt-test.true) in (
      goes-along _ l.run _ l.input n.result _ _ _ n.ensures.goes l.invariant.0 on.0 on.2 n.ensures.reads_value,
      (λ o. n.ensures.goes.ready o),
      omega (arith, l.invariant.2, c.next-run.auto.input),
      omega (arith, l.invariant.3, c.next-run.auto.out),
      omega (arith, l.invariant.4, on.1, n.ensures.reads_value),
    )

pub returns : goal.returns
returns c =
    let l = c.loop-rt in
    let a = l.invariant.0 in
    record {
      along = a;
      ended = sym c.has_ended.ensures ∙ c.loop-rt-test.false;
      all = λ o. chunks_print _ a.out a.out' a.first a.founded a.chunks a.text a.begins (a.over o);
      cut = λ o. failed_prints _ a.out a.out' a.first a.founded a.chunks _ _ a.text a.begins (a.goes o);
    }
