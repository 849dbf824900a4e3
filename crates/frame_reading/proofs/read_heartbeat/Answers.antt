-- `frame_reading::read_heartbeat` meets its contract: a frame that is due has its payload. Assumes nothing.
use mathlib.Core.Path.{◌≡◌, sym, ◌∙◌}
use mathlib.Core.Bool.{Bool}
use mathlib.Core.List.{List}
use Prim.Native.Nat.{ℕ, ◌+◌, ◌≤◌}
use native.Mathlib.Omega.{arith}
use lib.ListN.{length, get_or}
use Rattle.std.specs.Prelude.{Result, Ok, Err, None}
use Rattle.std.proofs.lemmas.Result.{err_from_is_err_and}
use Rattle.frames.specs.declared.Kind.TheVariants as kind
use Rattle.frames.specs.declared.Fault.{Fault}
use Rattle.frames.specs.declared.Heartbeat.{Heartbeat}
use Rattle.frames.specs.Read.{heartbeat_of, read_heartbeat}
use Rattle.frames.specs.Looked.{looked, words_due, indicators_of}
use Rattle.frames.proofs.Faults.{looked_refused, looked-due, heartbeat_fault, heartbeat-read, heartbeat-length}
use Rattle.frame_reading.proofs.read_heartbeat.Goals as goal

module _ (quiet : Bool) (q cycle channel : ℕ) (s : List ℕ) {l : Result (Unit {0}) Fault} (answer : l ≡ looked (heartbeat_fault q cycle channel s)) where
  refused : {f : Fault} → l ≡ Err f → Err f ≡ read_heartbeat quiet q cycle channel s
  refused e = sym (heartbeat-read q cycle channel s quiet _ (looked_refused (heartbeat_fault q cycle channel s) answer e))

  due : {r : Result Heartbeat Fault} → l ≡ Ok tt → r ≡ heartbeat_of quiet (get_or s 5 0) (get_or s 6 0) → r ≡ read_heartbeat quiet q cycle channel s
  due e h = h ∙ sym (heartbeat-read q cycle channel s quiet None (looked-due (heartbeat_fault q cycle channel s) answer e))

  due-long : l ≡ Ok tt → 8 ≤ length s
  unfolding words_due
  due-long e = let n = (heartbeat-length (q + 1) cycle (indicators_of kind.Heartbeat s) channel s (looked-due _ answer e)).0 in omega arith

pub bounds-s-5 : goal.bounds-s-5
bounds-s-5 c =
    let a = c.args in
    let l = due-long a.quiet a.q a.cycle a.channel a.s.now c.look.ensures c.in_ok-look.was in
    omega arith

pub bounds-s-6 : goal.bounds-s-6
bounds-s-6 c =
    let a = c.args in
    let l = due-long a.quiet a.q a.cycle a.channel a.s.now c.look.ensures c.in_ok-look.was in
    omega arith

pub returns-in_err-look : goal.returns-in_err-look
returns-in_err-look c =
    let a = c.args in
    let p = err_from_is_err_and c.from_residual.result c.from_residual.ensures.1 in
    rw (p.1, p.2) (refused a.quiet a.q a.cycle a.channel a.s.now c.look.ensures c.in_err-look.was)

pub returns : goal.returns
returns c = let a = c.args in due a.quiet a.q a.cycle a.channel a.s.now c.look.ensures c.in_ok-look.was c.heartbeat_of.ensures
