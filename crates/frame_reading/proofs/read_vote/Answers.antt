-- `frame_reading::read_vote` meets its contract: a frame that is due is 36 bytes long. Assumes nothing.
use mathlib.Core.Path.{◌≡◌, sym, ◌∙◌}
use mathlib.Core.List.{List}
use Prim.Native.Nat.{ℕ, ◌+◌}
use native.Mathlib.Omega.{arith}
use lib.ListN.{length}
use Rattle.std.specs.Prelude.{Result, Ok, Err, None}
use Rattle.std.proofs.lemmas.Result.{err_from_is_err_and}
use Rattle.rules.specs.declared.Vote.{Vote}
use Rattle.frames.specs.declared.Kind.TheVariants as kind
use Rattle.frames.specs.declared.Fault.{Fault}
use Rattle.frames.specs.Read.{vote_content, read_vote}
use Rattle.frames.specs.Looked.{looked, words_due, indicators_of}
use Rattle.frames.proofs.Faults.{looked_refused, looked-due, vote_fault, vote-read, vote-length}
use Rattle.frame_reading.proofs.read_vote.Goals as goal

module _ (n q cycle channel : ℕ) (s : List ℕ) {l : Result (Unit {0}) Fault} (answer : l ≡ looked (vote_fault q cycle channel s)) where
  refused : {f : Fault} → l ≡ Err f → Err f ≡ read_vote n q cycle channel s
  refused e = sym (vote-read q cycle channel s n _ (looked_refused (vote_fault q cycle channel s) answer e))

  due : {r : Result Vote Fault} → l ≡ Ok tt → r ≡ vote_content n q s → r ≡ read_vote n q cycle channel s
  due e h = h ∙ sym (vote-read q cycle channel s n None (looked-due (vote_fault q cycle channel s) answer e))

  due-length : l ≡ Ok tt → length s ≡ 36
  unfolding words_due
  due-length e = vote-length (q + 65) cycle (indicators_of kind.Vote s) channel s (looked-due _ answer e)

pub vote_content-requires-clause-in_bounds : goal.vote_content-requires-clause-in_bounds
vote_content-requires-clause-in_bounds c =
    let a = c.args in
    let l = due-length a.n a.q a.cycle a.channel a.s.now c.look.ensures c.in_ok-look.was in
    omega arith

pub returns-in_err-look : goal.returns-in_err-look
returns-in_err-look c =
    let a = c.args in
    let p = err_from_is_err_and c.from_residual.result c.from_residual.ensures.1 in
    rw (p.1, p.2) (refused a.n a.q a.cycle a.channel a.s.now c.look.ensures c.in_err-look.was)

pub returns : goal.returns
returns c = let a = c.args in due a.n a.q a.cycle a.channel a.s.now c.look.ensures c.in_ok-look.was c.vote_content.ensures
