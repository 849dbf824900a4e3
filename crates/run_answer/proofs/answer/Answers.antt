-- By the task. Assumes nothing.
use lib.ListN.{length}
use Rattle.run_answer.proofs.Calling.{run-status, framed-status, run-left, framed-left}
use Rattle.run_answer.proofs.answer.Goals as goal

pub returns-in-Run-clause-answered : goal.returns-in-Run-clause-answered
returns-in-Run-clause-answered c = λ nodes h. rw c.in-Run.is (run-status c.args.mode c.args.len nodes c.args.s.now h.0 _ c.run_answer.ensures.answered)

pub returns-in-Run-clause-left : goal.returns-in-Run-clause-left
returns-in-Run-clause-left c = λ nodes h. rw c.in-Run.is (run-left c.args.mode c.args.len nodes c.args.s.now h.0 _ c.run_answer.ensures.answered c.run_answer.ensures.left)

pub returns-in-FramedRun-clause-answered : goal.returns-in-FramedRun-clause-answered
returns-in-FramedRun-clause-answered c = λ nodes h.
    rw c.in-FramedRun.is (framed-status c.args.mode c.args.len nodes c.args.s.now h.0 (length c.args.frames.now) _ c.framed_answer.ensures.answered)

pub returns-in-FramedRun-clause-left : goal.returns-in-FramedRun-clause-left
returns-in-FramedRun-clause-left c = λ nodes h.
    rw c.in-FramedRun.is (framed-left c.args.mode c.args.len nodes c.args.s.now h.0 (length c.args.frames.now) _ c.framed_answer.ensures.answered c.framed_answer.ensures.left)
