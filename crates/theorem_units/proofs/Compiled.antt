-- The entries for one node as they are compiled: they meet their contracts, and their calls are those of the definitions, no more and no fewer. Assumes nothing.
use mathlib.Core.Path.{refl, sym, ◌∙◌}
use mathlib.Core.List.{List, []}
use Prim.Native.Nat.{ℕ}
use denote.Ref.{Bor}
use denote.MutBor.{MutBor}
use Rattle.theorem_unit_calls.specs.Entries.{Frame, Within, by_definition}
use Rattle.entry_receive_heartbeat.specs.Hearing.{receive_heartbeat_drive, receive_heartbeat_drive_bytes}
use Rattle.theorem_units.specs.Compiled.{begin, stop, start, send_heartbeat, receive_heartbeat, send_vote, receive_vote, decide, compiled}
use Rattle.gm.proofs.gm_begin.Statement as gm-begin-says
use Rattle.gm.proofs.gm_begin.Met as gm-begin-met
use Rattle.gm.proofs.gm_stop.Statement as gm-stop-says
use Rattle.gm.proofs.gm_stop.Met as gm-stop-met
use Rattle.gm.proofs.gm_start.Statement as gm-start-says
use Rattle.gm.proofs.gm_start.Met as gm-start-met
use Rattle.gm.proofs.gm_send_heartbeat.Statement as gm-send-heartbeat-says
use Rattle.gm.proofs.gm_send_heartbeat.Met as gm-send-heartbeat-met
use Rattle.gm.proofs.gm_receive_heartbeat.Statement as gm-receive-heartbeat-says
use Rattle.gm.proofs.gm_receive_heartbeat.Met as gm-receive-heartbeat-met
use Rattle.gm.proofs.gm_send_vote.Statement as gm-send-vote-says
use Rattle.gm.proofs.gm_send_vote.Met as gm-send-vote-met
use Rattle.gm.proofs.gm_receive_vote.Statement as gm-receive-vote-says
use Rattle.gm.proofs.gm_receive_vote.Met as gm-receive-vote-met
use Rattle.gm.proofs.gm_decide.Statement as gm-decide-says
use Rattle.gm.proofs.gm_decide.Met as gm-decide-met

-- ---- the compiled entries meet the contracts that their callers read

pub begin_code : {M : Type 1} → gm-begin-says.statement M
begin_code {M} = gm-begin-met.met

pub stop_code : {M : Type 1} → gm-stop-says.statement M
stop_code {M} = gm-stop-met.met

pub start_code : {M : Type 1} → gm-start-says.statement M
start_code {M} = gm-start-met.met

pub send_heartbeat_code : {M : Type 1} → gm-send-heartbeat-says.statement M
send_heartbeat_code {M} = gm-send-heartbeat-met.met

pub receive_heartbeat_code : {M : Type 1} → gm-receive-heartbeat-says.statement M
receive_heartbeat_code {M} = gm-receive-heartbeat-met.met

pub send_vote_code : {M : Type 1} → gm-send-vote-says.statement M
send_vote_code {M} = gm-send-vote-met.met

pub receive_vote_code : {M : Type 1} → gm-receive-vote-says.statement M
receive_vote_code {M} = gm-receive-vote-met.met

pub decide_code : {M : Type 1} → gm-decide-says.statement M
decide_code {M} = gm-decide-met.met

-- ---- what a contract tells of an accepted call is what the definition says

begin_told : (n q F : ℕ) (y : List ℕ) → compiled.begin n q F y → by_definition.begin n q F y
begin_told n q F y (begin κs a r s l z) = record { lower = (a.1.1.1.0.now, sym z ∙ l.0, l.1) }

stop_told : (mode : ℕ) (x y : List ℕ) → compiled.stop mode x y → by_definition.stop mode x y
stop_told mode x y (stop κs a r s l z) = record { lower = (sym z ∙ l.0, l.1) }

start_told : (mode : ℕ) (x y : List ℕ) → compiled.start mode x y → by_definition.start mode x y
start_told mode x y (start κs a r s l z) = record { lower = (sym z ∙ l.0, l.1) }

send_heartbeat_told : (mode : ℕ) (x : List ℕ) (sync startup count channel : ℕ) (drive : List ℕ) (g : Frame) → compiled.send_heartbeat mode x sync startup count channel drive g
    → by_definition.send_heartbeat mode x sync startup count channel drive g
send_heartbeat_told mode x sync startup count channel drive g (send_heartbeat κs a r s l z) =
    record { lower = (a.1.1.1.1.1.1.1.0.now, a.1.1.1.1.1.1.1.1.0.now, sym z ∙ l.0, l.1.0, l.1.1) }

receive_heartbeat_told : (n mode p count : ℕ) (x y : List ℕ) (heard : ℕ) → compiled.receive_heartbeat n mode p count x y heard
    → by_definition.receive_heartbeat n mode p count x y heard
receive_heartbeat_told n mode p count x y heard (receive_heartbeat κs a r s l z) =
    record { lower = (a.1.1.1.1.1.1.0.now, a.1.1.1.1.1.1.1.0.now, sym z ∙ l.0, l.1.1.0) }

send_vote_told : (mode : ℕ) (x : List ℕ) (heard0 heard1 requests count channel : ℕ) (g : Frame) → compiled.send_vote mode x heard0 heard1 requests count channel g
    → by_definition.send_vote mode x heard0 heard1 requests count channel g
send_vote_told mode x heard0 heard1 requests count channel g (send_vote κs a r s l z) =
    record { lower = (a.1.1.1.1.1.1.1.0.now, a.1.1.1.1.1.1.1.1.0.now, sym z ∙ l.0, l.1.0, l.1.1) }

receive_vote_told : (n p count : ℕ) (x y t : List ℕ) (m : ℕ) (u : List ℕ) (k : ℕ) → compiled.receive_vote n p count x y t m u k → by_definition.receive_vote n p count x y t m u k
receive_vote_told n p count x y t m u k (receive_vote κs a r s l z) = record { lower = (sym z ∙ l.0, l.1.0, l.1.1) }

decide_told : (mode : ℕ) (x : List ℕ) (heard0 heard1 requests : ℕ) (votes : List ℕ) (arrived : ℕ) (y : List ℕ) → compiled.decide mode x heard0 heard1 requests votes arrived y
    → by_definition.decide mode x heard0 heard1 requests votes arrived y
decide_told mode x heard0 heard1 requests votes arrived y (decide κs a r s l z) = record { lower = (sym z ∙ l.0, l.1) }

pub told : Within compiled by_definition
told =
    record {
      begin = begin_told;
      stop = stop_told;
      start = start_told;
      send_heartbeat = send_heartbeat_told;
      receive_heartbeat = receive_heartbeat_told;
      send_vote = send_vote_told;
      receive_vote = receive_vote_told;
      decide = decide_told;
    }

-- ---- and what the definition says of a call, a contract can tell of one

-- a value that is lent to be read, and one that is lent to be written, at any place
abbrev ref : {X : Type 0} → X → Bor X
ref x = record { ref_ptr = (0, 0); now = x }

abbrev own : {X : Type 0} → X → MutBor X
own x = record { ref_ptr = (0, 0); ghost_name = 0; now = x }

pub had : Within by_definition compiled
had =
    record {
      begin = λ n q F y k. begin ([], tt) (n, (q, (F, (own k.lower.0, tt)))) 0 (n, (q, (F, (own y, tt)))) (k.lower.1, k.lower.2) refl;
      stop = λ mode x y k. stop ([], tt) (mode, (own x, tt)) 0 (mode, (own y, tt)) (k.lower.0, k.lower.1) refl;
      start = λ mode x y k. start ([], tt) (mode, (own x, tt)) 0 (mode, (own y, tt)) (k.lower.0, k.lower.1) refl;
      send_heartbeat = λ mode x sync startup count channel drive g k.
          send_heartbeat ([], ([], ([], ([], tt)))) (mode, (ref x, (sync, (startup, (count, (channel, (ref drive, (own k.lower.0, (own k.lower.1, tt))))))))) 0
          (mode, (ref x, (sync, (startup, (count, (channel, (ref drive, (own g.bytes, (own g.sent, tt))))))))) (k.lower.2, (k.lower.3, k.lower.4)) refl;
      receive_heartbeat = λ n mode p count x y heard k.
          let d = k.lower.0 in
          receive_heartbeat ([], ([], ([], ([], ([], tt))))) (n, (mode, (p, (count, (ref x, (ref y, (own d, (own k.lower.1, (own 0, tt))))))))) 0
          (n, (mode, (p, (count, (ref x, (ref y, (own (receive_heartbeat_drive n mode p count x y d), (own heard, (own (receive_heartbeat_drive_bytes n mode p count x y d 0), tt)))))))))
          (k.lower.2, (refl, (k.lower.3, refl))) refl;
      send_vote = λ mode x heard0 heard1 requests count channel g k.
          send_vote ([], ([], ([], tt))) (mode, (ref x, (heard0, (heard1, (requests, (count, (channel, (own k.lower.0, (own k.lower.1, tt))))))))) 0
          (mode, (ref x, (heard0, (heard1, (requests, (count, (channel, (own g.bytes, (own g.sent, tt))))))))) (k.lower.2, (k.lower.3, k.lower.4)) refl;
      receive_vote = λ n p count x y t m u l k.
          receive_vote ([], ([], ([], ([], tt)))) (n, (p, (count, (ref x, (ref y, (own t, (own m, tt))))))) 0 (n, (p, (count, (ref x, (ref y, (own u, (own l, tt)))))))
          (k.lower.0, (k.lower.1, k.lower.2)) refl;
      decide = λ mode x heard0 heard1 requests votes arrived y k.
          decide ([], ([], tt)) (mode, (own x, (heard0, (heard1, (requests, (ref votes, (arrived, tt))))))) 0 (mode, (own y, (heard0, (heard1, (requests, (ref votes, (arrived, tt)))))))
          (k.lower.0, k.lower.1) refl;
    }
