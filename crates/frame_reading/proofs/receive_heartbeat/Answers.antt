-- `frame_reading::receive_heartbeat` meets its contract. Assumes nothing.
use mathlib.Core.Path.{◌≡◌, refl, sym, ap, ◌∙◌}
use mathlib.Core.Bool.{Bool, true, false}
use mathlib.Core.List.{List}
use Prim.Native.Nat.{ℕ, ◌≤◌}
use native.Mathlib.Omega.{arith}
use lib.ListN.{length}
use Rattle.std.specs.Prelude.{Option, Result, Ok}
use Rattle.frames.specs.declared.Fault.{Fault}
use Rattle.frames.specs.declared.Heartbeat.{Heartbeat}
use Rattle.frames.specs.declared.Counted.{Counted}
use Rattle.frames.specs.Read.{read_heartbeat, is_good, counted_of, same_payload, receive_heartbeat}
use Rattle.frames.proofs.TwoChannels.{good_length}
use Rattle.frame_reading.proofs.receive_heartbeat.Goals as goal

-- what two copies give, by what was read in them and whether their payloads are equal
received : (quiet : Bool) (q cycle : ℕ) (a b : List ℕ) {x y x' y' : Result Heartbeat Fault} → x ≡ read_heartbeat quiet q cycle 0 a → y ≡ read_heartbeat quiet q cycle 1 b
    → x ≡ x' → y ≡ y' → (equal : Bool) → same_payload a b ≡ equal → {r : Option Counted} → r ≡ counted_of x' y' equal → r ≡ receive_heartbeat quiet q cycle a b
unfolding receive_heartbeat
received quiet q cycle a b ex ey ix iy equal e h =
    h ∙ (λ i. counted_of ((sym ix ∙ ex) i) ((sym iy ∙ ey) i) (sym e i))

long : (quiet : Bool) (q cycle channel : ℕ) (s : List ℕ) {x : Result Heartbeat Fault} {h : Heartbeat} → x ≡ read_heartbeat quiet q cycle channel s → x ≡ Ok h → 10 ≤ length s
long quiet q cycle channel s e i = (good_length quiet q cycle channel s (ap is_good (sym e ∙ i))).0

pub same_payload-requires-clause-in_bounds : goal.same_payload-requires-clause-in_bounds
same_payload-requires-clause-in_bounds c = let l = long _ _ _ _ _ c.read_heartbeat-on_a.ensures c.in-Ok-Ok.is-0 in omega arith

pub same_payload-requires-clause-in_bounds_2 : goal.same_payload-requires-clause-in_bounds_2
same_payload-requires-clause-in_bounds_2 c = let l = long _ _ _ _ _ c.read_heartbeat-on_b.ensures c.in-Ok-Ok.is-1 in omega arith

pub returns-then-same_payload : goal.returns-then-same_payload
returns-then-same_payload c =
    received _ _ _ _ _ c.read_heartbeat-on_a.ensures c.read_heartbeat-on_b.ensures c.in-Ok-Ok.is-0 c.in-Ok-Ok.is-1 true (sym c.same_payload.ensures ∙ c.if-same_payload.true) refl

pub returns-else-same_payload : goal.returns-else-same_payload
returns-else-same_payload c =
    received _ _ _ _ _ c.read_heartbeat-on_a.ensures c.read_heartbeat-on_b.ensures c.in-Ok-Ok.is-0 c.in-Ok-Ok.is-1 false (sym c.same_payload.ensures ∙ c.if-same_payload.false) refl

pub returns-in-Ok-Err : goal.returns-in-Ok-Err
returns-in-Ok-Err c = received _ _ _ _ _ c.read_heartbeat-on_a.ensures c.read_heartbeat-on_b.ensures c.in-Ok-Err.is-0 c.in-Ok-Err.is-1 _ refl refl

pub returns-in-Err-Ok : goal.returns-in-Err-Ok
returns-in-Err-Ok c = received _ _ _ _ _ c.read_heartbeat-on_a.ensures c.read_heartbeat-on_b.ensures c.in-Err-Ok.is-0 c.in-Err-Ok.is-1 _ refl refl

pub returns-in-Err-Err : goal.returns-in-Err-Err
returns-in-Err-Err c = received _ _ _ _ _ c.read_heartbeat-on_a.ensures c.read_heartbeat-on_b.ensures c.in-Err-Err.is-0 c.in-Err-Err.is-1 _ refl refl
