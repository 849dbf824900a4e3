use Rattle.std.proofs.Common.{◌≡◌, ℕ, ◌<◌, ◌≤◌, List, eqb, sym, ◌∙◌, arith}
use Rattle.frames.specs.Written.{bit, heartbeat_frame}
use Rattle.frames.proofs.Converted.{bit-number}
use Rattle.refusal.proofs.Codes.{unless_err}
use Rattle.entry_write_heartbeat.specs.Heartbeats.{write_heartbeat_left}
use Rattle.entry_write_heartbeat.proofs.Beats.{write-bounds, written}
use Rattle.entry_write_heartbeat.proofs.write.Goals as goal

-- the bits of numbers that are bits
same_bits : (q join request sync startup cycle channel : ℕ) (d : List ℕ) → join < 2 → request < 2 → sync < 2 → startup < 2
    → heartbeat_frame q (bit (eqb join 1)) (bit (eqb request 1)) (bit (eqb sync 1)) (bit (eqb startup 1)) cycle channel d ≡ heartbeat_frame q join request sync startup cycle channel d
same_bits q join request sync startup cycle channel d lj lr ls lt = simp (bit-number join lj, bit-number request lr, bit-number sync ls, bit-number startup lt)

pub returns-in_err-check-clause-frame_after : goal.returns-in_err-check-clause-frame_after
unfolding write_heartbeat_left
returns-in_err-check-clause-frame_after c = unless_err _ _ _ _ c.in_err-check.ensures

pub invariant_of-slot : goal.invariant_of-slot
invariant_of-slot c = let b = write-bounds _ _ _ _ _ _ _ _ _ _ _ (sym c.in_ok-check.ensures) in record { node_bound = b.0; cycle_bound = b.1.1.1.1.1.0 }

pub write_heartbeat-requires : goal.write_heartbeat-requires
write_heartbeat-requires c = let b = write-bounds _ _ _ _ _ _ _ _ _ _ _ (sym c.in_ok-check.ensures) in record { drive_value = b.1.1.1.1.1.1.0; frame_len = b.1.1.1.1.1.1.1 }

pub returns-clause-frame_after : goal.returns-clause-frame_after
returns-clause-frame_after c =
    let h = c.args.h in
    let b = write-bounds _ _ _ _ _ _ _ _ _ _ _ (sym c.in_ok-check.ensures) in
    written _ _ _ _ _ _ _ _ _ _ _ (sym c.in_ok-check.ensures) _
    (c.write_heartbeat.ensures ∙ same_bits h.node h.join h.request h.sync h.startup h.cycle h.channel _ b.1.0 b.1.1.0 b.1.1.1.0 (omega arith))
