use mathlib.Core.Path.{◌≡◌}
use Rattle.sets.specs.Sets.{those}
use Rattle.bus_units.specs.Units.{is_alive, is_join, is_request}
use Rattle.bus_channels.specs.Channels.{heartbeat_read}
use Rattle.bus_channels.proofs.hear.Given as goal

abbrev pub invariant-loop-p : goal.invariant-loop-p
invariant-loop-p l = record {
  members : l.heard.members ≡ those l.p (λ x. is_alive (heartbeat_read l.config.quiet l.bus.count l.bus.reach l.bus.a.now l.bus.b.now x));
  joining : l.heard.joining ≡ those l.p (λ x. is_join (heartbeat_read l.config.quiet l.bus.count l.bus.reach l.bus.a.now l.bus.b.now x));
  requests : l.heard.requests ≡ those l.p (λ x. is_request (heartbeat_read l.config.quiet l.bus.count l.bus.reach l.bus.a.now l.bus.b.now x));
}
