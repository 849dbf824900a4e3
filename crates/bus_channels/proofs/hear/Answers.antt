use Rattle.std.proofs.Common.{arith, ◌≡◌, ap}
use Rattle.sets.proofs.Nodes.{those-none, those-next, those_end}
use Rattle.bus_units.specs.Units.{is_alive, is_join, is_request}
use Rattle.bus_channels.specs.Channels.{heard_read}
use Rattle.bus_channels.proofs.hear.Goals as goal

pub loop-p-init : goal.loop-p-init
loop-p-init c = record { members = those-none _; joining = those-none _; requests = those-none _ }

pub loop-p-preserved : goal.loop-p-preserved
loop-p-preserved c =
    let h = c.loop-p.invariant in
    let e = c.heard_with-heard.ensures in
    let came = c.read_heartbeat.ensures in
    record {
      members = those-next _ _ _ _ _ h.members (ap is_alive came) e.members_value;
      joining = those-next _ _ _ _ _ h.joining (ap is_join came) e.joining_value;
      requests = those-next _ _ _ _ _ h.requests (ap is_request came) e.requests_value;
    }

pub returns : goal.returns
unfolding heard_read
returns c =
    let a = c.args in
    let h = c.loop-p.invariant in
    let done : c.loop-p.p ≡ a.config.nodes = omega arith in
    record { members_value = those_end _ _ _ _ h.members done; joining_value = those_end _ _ _ _ h.joining done; requests_value = those_end _ _ _ _ h.requests done }
