use Rattle.frames.proofs.Payloads.{none_wrong}
use Rattle.bus_channels.proofs.run_heartbeat.Goals as goal

pub write_heartbeat-requires-clause-drive_value : goal.write_heartbeat-requires-clause-drive_value
write_heartbeat-requires-clause-drive_value c = none_wrong
