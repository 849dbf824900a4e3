use Rattle.std.proofs.Common.{◌≡◌, List, ℕ, ◌<◌}
use Rattle.std.proofs.Math.Option.{Option}
use Rattle.bus_channels.specs.Channels.{with_sent, channel_of}
use Rattle.bus_channels.proofs.filled.Given as goal

abbrev pub invariant-loop-q : goal.invariant-loop-q
invariant-loop-q g l =
    (sent : ℕ → Option (List ℕ)) → ((c : _) (q : ℕ) (d : _) → q < l.n → goal.F-post g l.put c q tt d → d.now ≡ with_sent q (sent q) c.now) → l.all ≡ channel_of l.q sent
