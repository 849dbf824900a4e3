use mathlib.Core.Path.{◌≡◌}
use mathlib.Core.Bool.{◌&&◌}
use Prim.Native.Nat.{ℕ, ◌<◌}
use lib.ListN.{get_or, length}
use Rattle.sets.specs.Sets.{has, ◌∖◌, those}
use Rattle.bus_channels.specs.Channels.{view_read, votes_read}
use Rattle.bus_channels.proofs.views_of.Given as goal

abbrev pub invariant-loop-q : goal.invariant-loop-q
invariant-loop-q l = record {
  long : length l.views ≡ 64;
  seen : (j : ℕ) → j < l.q → get_or l.views j 0 ≡ view_read l.config l.bus.count (l.bus.reach ∖ get_or l.missed j 0) l.bus.a.now l.bus.b.now (get_or l.sets j 0) j;
  voted : l.voting ≡ those l.q (λ j. has j l.w.members && votes_read l.config l.bus.count (l.bus.reach ∖ get_or l.missed j 0) l.bus.a.now l.bus.b.now (get_or l.sets j 0) (has j l.w.asking) j);
}
