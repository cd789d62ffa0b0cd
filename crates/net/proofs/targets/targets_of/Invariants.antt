use Rattle.std.proofs.Common.{◌+◌, ◌-◌}
use Rattle.net.specs.Limits.{most_total}
use Rattle.net.proofs.Spreads.{Spreading}
use Rattle.net.proofs.targets.targets_of.Given as goal

abbrev pub invariant-loop-found : goal.invariant-loop-found
invariant-loop-found g l = Spreading (g.N.Net.meaning l.net) l.t l.p l.found l.left l.targets

abbrev pub decreases-loop-found : goal.decreases-loop-found
decreases-loop-found g l = ((g.N.Net.meaning l.net).places + most_total) - (l.p + l.found)
