use Rattle.std.proofs.Common.{◌≡◌}
use Rattle.crews.proofs.Replaying.{Going}
use Rattle.crews.proofs.runs.replay.Given as goal

abbrev pub invariant-loop-i : goal.invariant-loop-i
invariant-loop-i g l = (l.bench.net ≡ l.initial.bench.net) × Going (g.N.Net.meaning l.initial.bench.net) l.calls l.i l.initial.answers l.answers l.bench
