use Rattle.std.proofs.Common.{◌≡◌}
use Rattle.records.specs.Write.{written, over_front}
use Rattle.records.proofs.file_write.write.Given as goal

abbrev pub invariant-loop-k : goal.invariant-loop-k
invariant-loop-k g l = l.out ≡ over_front (written (g.N.Net.meaning l.net) l.k) l.initial.out
