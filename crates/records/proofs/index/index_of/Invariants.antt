use Rattle.records.proofs.Indexes.{Indexed}
use Rattle.records.proofs.index.index_of.Given as goal

abbrev pub invariant-loop-k : goal.invariant-loop-k
invariant-loop-k l = Indexed l.bytes l.k l.count l.starts
