use Rattle.std.proofs.Common.{◌≡◌, Ok}
use Rattle.records.specs.Check.{checked_to}
use Rattle.records.proofs.file_check.check.Given as goal

abbrev pub invariant-loop-k : goal.invariant-loop-k
invariant-loop-k l = checked_to l.bytes l.k ≡ Ok l.seen
