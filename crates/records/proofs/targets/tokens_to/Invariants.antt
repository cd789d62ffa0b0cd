use Rattle.std.proofs.Common.{◌≡◌, ◌≤◌, take}
use Rattle.records.specs.File.{tokens_to}
use Rattle.records.proofs.targets.tokens_to.Given as goal

abbrev pub invariant-loop-t : goal.invariant-loop-t
invariant-loop-t l = (l.tokens ≡ tokens_to (take l.t-index l.targets) l.p) × (l.tokens ≤ l.t-index)
