use Rattle.std.proofs.Common.{◌≡◌, ◌≤◌}
use Rattle.classing.specs.Targets.{times}
use Rattle.class_tests.proofs.checks.times_in.Given as goal

abbrev pub invariant-loop-target : goal.invariant-loop-target
invariant-loop-target l = (l.k ≡ times l.target-index l.targets l.x) × (l.k ≤ l.target-index)
