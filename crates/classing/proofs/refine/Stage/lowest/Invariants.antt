use Rattle.std.proofs.Common.{ℕ, ◌<◌}
use Rattle.classing.specs.Staying.{Stays}
use Rattle.classing.proofs.refine.Stage.lowest.Given as goal

abbrev pub invariant-loop-q : goal.invariant-loop-q
invariant-loop-q l = (k : ℕ) → k < l.q → Stays l.self.snapshot.now l.self.profiles.now l.self.table.now.classes k l.p → ⊥
