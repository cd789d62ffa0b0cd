use Rattle.std.proofs.Common.{◌≡◌, ℕ, ◌<◌, get_or}
use Rattle.classing.specs.Profiles.{class_at}
use Rattle.classing.proofs.profile.describe.Given as goal

abbrev pub invariant-loop-j : goal.invariant-loop-j
invariant-loop-j l = (k : ℕ) → k < l.j → get_or l.class-items k 0 ≡ class_at l.table.classes (get_or l.this.targets k 0)
