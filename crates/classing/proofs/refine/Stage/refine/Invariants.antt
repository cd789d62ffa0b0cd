use Rattle.std.proofs.Common.{◌≡◌, ℕ, ◌<◌, length, get_or}
use Rattle.net.specs.Limits.{most_places}
use Rattle.classing.specs.Staying.{LowestStay}
use Rattle.classing.proofs.refine.Stage.refine.Given as goal

abbrev pub invariant-loop-p : goal.invariant-loop-p
invariant-loop-p l =
    (length l.next.classes ≡ most_places)
    × ((k : ℕ) → k < l.p → LowestStay l.self.snapshot.now l.self.profiles.now l.self.table.now.classes k (get_or l.next.classes k 0))
