use Rattle.std.proofs.Common.{length}
use Rattle.crews.proofs.ClassSums.{Counting}
use Rattle.crews.proofs.crewed.Crewed.class_sums.Given as goal

abbrev pub invariant-loop-class : goal.invariant-loop-class
invariant-loop-class l =
    (goal.iterator-loop-class).can_next l.class-iterator
    × (goal.iterator-loop-class).is_finite l.class-iterator
    × Counting (length l.yielded) l.self.classes.now l.counts l.class-iterator.a.rest.now l.class-iterator.b.rest.now l.sums
