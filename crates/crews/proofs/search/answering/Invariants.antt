use Rattle.std.proofs.Common.{◌≡◌, ℕ, ◌<◌}
use Rattle.net.specs.Meaning.{transition}
use Rattle.crews.specs.Counting.{in_class}
use Rattle.crews.specs.Following.{FitsBy}
use Rattle.crews.proofs.search.answering.Given as goal

abbrev pub invariant-next : goal.invariant-next
invariant-next g l = (v : ℕ) → v < l.u → FitsBy (g.N.Net.meaning l.net) l.table.classes l.crew l.t v → ⊥

abbrev pub invariant-loop-class : goal.invariant-loop-class
invariant-loop-class g l =
    let m = g.N.Net.meaning l.net in
    (k : ℕ) → k < l.class → in_class m.places l.table.classes (transition m l.u).puts k ≡ in_class m.places l.table.classes (transition m l.t).puts k
