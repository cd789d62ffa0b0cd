use Rattle.std.proofs.Common.{◌≡◌, ℕ, ◌-◌, ◌<◌, false}
use Rattle.team.specs.Stages.{stable}
use Rattle.team.proofs.Tables.{Holds}
use Rattle.classing.proofs.refine.Partition.of.Given as goal

abbrev pub invariant-stages : goal.invariant-stages
invariant-stages g l =
    Holds (g.N.Net.meaning l.net) l.rounds l.table.classes
    × ((i : ℕ) → i < l.rounds → stable (g.N.Net.meaning l.net) i ≡ false)

abbrev pub decreases-stages : goal.decreases-stages
decreases-stages g l = (g.N.Net.meaning l.net).places - l.rounds
