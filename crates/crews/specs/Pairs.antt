-- The table that pairs two crews greedily by classes.
use Rattle.team.specs.Tables.{same}
use Rattle.team.specs.Pairings.{Cells, greedy}
use Rattle.crews.specs.declared.crewed.Crewed.{Crewed}

abbrev pub table_of : Crewed → Cells
table_of x = greedy (same x.classes.now) x.left.now x.right.now
