use Rattle.crews.proofs.RowCells.{RowGoing}
use Rattle.crews.proofs.crewed.Crewed.pair_row.Given as goal

abbrev pub invariant-loop-q : goal.invariant-loop-q
invariant-loop-q l = RowGoing l.self l.p l.q l.initial.list.items l.taken l.have l.list.items
