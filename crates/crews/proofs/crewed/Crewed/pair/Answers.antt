use Rattle.std.proofs.Common.{arith}
use Rattle.net.specs.Lists.{get_or_zeros}
use Rattle.crews.proofs.RowCells.{list_short}
use Rattle.crews.proofs.crewed.Crewed.pair.Goals as goal

pub loop-p-init : goal.loop-p-init
loop-p-init c = ((λ j _. get_or_zeros 128 j), c.new-list.ensures)

pub returns-clause-short : goal.returns-clause-short
returns-clause-short c =
    let short = list_short c.args.self.now in
    grind (arith, short)
