use Rattle.net.specs.Lists.{get_or_zeros}
use Rattle.classing.proofs.table.ClassTable.start.Goals as goal

pub returns : goal.returns
returns c = get_or_zeros 128
