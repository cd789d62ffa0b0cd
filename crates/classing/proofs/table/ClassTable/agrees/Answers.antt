use Rattle.std.proofs.Common.{arith}
use Rattle.classing.proofs.Fronts.{agree_fronts}
use Rattle.classing.proofs.table.ClassTable.agrees.Goals as goal

pub returns : goal.returns
returns c = agree_fronts c.args.n c.args.self.now.classes c.args.other.now.classes (omega arith) (omega arith) c.eq.result c.eq.ensures
