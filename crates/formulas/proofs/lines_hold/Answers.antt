use Rattle.formulas.proofs.Agrees.{lines_hold}
use Rattle.formulas.proofs.lines_hold.Goals as goal

pub returns : goal.returns
returns c = lines_hold
