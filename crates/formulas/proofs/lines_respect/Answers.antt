use Rattle.formulas.proofs.Respects.{lines_respect}
use Rattle.formulas.proofs.lines_respect.Goals as goal

pub returns : goal.returns
returns c = lines_respect
