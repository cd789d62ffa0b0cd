use Rattle.team.proofs.Theorems.{classes_decide}
use Rattle.team.proofs.classes_decide.Goals as goal

pub returns : goal.returns
returns c = classes_decide
