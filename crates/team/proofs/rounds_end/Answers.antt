use Rattle.team.proofs.Theorems.{rounds_end}
use Rattle.team.proofs.rounds_end.Goals as goal

pub returns : goal.returns
returns c = rounds_end
