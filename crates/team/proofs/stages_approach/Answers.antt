use Rattle.team.proofs.Theorems.{teams_lie_in_stages, stable_stages_are_teams}
use Rattle.team.proofs.stages_approach.Goals as goal

pub returns : goal.returns
returns c = record { contain = teams_lie_in_stages; settle = stable_stages_are_teams }
