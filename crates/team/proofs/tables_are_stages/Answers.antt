use Rattle.team.proofs.Theorems.{tables_are_stages}
use Rattle.team.proofs.tables_are_stages.Goals as goal

pub returns : goal.returns
returns c = tables_are_stages
