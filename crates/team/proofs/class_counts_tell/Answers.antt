use Rattle.team.proofs.Theorems.{counts_are_told}
use Rattle.team.proofs.class_counts_tell.Goals as goal

pub returns : goal.returns
returns c = counts_are_told
