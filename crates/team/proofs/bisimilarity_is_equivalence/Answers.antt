use Rattle.team.proofs.Theorems.{bisimilarity_is_equivalence}
use Rattle.team.proofs.bisimilarity_is_equivalence.Goals as goal

pub returns : goal.returns
returns c = bisimilarity_is_equivalence
