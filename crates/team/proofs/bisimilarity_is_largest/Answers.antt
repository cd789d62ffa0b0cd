use Rattle.team.proofs.Theorems.{bisimilarity_is_largest}
use Rattle.team.proofs.bisimilarity_is_largest.Goals as goal

pub returns : goal.returns
returns c = bisimilarity_is_largest
