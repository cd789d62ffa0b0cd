use Rattle.team.proofs.Theorems.{closure_is_pairing}
use Rattle.team.proofs.closure_is_pairing.Goals as goal

pub returns : goal.returns
returns c = closure_is_pairing
