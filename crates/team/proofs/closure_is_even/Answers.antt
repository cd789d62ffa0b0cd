use Rattle.team.proofs.Theorems.{closure_is_even}
use Rattle.team.proofs.closure_is_even.Goals as goal

pub returns : goal.returns
returns c = closure_is_even
