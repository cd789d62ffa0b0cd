use Rattle.team.proofs.Theorems.{greedy_is_greatest, greedy_is_short}
use Rattle.team.proofs.greedy_is_greatest.Goals as goal

pub returns : goal.returns
returns c = record { greatest = greedy_is_greatest; short = greedy_is_short }
