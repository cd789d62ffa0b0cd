use Rattle.team.proofs.Theorems.{follow_finds, follow_keeps, pairs_turn}
use Rattle.team.proofs.follow_succeeds.Goals as goal

pub returns : goal.returns
returns c = record { finds = follow_finds; keeps = follow_keeps; turn = pairs_turn }
