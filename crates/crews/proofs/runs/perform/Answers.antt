use Rattle.crews.proofs.Replaying.{extends}
use Rattle.crews.proofs.runs.perform.Goals as goal

pub returns-clause-extends : goal.returns-clause-extends
returns-clause-extends g c = extends _ _ _ _ _ c.answer.ensures
