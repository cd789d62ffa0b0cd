use Rattle.records.proofs.CrewLaws.{crew_none}
use Rattle.records.proofs.file_net.FileNet.records.Goals as goal

pub returns-clause-start : goal.returns-clause-start
returns-clause-start c = crew_none c.args.self.now.bytes.now
