use Rattle.std.proofs.Common.{rules}
use Rattle.records.specs.AnswerLaws.{start_inside, start_reads, start_tells}
use Rattle.records.proofs.file_net.FileNet.transition.Goals as goal

pub record_at-requires : goal.record_at-requires
record_at-requires c = let s = c.args.self.now in start_inside s.bytes.now s.starts s.count s.tied (search rules) c.args.t c.from.result (search rules) (search rules)

pub of_admitted-requires-clause-kind : goal.of_admitted-requires-clause-kind
of_admitted-requires-clause-kind c =
    let s = c.args.self.now in
    start_reads s.bytes.now s.starts s.count s.tied (search rules) c.args.t c.from.result (search rules) (search rules) c.record_at.result.now c.record_at.ensures.value

pub returns : goal.returns
returns c =
    let s = c.args.self.now in
    start_tells s.bytes.now s.starts s.count s.tied (search rules) c.args.t c.from.result (search rules) (search rules) c.record_at.result.now c.record_at.ensures.value c.of_admitted.result c.of_admitted.ensures
