use Rattle.std.proofs.Common.{◌≡◌, ap, ◌∙◌}
use Rattle.records.specs.Layout.{record_at}
use Rattle.records.specs.Entry.{reading}
use Rattle.records.specs.Tokens.{tokens_said}
use Rattle.records.proofs.CrewLaws.{put_of}
use Rattle.records.proofs.file_net.FileNet.token_record.Goals as goal

pub returns-clause-crews : goal.returns-clause-crews
returns-clause-crews c =
    let b = c.args.self.now.bytes.now in
    let is : c.read.result ≡ tokens_said (reading (record_at b c.args.k)) = c.read.ensures ∙ ap (λ r. tokens_said (reading r)) c.record_at.ensures.value in
    put_of b c.args.k c.read.result is
