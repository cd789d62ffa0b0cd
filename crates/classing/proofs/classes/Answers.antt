use Rattle.std.proofs.Common.{◌∙◌, arith}
use Rattle.team.specs.Classes.{class_of}
use Rattle.team.specs.Stages.{rounds}
use Rattle.team.proofs.Tables.{Holds}
use Rattle.team.proofs.Classes.{holds_classes}
use Rattle.classing.proofs.Writes.{written_whole}
use Rattle.classing.proofs.classes.Goals as goal

pub returns : goal.returns
returns g c =
    let m = g.N.Net.meaning c.args.net.now in
    let law = g.N.Net.lawful c.args.net.now in
    let holds : Holds m (rounds m) c.write.new.list = λ p l. c.write.ensures.written p (omega (arith, c.places-n.ensures)) ∙ c.of-partition.ensures.named p l in (
      (λ h. absurd (omega arith), tt),
      record {
        classes = holds_classes m law c.write.new.list holds;
        written = written_whole (class_of m) m.places c.args.list.now c.write.new.list (omega arith) (omega arith) holds
            (λ p l. c.write.ensures.kept p (omega (arith, c.places-n.ensures)));
        after_rounds = c.of-partition.ensures.rounds;
      },
    )
