use Rattle.std.proofs.Common.{◌∙◌, arith, length-set}
use Rattle.classing.specs.Staying.{LowestStay}
use Rattle.classing.proofs.Writes.{write_more}
use Rattle.classing.proofs.refine.Stage.refine.Goals as goal

pub loop-p-preserved : goal.loop-p-preserved
loop-p-preserved c = (
  length-set c.loop-p.next.classes c.loop-p.p c.lowest.result ∙ c.loop-p.invariant.0,
  write_more (λ k x. LowestStay c.args.self.now.snapshot.now c.args.self.now.profiles.now c.args.self.now.table.now.classes k x) c.loop-p.next.classes c.loop-p.p c.lowest.result 0
      (omega (arith, c.loop-p.invariant.0, c.args.self.now.snapshot.now.sound.few_places)) c.loop-p.invariant.1 c.lowest.ensures,
)
