use Rattle.std.proofs.Common.{◌∙◌, below_more}
use Rattle.std.proofs.lemmas.Bool.Decides.{not_from_Decides}
use Rattle.classing.proofs.Staying.{stays_later}
use Rattle.classing.proofs.refine.Stage.lowest.Goals as goal
use Rattle.classing.proofs.refine.Stage.lowest.Goals.{else-from-q-via-then-from-q+else-keeps, else-from-q-via-else-from-q}

pub loop-q-preserved : goal.loop-q-preserved
loop-q-preserved c =
    below_more _ _ c.loop-q.invariant
    (elim c.else-from-q.branch [
      | else-from-q-via-then-from-q+else-keeps w ↦ not_from_Decides _ w.keeps.ensures w.if-keeps.false
      | else-from-q-via-else-from-q w ↦ stays_later c.args.self.now.snapshot.now c.args.self.now.profiles.now c.args.self.now.table.now.classes c.args.p c.loop-q.q _
          (c.requires.done c.loop-q.q c.loop-q-test.true) (λ e. w.if-from-q.false (c.from.ensures ∙ e)) c.loop-q.invariant
    ])
