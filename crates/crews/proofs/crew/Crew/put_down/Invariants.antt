use Rattle.net.specs.Meaning.{transition}
use Rattle.crews.proofs.PutDown.{Going}
use Rattle.crews.proofs.crew.Crew.put_down.Given as goal

abbrev pub invariant-loop-place : goal.invariant-loop-place
invariant-loop-place g l = Going l.self.counts (transition (g.N.Net.meaning l.net) l.transition).puts l.place l.left l.counts
