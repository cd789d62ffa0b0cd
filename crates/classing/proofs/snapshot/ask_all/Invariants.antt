use Rattle.std.proofs.Common.{ℕ, ◌<◌, get_or}
use Rattle.net.specs.Meaning.{transition}
use Rattle.classing.specs.Snapshots.{Keeps, no_move}
use Rattle.classing.proofs.snapshot.ask_all.Given as goal

abbrev pub invariant-loop-t : goal.invariant-loop-t
invariant-loop-t g l =
    (k : ℕ) → k < l.t → Keeps (g.N.Net.meaning l.net).places (transition (g.N.Net.meaning l.net) k) (get_or l.this-items k no_move)
