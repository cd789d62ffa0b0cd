use Rattle.std.proofs.Common.{arith}
use Rattle.classing.proofs.Runs.{run_numbers}
use Rattle.classing.proofs.snapshot.Snapshot.moves_of.Goals as goal

pub returns-then-place-lt-MOST_PLACES : goal.returns-then-place-lt-MOST_PLACES
returns-then-place-lt-MOST_PLACES c =
    let s = c.args.self.now in
    run_numbers s.places s.count s.moves s.starts s.order s.sound (omega arith) c.args.place c.if-place-lt-MOST_PLACES.true
