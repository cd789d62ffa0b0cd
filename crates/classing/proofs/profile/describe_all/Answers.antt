use Rattle.std.proofs.Common.{get_or, arith}
use Rattle.classing.specs.Snapshots.{no_move}
use Rattle.classing.specs.Profiles.{no_profile, ProfileOf}
use Rattle.classing.proofs.Writes.{write_more}
use Rattle.classing.proofs.profile.describe_all.Goals as goal

pub loop-k-preserved : goal.loop-k-preserved
loop-k-preserved c =
    let s = c.args.snapshot.now in
    write_more (λ k x. ProfileOf c.args.table.now.classes (get_or s.moves (get_or s.order k 0) no_move) x) c.loop-k.profile-items c.loop-k.k c.describe.new.profile no_profile
    (omega arith) c.loop-k.invariant (rw (← c.from.ensures) c.describe.ensures)
