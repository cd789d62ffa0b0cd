use Rattle.std.proofs.Common.{ap, arith}
use Rattle.net.specs.Limits.{most_total}
use Rattle.classing.specs.Targets.{no_target, times}
use Rattle.classing.specs.Snapshots.{no_move}
use Rattle.classing.specs.declared.snapshot.Move.{Move}
use Rattle.class_tests.specs.ListingLaws.{listed_total}
use Rattle.class_tests.proofs.listed.ListedNet.total.Goals as goal

pub returns-in-Some : goal.returns-in-Some
returns-in-Some c =
    let x = c.args.self.now in
    let (l, row) = rw c.deref.ensures.0 at c.in-Some.ensures.lookup.3 in
    omega (arith, c.times_in.ensures, ap (λ (k : Move). times most_total k.targets no_target) (row no_move), listed_total x.places x.rows.items x.ok c.args.t l)
