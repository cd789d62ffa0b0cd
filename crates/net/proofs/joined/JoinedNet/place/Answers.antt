use Rattle.std.proofs.Common.{ap, arith}
use Rattle.net.specs.Limits.{place_small}
use Rattle.net.specs.JoinLaws.{joined_lawful}
use Rattle.net.proofs.joined.JoinedNet.place.Goals as goal

-- the sum is a place of the joined net
pub overflow_add-result : goal.overflow_add-result
overflow_add-result g c =
    let here = c.args.self.now in
    let small = place_small _ (joined_lawful _ _ (g.A1.Net.lawful here.left) (g.B1.Net.lawful here.right)) c.args.t in
    omega (arith, small, ap (λ x. x.place) (rw c.in-Some-Right.field-0-is at c.in-Some-Right.ensures), c.place-in-Some-Right.ensures)
