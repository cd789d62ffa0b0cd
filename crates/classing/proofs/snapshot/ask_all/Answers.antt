use Rattle.std.proofs.Common.{◌≡◌, length, arith, rules}
use Rattle.net.specs.Meaning.{transition}
use Rattle.classing.specs.Snapshots.{Keeps, no_move}
use Rattle.classing.proofs.Writes.{front_holds}
use Rattle.classing.proofs.snapshot.ask_all.Goals as goal

pub returns : goal.returns
returns g c =
    let m = g.N.Net.meaning c.args.net.now in
    let few = (g.N.Net.lawful c.args.net.now).few_transitions in
    let long : length c.loop-t.this-items ≡ c.transitions.result = search rules in
    λ t l. front_holds (λ k x. Keeps m.places (transition m k) x) c.loop-t.this-items _ no_move (λ k r. c.loop-t.invariant k (omega arith)) t (omega (arith, long, c.transitions.ensures))
