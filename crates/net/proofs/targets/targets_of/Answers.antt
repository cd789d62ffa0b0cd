use Rattle.std.proofs.Common.{◌<◌, arith}
use Rattle.net.specs.Meaning.{transition, total_of}
use Rattle.net.proofs.Spreads.{spreading_place, spreading_room, spreading_more, spreading_next, spreading_done}
use Rattle.net.proofs.targets.targets_of.Goals as goal

pub loop-found-smaller-then-left-gt0 : goal.loop-found-smaller-then-left-gt0
loop-found-smaller-then-left-gt0 g c =
    let m = g.N.Net.meaning c.args.net.now in
    let missing : c.loop-found.found < total_of (transition m c.args.t) = omega (arith, c.loop-found-test.true, c.total.ensures) in
    let room = spreading_room m (g.N.Net.lawful c.args.net.now) c.args.t c.loop-found.p c.loop-found.found c.loop-found.left c.loop-found.targets c.loop-found.invariant missing in
    omega (arith, c.loop-found.invariant.place)

pub loop-found-preserved-then-left-gt0 : goal.loop-found-preserved-then-left-gt0
loop-found-preserved-then-left-gt0 g c =
    spreading_more (g.N.Net.meaning c.args.net.now) (g.N.Net.lawful c.args.net.now) c.args.t c.loop-found.p c.loop-found.found c.loop-found.left c.loop-found.targets c.loop-found.invariant
    (omega (arith, c.loop-found-test.true, c.total.ensures)) c.if-left-gt0.true

pub loop-found-smaller : goal.loop-found-smaller
loop-found-smaller g c =
    let m = g.N.Net.meaning c.args.net.now in
    let missing : c.loop-found.found < total_of (transition m c.args.t) = omega (arith, c.loop-found-test.true, c.total.ensures) in
    let room = spreading_room m (g.N.Net.lawful c.args.net.now) c.args.t c.loop-found.p c.loop-found.found c.loop-found.left c.loop-found.targets c.loop-found.invariant missing in
    let here = spreading_place m (g.N.Net.lawful c.args.net.now) c.args.t c.loop-found.p c.loop-found.found c.loop-found.left c.loop-found.targets c.loop-found.invariant missing in
    omega arith

pub loop-found-preserved : goal.loop-found-preserved
loop-found-preserved g c =
    spreading_next (g.N.Net.meaning c.args.net.now) (g.N.Net.lawful c.args.net.now) c.args.t c.loop-found.p c.loop-found.found c.loop-found.left c.loop-found.targets c.loop-found.invariant
    (omega (arith, c.loop-found-test.true, c.total.ensures)) (omega (arith, c.if-left-gt0.false)) _ c.tokens-left-else-left-gt0.ensures

pub returns : goal.returns
returns g c =
    spreading_done (g.N.Net.meaning c.args.net.now) (g.N.Net.lawful c.args.net.now) c.args.t c.loop-found.p c.loop-found.found c.loop-found.left c.loop-found.targets c.loop-found.invariant
    (omega (arith, c.loop-found-test.false, c.total.ensures))
