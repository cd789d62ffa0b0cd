use Rattle.std.proofs.Common.{refl, arith, rules}
use Rattle.std.proofs.lemmas.Result.{err_from_is_err_and}
use Rattle.net.specs.Markings.{more}
use Rattle.crews.specs.Crews.{on_side}
use Rattle.crews.specs.Benches.{crews_held}
use Rattle.crews.specs.Calls.{crowded}
use Rattle.crews.specs.declared.call.Call.TheVariants.{Put}
use Rattle.crews.proofs.Tables.{shows_held}
use Rattle.crews.proofs.Steps.{unknown_steps, put_refused, put_steps}
use Rattle.crews.proofs.bench.Bench.put.Goals as goal

pub returns-in_err-side : goal.returns-in_err-side
returns-in_err-side g c =
    let b = c.args.self.now in
    let m = g.N.Net.meaning b.net in
    let s = c.args.side in
    let i = c.args.place in
    let k = c.args.count in
    let p = err_from_is_err_and c.from_residual.result c.from_residual.ensures.1 in
    rw (p.1, p.2) (unknown_steps m b (Put s i k) _ m.places s i (crowded (more (on_side (crews_held m b) s) i k)) _ c.places.ensures refl c.in_err-side.ensures)

pub returns-then-count-room : goal.returns-then-count-room
returns-then-count-room g c =
    let b = c.args.self.now in
    put_refused (g.N.Net.meaning b.net) b (shows_held b (search rules) (search rules)) c.args.side c.in_ok-side.side c.crew-crew.result c.in_ok-side.ensures.number c.crew-crew.ensures c.args.place c.args.count
    c.plain.result c.plain.ensures (omega (arith, c.places.ensures, c.in_ok-side.ensures.below)) (omega (arith, c.if-count-room.true, c.room.ensures))

pub returns : goal.returns
returns g c =
    let b = c.args.self.now in
    put_steps (g.N.Net.meaning b.net) b (shows_held b (search rules) (search rules)) c.args.side c.in_ok-side.side c.crew-crew.result c.in_ok-side.ensures.number c.crew-crew.ensures c.replace.new.self c.add.new.self
    c.args.place c.args.count c.replace.ensures c.add.ensures (omega (arith, c.places.ensures, c.in_ok-side.ensures.below)) (omega (arith, c.if-count-room.false, c.room.ensures))
