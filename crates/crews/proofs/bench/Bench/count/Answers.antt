use Rattle.std.proofs.Common.{[], refl, arith, rules}
use Rattle.std.proofs.lemmas.Result.{err_from_is_err_and}
use Rattle.crews.specs.declared.call.Call.TheVariants.{Count}
use Rattle.crews.proofs.Tables.{shows_held}
use Rattle.crews.proofs.Steps.{unknown_steps, count_steps}
use Rattle.crews.proofs.bench.Bench.count.Goals as goal

pub returns-in_err-side : goal.returns-in_err-side
returns-in_err-side g c =
    let b = c.args.self.now in
    let m = g.N.Net.meaning b.net in
    let p = err_from_is_err_and c.from_residual.result c.from_residual.ensures.1 in
    rw (p.1, p.2)
    (unknown_steps m b (Count c.args.side c.args.place) _ m.places c.args.side c.args.place [] _ c.places.ensures refl c.in_err-side.ensures)

pub returns : goal.returns
returns g c =
    let b = c.args.self.now in
    count_steps (g.N.Net.meaning b.net) b (shows_held b (search rules) (search rules)) c.args.side c.in_ok-side.side c.crew.result c.in_ok-side.ensures.number c.crew.ensures c.args.place c.at.result c.at.ensures
    (omega (arith, c.places.ensures, c.in_ok-side.ensures.below))
