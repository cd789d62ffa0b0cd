use Rattle.std.proofs.Common.{◌≡◌, length, refl, arith, rules}
use Rattle.std.proofs.lemmas.Result.{err_from_is_err_and}
use Rattle.net.specs.Markings.{fired}
use Rattle.crews.specs.Crews.{on_side}
use Rattle.crews.specs.Benches.{crews_held}
use Rattle.crews.specs.Calls.{crowded}
use Rattle.crews.specs.declared.call.Call.TheVariants.{Fire}
use Rattle.crews.proofs.Tables.{holds_ends, shows_held}
use Rattle.crews.proofs.Steps.{holds_after, not_ready_steps, fire_crowded, fire_steps, sum_ready}
use Rattle.crews.proofs.bench.Bench.fire.Goals as goal

pub returns-in_err-side : goal.returns-in_err-side
returns-in_err-side g c =
    let b = c.args.self.now in
    let m = g.N.Net.meaning b.net in
    let s = c.args.side in
    let t = c.args.transition in
    let p = err_from_is_err_and c.from_residual.result c.from_residual.ensures.1 in
    rw (p.1, p.2) (not_ready_steps m b (Fire s t) s t (crowded (fired m t (on_side (crews_held m b) s))) _ refl c.in_err-side.ensures)

pub returns-then-from-room : goal.returns-then-from-room
returns-then-from-room g c =
    let b = c.args.self.now in
    let m = g.N.Net.meaning b.net in
    let law = g.N.Net.lawful b.net in
    let y = c.crew-crew.result in
    let ready = c.in_ok-side.ensures in
    let whole : length y.counts ≡ 128 = search rules in
    let all = sum_ready m b law ready c.crew-crew.ensures whole in
    fire_crowded m b law ready c.crew-crew.ensures (shows_held b (search rules) (search rules)) c.plain.result c.plain.ensures
    (omega (arith, all, c.if-from-room.true, c.room.ensures, c.total.ensures, c.from.ensures))

pub fire-requires-clause-fits : goal.fire-requires-clause-fits
fire-requires-clause-fits g c =
    let b = c.args.self.now in
    let m = g.N.Net.meaning b.net in
    let y = c.crew-crew.result in
    let ready = c.in_ok-side.ensures in
    let whole : length y.counts ≡ 128 = search rules in
    let all = sum_ready m b (g.N.Net.lawful b.net) ready c.crew-crew.ensures whole in
    omega (arith, all, c.if-from-room.false, c.room.ensures, c.total.ensures, c.from.ensures)

pub replace-requires : goal.replace-requires
replace-requires g c =
    let b = c.args.self.now in
    let m = g.N.Net.meaning b.net in
    holds_ends _ _ _ (holds_after m b (g.N.Net.lawful b.net) c.in_ok-side.ensures c.crew-crew.ensures (shows_held b (search rules) (search rules)) c.fire.new.self c.fire.ensures)

pub returns : goal.returns
returns g c =
    let b = c.args.self.now in
    let m = g.N.Net.meaning b.net in
    let law = g.N.Net.lawful b.net in
    let y = c.crew-crew.result in
    let ready = c.in_ok-side.ensures in
    let whole : length y.counts ≡ 128 = search rules in
    let all = sum_ready m b law ready c.crew-crew.ensures whole in
    fire_steps m b law ready c.crew-crew.ensures (shows_held b (search rules) (search rules)) c.replace.new.self c.fire.new.self c.replace.ensures c.fire.ensures
    (omega (arith, all, c.if-from-room.false, c.room.ensures, c.total.ensures, c.from.ensures))
