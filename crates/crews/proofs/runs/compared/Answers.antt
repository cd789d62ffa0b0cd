use Rattle.std.proofs.Common.{refl, arith, rules}
use Rattle.std.proofs.lemmas.List.{length-take}
use Rattle.std.proofs.lemmas.Result.{err_from_is_err_and}
use Rattle.crews.specs.declared.swap.TheConstants.{MOST_SWAPS}
use Rattle.crews.proofs.Comparing.{compared_alike, compared_apart, compared_refused}
use Rattle.crews.proofs.runs.compared.Goals as goal

pub returns-in_err-used : goal.returns-in_err-used
returns-in_err-used g c =
    let b = c.args.bench.now in
    let p = err_from_is_err_and c.from_residual.result c.from_residual.ensures.1 in
    rw (p.1, p.2) (compared_refused (g.N.Net.meaning b.net) b c.args.room MOST_SWAPS (omega (arith, (g.N.Net.lawful b.net).few_places)) _ _ (search (rules, length-take)) _ c.in_err-used.ensures)

pub returns-in-Alike : goal.returns-in-Alike
returns-in-Alike g c =
    let b = c.args.bench.now in
    compared_alike (g.N.Net.meaning b.net) b c.args.room MOST_SWAPS (omega (arith, (g.N.Net.lawful b.net).few_places)) _ c.compare.new.list (search (rules, length-take)) _ _ _ (rw c.in-Alike.is at c.in_ok-used.ensures) refl

pub returns-in-Apart : goal.returns-in-Apart
returns-in-Apart g c =
    let b = c.args.bench.now in
    compared_apart (g.N.Net.meaning b.net) b c.args.room MOST_SWAPS (omega (arith, (g.N.Net.lawful b.net).few_places)) _ c.compare.new.list (search (rules, length-take)) _ (rw c.in-Apart.is at c.in_ok-used.ensures)
