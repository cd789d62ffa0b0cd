use Rattle.std.proofs.Common.{length, ap, sym, ◌∙◌, arith}
use Rattle.crews.proofs.Comparing.{says_apart, says_alike}
use Rattle.crews.proofs.bench.Bench.compare.Goals as goal

pub returns-in-Some : goal.returns-in-Some
returns-in-Some g c =
    let b = c.args.self.now in
    says_apart (g.N.Net.meaning b.net) b (g.N.Net.lawful b.net) c.crewed-crewed.result c.crewed-crewed.ensures c.args.list.now
    (omega (arith, c.places.ensures, c.if-list-places.false)) c.in-Some.d c.in-Some.ensures

pub returns-in-None : goal.returns-in-None
returns-in-None g c =
    let b = c.args.self.now in
    let copied = c.copy_from_slice.ensures.after ∙ c.deref.ensures.0 in
    says_alike (g.N.Net.meaning b.net) b (g.N.Net.lawful b.net) c.crewed-crewed.result c.crewed-crewed.ensures c.args.list.now
    (omega (arith, c.places.ensures, c.if-list-places.false)) c.len-used.result c.copy_from_slice.new.self c.in-None.ensures (copied ∙ c.pair-swaps.ensures.listed) (c.len-used.ensures.value ∙ ap length (sym copied))
