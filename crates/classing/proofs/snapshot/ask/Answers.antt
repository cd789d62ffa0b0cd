use Rattle.std.proofs.Common.{sym, subst}
use Rattle.net.specs.Meaning.{transition}
use Rattle.net.specs.Limits.{most_total}
use Rattle.classing.specs.Targets.{Spells}
use Rattle.classing.proofs.Targets.{spells}
use Rattle.classing.proofs.snapshot.ask.Goals as goal

pub returns : goal.returns
returns g c =
    let m = g.N.Net.meaning c.args.net.now in
    let onto = spells m (g.N.Net.lawful c.args.net.now) c.args.t in
    record { from = c.place.ensures; labelled = c.label.ensures; onto = subst (Spells most_total m.places (transition m c.args.t).puts) (sym c.targets_of.ensures) onto }
